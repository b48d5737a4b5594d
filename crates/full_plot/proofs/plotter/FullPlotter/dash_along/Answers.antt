use Rattle.std.proofs.Common.{◌≡◌, ◌≤◌, ◌+◌, ◌∷◌, ◌∙◌, [], List, length, drop, drop-cons, ap, arith, suc, slice_index_or, pos, sym, rules}
use Rattle.std.proofs.Math.ListN.{drop_of_length-le}
use Rattle.exact.specs.declared.spot.Spot.{Spot}
use Rattle.std.specs.Bool.{⊤}
use Rattle.hpgl_plot.specs.Machine as core
use Rattle.full_plot.specs.Lines.{drawn_along}
use Rattle.full_plot.specs.Machine.{seen}
use Rattle.full_plot.proofs.FullRuns.{stopped}
use Rattle.full_plot.proofs.LinesAlong.{along_end, along_none, along_out, along_shape, core_stopped, one_along}
use Rattle.full_plot.proofs.plotter.FullPlotter.dash_along.Goals as goal

pub returns-in_err-begin : goal.returns-in_err-begin
returns-in_err-begin c =
    let w = seen c.args.self.now in
    core_stopped ⊤ (core.travelled w.core c.args.draws (c.args.start ∷ [])) (drawn_along w c.args.draws (c.args.start ∷ c.args.places.now)) w.core _
    c.in_err-begin.field-0.0 c.from_residual.result (along_out w c.args.draws c.args.start c.args.places.now)
    (c.in_err-begin.ensures.runs c.args.draws) c.from_residual.ensures.1

pub loop-place-preserved : goal.loop-place-preserved
loop-place-preserved c =
    let w = seen c.loop-place.self in
    let v = seen c.dash_to.new.self in
    let draws = c.args.draws in
    let from = c.loop-place.from in
    let places = c.args.places.now in
    let k = c.loop-place.place-index in
    let place : Spot = slice_index_or places k (record { x = pos 0; y = pos 0 }) in
    let ran = c.in_ok-dash_to.ensures.runs in
    record {
      shape = c.loop-place.invariant.shape ∙ sym (along_shape w v draws (from ∷ (place ∷ [])) ran);
      from_in = c.in_ok-dash_to.ensures.in_range;
      same = one_along w v draws from (record { x = pos 0; y = pos 0 }) places k (search rules) ran ∙ c.loop-place.invariant.same;
    }

pub returns-in_err-dash_to : goal.returns-in_err-dash_to
returns-in_err-dash_to c =
    let w = seen c.loop-place.self in
    let v = seen c.dash_to.new.self in
    let draws = c.args.draws in
    let from = c.loop-place.from in
    let places : List Spot = c.args.places.now in
    let k = c.loop-place.place-index in
    let nowhere : Spot = record { x = pos 0; y = pos 0 } in
    let place : Spot = slice_index_or places k nowhere in
    let next : suc k ≡ k + 1 = omega arith in
    let left = rw next at (drop-cons places k nowhere c.loop-place-test.true) in
    let all = drawn_along (seen c.args.self.now) draws (c.args.start ∷ places) in
    let same = sym c.loop-place.invariant.same ∙ ap (λ (qs : List Spot). drawn_along w draws (from ∷ qs)) left in
    stopped ⊤ (drawn_along w draws (from ∷ (place ∷ []))) all v v c.in_err-dash_to.field-0.0 c.from_residual-in_err-dash_to.result
    (λ h. same ∙ along_none w draws from place (drop (k + 1) places) h) c.in_err-dash_to.ensures.runs
    c.from_residual-in_err-dash_to.ensures.1

pub returns : goal.returns
returns c =
    let w = seen c.loop-place.self in
    let draws = c.args.draws in
    let from = c.loop-place.from in
    let places : List Spot = c.args.places.now in
    let done : length places ≤ c.loop-place.place-index = omega (arith, c.loop-place-test.false) in
    sym c.loop-place.invariant.same
    ∙ ap (λ (qs : List Spot). drawn_along w draws (from ∷ qs)) (drop_of_length-le places done)
    ∙ along_end w draws from c.loop-place.invariant.from_in
