use Rattle.std.proofs.Common.{◌≡◌, ◌∙◌, ◌+◌, ap, sym, suc, arith, pos, drop, drop-cons, slice_index_or, List, [], ◌∷◌}
use Rattle.exact.specs.declared.spot.Spot.{Spot}
use Rattle.hpgl_plot.specs.Machine.{seen, travelled}
use Rattle.hpgl_plot.proofs.Fed.{travelled_more, travelled_out}
use Rattle.hpgl_plot.proofs.Travels.{stopped}
use Rattle.hpgl_plot.proofs.plotter.Plotter.travel.Goals as goal

pub returns-in_err-begin : goal.returns-in_err-begin
returns-in_err-begin c =
    let w = seen c.args.self.now in
    let draws = c.args.draws in
    stopped (travelled w draws (c.args.start ∷ [])) _ w w c.in_err-begin.field-0.0 c.from_residual.result
    (travelled_out w draws c.args.start c.args.places.now) (c.in_err-begin.ensures.runs draws) c.from_residual.ensures.1

pub loop-place-preserved : goal.loop-place-preserved
loop-place-preserved c =
    let w = seen c.loop-place.self in
    let v = seen c.reach.new.self in
    let i = c.loop-place.place-index in
    let places : List Spot = c.args.places.now in
    let nowhere : Spot = record { x = pos 0; y = pos 0 } in
    let next : suc i ≡ i + 1 = omega arith in
    let left = rw next at (drop-cons places i nowhere c.loop-place-test.true) in
    record {
      from_in = c.in_ok-reach.ensures.in_range;
      same = sym (travelled_more w v c.args.draws c.loop-place.from (slice_index_or places i nowhere) (drop (i + 1) places) c.in_ok-reach.ensures.runs)
          ∙ sym (ap (λ (qs : List Spot). travelled w c.args.draws (c.loop-place.from ∷ qs)) left)
          ∙ c.loop-place.invariant.same;
    }
