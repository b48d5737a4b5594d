use Rattle.std.proofs.Common.{refl, ◌≡◌, ◌∙◌, ap, sym, List, map, None, ◌∷◌}
use Rattle.exact.specs.declared.spot.Spot.{Spot}
use Rattle.hpgl_plot.specs.Machine.{seen}
use Rattle.hpgl_plot.proofs.Sound.{as_far}
use Rattle.hpgl_plot.proofs.Travels.{stopped}
use Rattle.full_plot.specs.Bold.{bold_line, bold_lines}
use Rattle.full_plot.specs.Texts.{line_at}
use Rattle.full_plot.proofs.BoldLines.{bold_keeps, bold_more, bold_out}
use Rattle.full_plot.proofs.bold.ink_bold.Goals as goal

pub returns-in_err-ink_bold_stroke : goal.returns-in_err-ink_bold_stroke
returns-in_err-ink_bold_stroke c =
    let w = seen c.strokes.plotter in
    let v = seen c.ink_bold_stroke.new.plotter in
    let start = c.args.plotter.now.state.place in
    let s : Spot × Spot = (c.in-Some.from, c.in-Some.to) in
    let rest = map (line_at start) c.next_stroke.new.self in
    let all : bold_lines w (line_at start s ∷ rest) ≡ bold_lines (seen c.args.plotter.now) (map (line_at start) c.args.strokes) =
    sym (ap (λ (ss : List (Spot × Spot)). bold_lines w (map (line_at start) ss)) c.in-Some.ensures.taken) ∙ c.strokes.invariant.same in
    stopped (bold_line w (line_at start s)) (bold_lines (seen c.args.plotter.now) (map (line_at start) c.args.strokes)) v v
    c.in_err-ink_bold_stroke.field-0.0 c.from_residual.result
    (λ (h : bold_line w (line_at start s) ≡ None). sym all ∙ bold_out w (line_at start s) rest h)
    c.in_err-ink_bold_stroke.ensures c.from_residual.ensures.1

pub strokes-preserved : goal.strokes-preserved
strokes-preserved c =
    let w = seen c.strokes.plotter in
    let v = seen c.ink_bold_stroke.new.plotter in
    let start = c.args.plotter.now.state.place in
    let s : Spot × Spot = (c.in-Some.from, c.in-Some.to) in
    let rest = map (line_at start) c.next_stroke.new.self in
    let n = bold_keeps w v (line_at start s) c.in_ok-ink_bold_stroke.ensures in
    let i = c.strokes.invariant in
    record {
      kept = record { page_is = n.page_is ∙ i.kept.page_is; range_is = n.range_is ∙ i.kept.range_is; state_is = n.state_is ∙ i.kept.state_is };
      same = sym (bold_more w v (line_at start s) rest c.in_ok-ink_bold_stroke.ensures)
          ∙ sym (ap (λ (ss : List (Spot × Spot)). bold_lines w (map (line_at start) ss)) c.in-Some.ensures.taken) ∙ i.same;
    }

pub returns : goal.returns
returns c =
    let w = seen c.strokes.plotter in
    let start = c.args.plotter.now.state.place in
    sym c.strokes.invariant.same ∙ ap (λ (ss : List (Spot × Spot)). bold_lines w (map (line_at start) ss)) (c.in_default.ensures.none refl)

pub ink_bold_stroke-requires-clause-start_in : goal.ink_bold_stroke-requires-clause-start_in
ink_bold_stroke-requires-clause-start_in c =
    let sound = c.args.plotter.now.sound in
    as_far _ c.args.plotter.now.state.place sound.range_in sound.place

pub ink_bold_stroke-requires-clause-from_in : goal.ink_bold_stroke-requires-clause-from_in
ink_bold_stroke-requires-clause-from_in c = c.in-Some.ensures.within.from_in

pub ink_bold_stroke-requires-clause-to_in : goal.ink_bold_stroke-requires-clause-to_in
ink_bold_stroke-requires-clause-to_in c = c.in-Some.ensures.within.to_in
