use Rattle.std.proofs.Common.{◌∙◌, sym, set, ap}
use Rattle.std.proofs.lemmas.List.Edits.{map_over_more}
use Rattle.plot_page.specs.Segments.{Segment}
use Rattle.turning.specs.Turns.{turned_if_selected}
use Rattle.turning.proofs.strokes.turn_strokes.Goals as goal

pub loop-stroke-preserved : goal.loop-stroke-preserved
loop-stroke-preserved c =
    let i = c.loop-stroke.stroke-index in
    let strokes = c.loop-stroke.strokes in
    let stroke : Segment = c.stroke-item.result in
    let f : Segment → Segment = turned_if_selected c.args.pens.now c.args.turn c.args.page.now in
    ap (set strokes i) (c.turned_if_selected.ensures ∙ ap f (sym c.stroke-item.is))
    ∙ map_over_more f c.args.strokes.now strokes i stroke c.loop-stroke-test.true c.loop-stroke.invariant c.stroke-item.is
