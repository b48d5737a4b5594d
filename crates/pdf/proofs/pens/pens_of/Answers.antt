use Rattle.std.proofs.Common.{◌∙◌, ◌||◌, ◌&&◌, ◌==◌, Bool, List, ap, sym, take}
use Rattle.plot_page.specs.Segments.{Segment}
use Rattle.stroke_runs.specs.Drawn.{is_drawn}
use Rattle.pdf.specs.Documents.{has_drawn}
use Rattle.pdf.proofs.DrawnPens.{drawn_more, take_next}
use Rattle.pdf.proofs.pens.pens_of.Goals as goal

pub loop-stroke-preserved : goal.loop-stroke-preserved
loop-stroke-preserved c = λ pen lt.
    let pens = c.args.pens.now in
    let strokes = c.args.strokes.now in
    let i = c.loop-stroke.stroke-index in
    let s = c.stroke-item.result in
    c.with_drawn-drawn.ensures pen lt ∙ ap (λ (b : Bool). b || (is_drawn pens s && (pen == s.pen))) (c.loop-stroke.invariant pen lt)
    ∙ sym (drawn_more pens (take i strokes) s pen) ∙ ap (λ (zs : List Segment). has_drawn pens zs pen) (sym (take_next strokes i s c.loop-stroke-test.true c.stroke-item.is))
