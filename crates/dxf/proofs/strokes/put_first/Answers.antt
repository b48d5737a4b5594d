use Rattle.std.proofs.Common.{◌∙◌, List, ap, arith, sym}
use Rattle.pieces.proofs.Texts.{puts_as}
use Rattle.plot_page.specs.Segments.{Segment}
use Rattle.svg.proofs.Texts.{next_item}
use Rattle.dxf.specs.Steps.{after_first, first_text}
use Rattle.dxf.proofs.strokes.put_first.Goals as goal

pub returns-in-len1-up-clause-puts : goal.returns-in-len1-up-clause-puts
returns-in-len1-up-clause-puts g c =
    let next = next_item c.args.rest.now 0 c.stroke-item.result (omega (arith, c.in-len1-up.len_at_least)) c.stroke-item.is in
    puts_as c.put_stroke.ensures.puts (ap (λ (ss : List Segment). first_text c.args.layers.now c.args.pens.now c.args.pending ss) (sym next))

pub returns-in-len1-up-clause-after : goal.returns-in-len1-up-clause-after
returns-in-len1-up-clause-after g c =
    let next = next_item c.args.rest.now 0 c.stroke-item.result (omega (arith, c.in-len1-up.len_at_least)) c.stroke-item.is in
    c.put_stroke.ensures.after ∙ ap (λ (ss : List Segment). after_first c.args.pens.now c.args.pending ss) (sym next)
