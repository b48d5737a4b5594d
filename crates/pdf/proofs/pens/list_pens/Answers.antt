use Rattle.std.proofs.Common.{◌∙◌, arith}
use Rattle.plot_page.specs.Pens.{has_pen}
use Rattle.pdf.specs.Documents.{has_drawn}
use Rattle.pdf.proofs.DrawnPens.{filter_below}
use Rattle.pdf.proofs.pens.list_pens.Goals as goal

pub returns-clause-list : goal.returns-clause-list
returns-clause-list c =
    c.list_set.ensures.list ∙ filter_below (has_pen c.pens_of-drawn.result) (has_drawn c.args.pens.now c.args.strokes.now) 256 0 256 c.pens_of-drawn.ensures (omega arith)
