use Rattle.std.proofs.Common.{◌∙◌, sym}
use Rattle.areas.specs.Walks.{shapes_left}
use Rattle.page_fit.proofs.ShapeCounts.{none_off}
use Rattle.page_fit.proofs.off_page.is_off_page.Goals as goal

pub returns : goal.returns
returns c = sym (none_off c.args.pens.now c.args.page.now (shapes_left c.shapes.rest) c.in_default.ensures.none) ∙ c.shapes.invariant
