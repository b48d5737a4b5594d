use Rattle.std.proofs.Common.{◌∙◌, List, ap, fold, sym}
use Rattle.plot_page.specs.Segments.{Segment}
use Rattle.page_fit.specs.Extents.{with_stroke}
use Rattle.page_fit.proofs.ShapeCounts.{no_diagonals}
use Rattle.areas.specs.Walks.{shapes_left}
use Rattle.page_fit.proofs.extent.extent_of.Goals as goal

pub returns-clause-value : goal.returns-clause-value
returns-clause-value c =
    let rest = no_diagonals (shapes_left c.shapes.rest) c.in_default.ensures.none in
    sym (ap (λ (ss : List Segment). fold (with_stroke c.args.pens c.args.page.now) c.shapes.found ss) rest) ∙ c.shapes.invariant.whole
