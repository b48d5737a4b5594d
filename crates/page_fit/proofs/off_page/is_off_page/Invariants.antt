use Rattle.std.proofs.Common.{◌≡◌, length}
use Rattle.areas.specs.Views.{shapes_in}
use Rattle.areas.specs.Walks.{shapes_left}
use Rattle.std.specs.List.{list_all}
use Rattle.page_fit.specs.Shapes.{is_off_page, lies_off}
use Rattle.page_fit.proofs.off_page.is_off_page.Given as goal

-- what was passed lies off the page, so what is left decides
abbrev pub invariant-shapes : goal.invariant-shapes
invariant-shapes l = list_all (λ shape. lies_off l.fn.pens l.fn.page shape.strokes) (shapes_left l.rest) ≡ is_off_page l.fn.pens l.fn.page (shapes_in l.fn.shapes)

abbrev pub decreases-shapes : goal.decreases-shapes
decreases-shapes l = length (shapes_left l.rest)
