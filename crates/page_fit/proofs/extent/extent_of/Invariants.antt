use Rattle.std.proofs.Common.{◌≡◌, fold, length, IfSome}
use Rattle.areas.specs.Views.{shapes_in}
use Rattle.areas.specs.Walks.{shapes_left}
use Rattle.page_fit.specs.Extents.{IsNear, with_stroke}
use Rattle.page_fit.specs.Shapes.{diagonals, shapes_extent}
use Rattle.page_fit.proofs.extent.extent_of.Given as goal

-- with the shapes that are left it is the whole extent
abbrev pub invariant-shapes : goal.invariant-shapes
invariant-shapes l = record {
  whole : fold (with_stroke l.fn.pens l.fn.page) l.found (diagonals (shapes_left l.rest)) ≡ shapes_extent l.fn.pens l.fn.page (shapes_in l.fn.shapes);
  near : IfSome l.found IsNear;
}

abbrev pub decreases-shapes : goal.decreases-shapes
decreases-shapes l = length (shapes_left l.rest)
