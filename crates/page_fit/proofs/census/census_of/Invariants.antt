use Rattle.std.proofs.Common.{◌≡◌, ◌+◌, ◌≤◌, flat_map, fold, length}
use Rattle.areas.specs.Views.{shapes_in}
use Rattle.areas.specs.Walks.{shapes_left}
use Rattle.page_fit.specs.Shapes.{counted_all, shapes_census}
use Rattle.page_fit.proofs.census.census_of.Given as goal

-- with the shapes that are left it is the whole census
abbrev pub invariant-shapes : goal.invariant-shapes
invariant-shapes l = record {
  whole : fold (λ census shape. counted_all l.fn.pens l.fn.page census shape.strokes) l.census (shapes_left l.rest)
      ≡ shapes_census l.fn.pens l.fn.page (shapes_in l.fn.shapes);
  few : l.census.strokes + length (flat_map (λ shape. shape.strokes) (shapes_left l.rest)) ≤ length l.fn.shapes.strokes.now;
  off_page : l.census.off_page ≤ l.census.strokes;
  cut : l.census.cut ≤ l.census.strokes;
}

abbrev pub decreases-shapes : goal.decreases-shapes
decreases-shapes l = length (shapes_left l.rest)
