-- Which shapes five strokes are, of which the second and the third, and the last, are the edges of areas.
use Rattle.std.proofs.Common.{◌≡◌, ℕ, pos, List, [], ◌∷◌, Some, None, refl}
use Rattle.plot_page.specs.Segments.{Segment}
use Rattle.polygons.specs.declared.lines.Rule.TheVariants.{OddCounts, Winding}
use Rattle.areas.specs.Shapes.{all_counted, areas_between, areas_from, beginning_at, ending_at, shapes, stroke_shape}
use Rattle.areas.specs.declared.area.Area.{Area}

-- strokes are told apart by their widths
abbrev stroke : ℕ → Segment
stroke width = record {
  pen = 1;
  colour = record { red = 0; green = 0; blue = 0 };
  width = width;
  window = record { x0 = pos 0; y0 = pos 0; x1 = pos 1024; y1 = pos 1024 };
  ax = pos 0;
  ay = pos 0;
  bx = pos 16;
  by = pos 16;
}

abbrev strokes : List Segment
strokes = stroke 0 ∷ stroke 1 ∷ stroke 2 ∷ stroke 3 ∷ stroke 4 ∷ []

abbrev second : Area
second = record { first = 1; end = 3; rule = OddCounts }

abbrev last : Area
last = record { first = 4; end = 5; rule = Winding }

abbrev areas : List Area
areas = second ∷ last ∷ []

of_strokes : shapes strokes areas ≡
    stroke_shape (stroke 0)
    ∷ record { strokes = stroke 1 ∷ stroke 2 ∷ []; rule = Some OddCounts }
    ∷ stroke_shape (stroke 3)
    ∷ record { strokes = stroke 4 ∷ []; rule = Some Winding }
    ∷ []
of_strokes = refl

by_its_end : ending_at 3 areas ≡ Some second
by_its_end = refl

by_no_end : ending_at 2 areas ≡ None
by_no_end = refl

by_its_first_edge : beginning_at 4 areas ≡ Some last
by_its_first_edge = refl

-- an area that has begun is not one of those that begin
begun : areas_from 2 areas ≡ last ∷ []
begun = refl

up_to_four : areas_between 1 4 areas ≡ second ∷ []
up_to_four = refl

-- by the strokes of a sheet that begins after four
on_a_sheet : all_counted 4 (areas_between 4 5 areas) ≡ record { first = 0; end = 1; rule = Winding } ∷ []
on_a_sheet = refl
