-- Sheets: the strokes of a plot, cut where sheets end, and its areas.
use Rattle.std.specs.Prelude.{ℕ, nat_eq, List, [], ◌∷◌, ◌++◌, length, take, drop, if◌then◌else◌}
use Rattle.areas.specs.Shapes.{Shape, all_counted, areas_from, shapes_after}
use Rattle.areas.specs.declared.area.Area.{Area}
use Rattle.plot_page.specs.Segments.{Segment}

-- the strokes after the first `at`, up to and including number `end`
abbrev pub between : List Segment → ℕ → ℕ → List Segment
between strokes at end = drop at (take end strokes)

-- the shapes of the strokes after the first `at`, up to and including number `end`
abbrev pub shapes_between : List Segment → List Area → ℕ → ℕ → List Shape
shapes_between strokes areas at end = shapes_after at (take end strokes) (areas_from at areas)

-- the areas of a sheet before which there are so many strokes, and those after them, by the strokes of the sheet
abbrev pub sheet_areas : ℕ → List Area → List Area
sheet_areas before areas = all_counted before (areas_from before areas)

-- the sheets after the first `at` strokes, by how many strokes there were when each one ended; without strokes there is none
abbrev pub sheets_after : List Segment → ℕ → List ℕ → List (List Segment)
sheets_after strokes at [] = []
sheets_after strokes at (end ∷ ends) =
    if nat_eq (length (between strokes at end)) 0 then sheets_after strokes at ends else
    between strokes at end ∷ sheets_after strokes end ends

-- all sheets: the end of the plot ends a sheet, too
abbrev pub sheets_of : List Segment → List ℕ → List (List Segment)
sheets_of strokes ends = sheets_after strokes 0 (ends ++ length strokes ∷ [])
