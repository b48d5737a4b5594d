-- The sheets of a document, with their areas and their labels.
use Rattle.std.specs.Prelude.{ℕ, ◌<◌, ◌≤◌, nat_eq, List, [], ◌∷◌, ◌++◌, length, drop, if◌then◌else◌}
use Rattle.areas.specs.declared.area.Area.{Area}
use Rattle.labels.specs.Labels.{LabelShape}
use Rattle.labels.specs.Sheets.{all_counted, count_to, labels_to}
use Rattle.plot_page.specs.Segments.{Segment}
use Rattle.stroke_runs.specs.Sheets.{between, sheet_areas}

-- the strokes of a sheet, and its areas and its labels, counted by these strokes; areas of later sheets have none of them
pub record Sheet : Type 0 where
  pub strokes : List Segment
  pub areas : List Area
  pub labels : List LabelShape

-- the strokes after the first `at`, up to and including number `end`, with their areas and their labels
abbrev pub sheet_between : List Segment → List Area → ℕ → ℕ → List LabelShape → Sheet
sheet_between strokes areas at end labels = record {
  strokes = between strokes at end;
  areas = sheet_areas at areas;
  labels = all_counted at (labels_to end labels);
}

-- the sheets after the first `at` strokes, by how many strokes there were when each one ended, with these labels left
abbrev pub labelled_after : List Segment → List Area → ℕ → List ℕ → List LabelShape → List Sheet
labelled_after strokes areas at [] labels = []
labelled_after strokes areas at (end ∷ ends) labels =
    if nat_eq (length (between strokes at end)) 0 then labelled_after strokes areas at ends labels else
    sheet_between strokes areas at end labels
    ∷ labelled_after strokes areas end ends (drop (count_to end labels) labels)

-- all sheets: the end of the plot ends a sheet, too
abbrev pub labelled_sheets : List Segment → List Area → List ℕ → List LabelShape → List Sheet
labelled_sheets strokes areas ends labels = labelled_after strokes areas 0 (ends ++ length strokes ∷ []) labels

-- a label that begins before this stroke ends before it, too
abbrev pub EndsAfter : ℕ → LabelShape → Type 0
EndsAfter end l = l.first < end → l.after ≤ end
