-- What is written sheet by sheet is the text of the sheets.
use Rattle.std.proofs.Common.{◌≡◌, ℕ, ◌+◌, List, ◌∷◌, ◌++◌, Bool, true, false, ap, cond, drop, length, nat_eq}
use Rattle.areas.specs.declared.area.Area.{Area}
use Rattle.labels.specs.Labels.{LabelShape}
use Rattle.labels.specs.Sheets.{count_to}
use Rattle.plot_page.specs.Segments.{Segment}
use Rattle.plot_page.specs.declared.pens.PenSet.{PenSet}
use Rattle.stroke_runs.specs.Sheets.{between}
use Rattle.svg.specs.Sheets.{labelled_after, sheet_between}
use Rattle.dxf.specs.Documents.{sheet_text, sheets_text}
use Rattle.dxf.specs.declared.sheets.Section.{Section}

-- the next sheet, if it has a stroke, and if it has none
pub taken_sheet : (section : Section) (pens : PenSet) (number : ℕ) (strokes : List Segment) (areas : List Area) (at end : ℕ) (ends : List ℕ) (labels : List LabelShape) → nat_eq (length (between strokes at end)) 0 ≡ false → sheets_text section pens number (labelled_after strokes areas at (end ∷ ends) labels) ≡ sheet_text section pens (number + 1) (sheet_between strokes areas at end labels) ++ sheets_text section pens (number + 1) (labelled_after strokes areas end ends (drop (count_to end labels) labels))
taken_sheet section pens number strokes areas at end ends labels h = ap (λ (b : Bool). sheets_text section pens number (cond b (labelled_after strokes areas at ends labels) (sheet_between strokes areas at end labels ∷ labelled_after strokes areas end ends (drop (count_to end labels) labels)))) h

pub passed_sheet : (section : Section) (pens : PenSet) (number : ℕ) (strokes : List Segment) (areas : List Area) (at end : ℕ) (ends : List ℕ) (labels : List LabelShape) → nat_eq (length (between strokes at end)) 0 ≡ true → sheets_text section pens number (labelled_after strokes areas at (end ∷ ends) labels) ≡ sheets_text section pens number (labelled_after strokes areas at ends labels)
passed_sheet section pens number strokes areas at end ends labels h = ap (λ (b : Bool). sheets_text section pens number (cond b (labelled_after strokes areas at ends labels) (sheet_between strokes areas at end labels ∷ labelled_after strokes areas end ends (drop (count_to end labels) labels)))) h
