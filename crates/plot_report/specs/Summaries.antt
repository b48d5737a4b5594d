-- The lines of shapes, from a table of the numbers of each pen.
use Rattle.std.specs.Prelude.{◌≡◌, ℕ, ◌<◌, ◌≤◌, List, [], ◌++◌, flat_map, length, slice_index_or, nat_eq, Some, if◌then◌else◌}
use Rattle.std.specs.List.{range_with_len}
use Rattle.plot_page.specs.Segments.{Segment}
use Rattle.polygons.specs.declared.lines.Rule.{Rule}
use Rattle.areas.specs.Shapes.{Shape}
use Rattle.plot_report.specs.declared.pens.PenSummary.{PenSummary}
use Rattle.plot_report.specs.declared.pens.Summaries.{Summaries}
use Rattle.plot_report.specs.declared.summary.StrokeSummary.{StrokeSummary}
use Rattle.plot_report.specs.Report.{areas_among, edges_line, all_edges, shapes_of, strokes_among, summary_of, summary_line}

-- an area with these edges
abbrev pub area_with : Rule → List Segment → Shape
area_with rule edges = record { strokes = edges; rule = Some rule }

-- the numbers of the shapes of a pen: of its strokes, how many areas there are, and of their edges
abbrev pub pen_summary : List Shape → PenSummary
pen_summary shapes = record {
  strokes = summary_of (strokes_among shapes);
  areas = length (areas_among shapes);
  edges = summary_of (all_edges (areas_among shapes));
}

-- how many strokes there are, and a table of the numbers of the shapes of the pens 1 to 255
pub record AreOf (s : Summaries) (shapes : List Shape) : Type 0 where
  pub strokes : s.strokes ≡ length (strokes_among shapes)
  pub pens : (pen : ℕ) (d : PenSummary) → 0 < pen → pen < 256 → slice_index_or s.pens pen d ≡ pen_summary (shapes_of pen shapes)

-- no number of strokes, of areas or of edges is greater
pub record AreAtMost (s : Summaries) (most : ℕ) : Type 0 where
  pub strokes : s.strokes ≤ most
  pub of_pen : (pen : ℕ) (d : PenSummary) → 0 < pen → pen < 256 → (slice_index_or s.pens pen d).strokes.strokes ≤ most
  pub areas_of_pen : (pen : ℕ) (d : PenSummary) → 0 < pen → pen < 256 → (slice_index_or s.pens pen d).areas ≤ most
  pub edges_of_pen : (pen : ℕ) (d : PenSummary) → 0 < pen → pen < 256 → (slice_index_or s.pens pen d).edges.strokes ≤ most

-- the lines of a pen with these numbers: of its strokes, if it has some, and of its areas
abbrev pub strokes_text : ℕ → StrokeSummary → List ℕ
strokes_text pen s = if nat_eq s.strokes 0 then [] else summary_line pen s

abbrev pub areas_text : ℕ → PenSummary → List ℕ
areas_text pen s = if nat_eq s.areas 0 then [] else edges_line pen s.areas s.edges

abbrev pub summary_text : ℕ → PenSummary → List ℕ
summary_text pen s = strokes_text pen s.strokes ++ areas_text pen s

-- the lines of this many pens from pen 1 on
unfoldable pub summary_lines : List PenSummary → ℕ → List ℕ
summary_lines pens count =
    flat_map (λ pen. summary_text pen (slice_index_or pens pen (pen_summary []))) (range_with_len 1 count)
