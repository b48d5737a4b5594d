-- How code goes from line to line.
use Rattle.std.specs.Prelude.{◌≡◌, ◌⊎◌, ℕ, ◌≤◌, ◌<◌, ◌^◌, nat_abs, List, filter, take, drop, length, slice_index_or}
use Rattle.std.specs.Prelude.{int_lt, ◌≤ℤ◌, ◌<ℤ◌}
use Rattle.std.specs.List.{All}
use Rattle.polygons.specs.declared.span.Span.{Span}
use Rattle.polygons.specs.declared.climb.Climb.{Climb}
use Rattle.polygons.specs.declared.sweep.Sweep.{Sweep}
use Rattle.polygons.specs.Fills.{Crossing, ordered_crossings, line_spans, filled_from}
use Rattle.polygons.specs.Climbs.{climbs_of, IsClimb, SameItems}

-- the climbs that have begun, sorted by their first line, have their first line at `line` or before; the active ones of
-- them have not ended there
pub record IsSweep (s : Sweep) : Type 0 where
  pub same : SameItems (climbs_of s.ruling.lines 0 s.edges.now) s.climbs.items
  pub sound : All (IsClimb (length s.edges.now)) s.climbs.items
  pub rises : (i j : ℕ) (d : Climb) → i ≤ j → j < length s.climbs.items
      → (slice_index_or s.climbs.items i d).first ≤ℤ (slice_index_or s.climbs.items j d).first
  pub begun_in : s.begun ≤ length s.climbs.items
  pub passed : All (λ c. c.first ≤ℤ s.line) (take s.begun s.climbs.items)
  pub ahead : All (λ c. s.line ≤ℤ c.first) (drop s.begun s.climbs.items)
  pub active_is : s.active.items ≡ filter (λ c. int_lt s.line c.end) (take s.begun s.climbs.items)
  pub line_in : nat_abs s.line ≤ 2 ^ 25

-- all climbs of this line are active, and there is one
pub record IsReady (s : Sweep) : Type 0 where
  pub sound : IsSweep s
  pub beyond : All (λ c. s.line <ℤ c.first) (drop s.begun s.climbs.items)
  pub some : 0 < length s.active.items

-- an edge crosses this line
pub record IsCut (s : Sweep) : Type 0 where
  pub sound : IsSweep s
  pub begins : (0 < length s.active.items)
      ⊎ ((s.begun < length s.climbs.items) × ((d : Climb) → (slice_index_or s.climbs.items s.begun d).first ≤ℤ s.line))

-- the crossings of this line, in their order along it
abbrev pub crossed : Sweep → List Crossing
crossed s = ordered_crossings s.ruling.lines s.line s.edges.now

-- the spans of this line, and those of the lines that are left
abbrev pub these : Sweep → List Span
these s = line_spans s.ruling.lines s.rule s.edges.now s.line

abbrev pub left : Sweep → List (List Span)
left s = filled_from s.ruling.lines s.rule s.edges.now s.line

-- only the line has changed
pub record IsSame (s t : Sweep) : Type 0 where
  pub lines : s.ruling.lines ≡ t.ruling.lines
  pub rule : s.rule ≡ t.rule
  pub edges : s.edges.now ≡ t.edges.now
