-- The edges of a stroke's strip, in the rows that only its two long sides bound.
use Rattle.std.specs.Prelude.{◌≡◌, ℕ, ℤ, Bool, true, false, ◌+◌, ◌-◌, ◌*◌, ◌/◌, ◌%◌, ◌^◌, ◌<◌, ◌≤◌, pos, neg_ℤ, nat_abs, cond, min, int_le}
use Rattle.std.specs.Prelude.{◌+ℤ◌, ◌*ℤ◌, ◌<ℤ◌, ◌≤ℤ◌}
use Rattle.plot_page.specs.declared.page.Page.{Page}
use Rattle.stroke_raster.specs.declared.edges.Edges.{Edges}
use Rattle.stroke_raster.specs.declared.edges.Moves.{Moves}
use Rattle.stroke_raster.specs.declared.strip.Span.{Span}
use Rattle.stroke_raster.specs.declared.trace.Trace.{Trace}
use Rattle.stroke_raster.specs.declared.vector.Vector.{Vector}
use Rattle.stroke_raster.specs.Covers.{centre, drawn_width, first_end}
use Rattle.stroke_raster.specs.Gap.{cross, dot, scaled, way}

-- a number, negated if the course falls
abbrev pub turned : Trace → ℤ → ℤ
turned t z = cond (int_le (pos 0) t.course.y) z (neg_ℤ z)

-- the way from the stroke's first end to the pixel of a row and a column
abbrev pub way_to : Trace → Page → ℕ → ℕ → Vector
way_to t page row column =
    way (scaled (pos t.dots.resolution) (first_end t.stroke.now)) (centre page.height t.dots.resolution row column)

abbrev pub width_of : Trace → ℕ
width_of t = drawn_width t.stroke.now.width t.dots.resolution

-- a row is farther than half of the drawn width above the stroke's lower end and below its upper end, so that no pixel
-- of the strip along the stroke's line is past an end
pub record IsBeside (t : Trace) (page : Page) (row : ℕ) : Type 0 where
  pub above : pos (width_of t) <ℤ (pos 2 *ℤ turned t (way_to t page row 0).y)
  pub below : (pos 2 *ℤ turned t (way_to t page row 0).y +ℤ pos (width_of t)) <ℤ pos (2 * (t.dots.resolution * nat_abs t.course.y))

-- A column has 2^32 parts. Places are counted in parts from 2^30 columns before a given one.

-- the strip's far edge in a row, in parts, times the step: exactly
abbrev pub far_edge : Trace → Page → ℕ → ℕ → ℤ
far_edge t page from row =
    pos (2 ^ 32) *ℤ (turned t (pos 2 *ℤ cross t.course (way_to t page row from)) +ℤ t.slope.most)
    +ℤ pos (2 ^ 62 * t.slope.step)

-- what the edges of all rows share: the strip's width and how it moves from row to row, in parts, and the numbers of
-- rows. In a strip narrower by `under` instead of the length each pixel is covered; `gap` parts lie between the edges of
-- both strips.
pub record AreSure (t : Trace) (page : Page) (e : Edges) : Type 0 where
  pub some : 0 < t.slope.step
  pub most : ℕ
  pub most_is : t.slope.most ≡ pos most
  pub width_low : e.width * t.slope.step ≤ 2 ^ 33 * most
  pub width_high : 2 ^ 33 * most < (e.width + 1) * t.slope.step
  pub pace_low : e.falls ≡ false → e.pace * t.slope.step ≤ 2 ^ 32 * (32512 * nat_abs t.course.x)
  pub pace_high : e.falls ≡ false → 2 ^ 32 * (32512 * nat_abs t.course.x) ≤ (e.pace + 1) * t.slope.step
  pub fall_low : e.falls ≡ true → 2 ^ 32 * (32512 * nat_abs t.course.x) ≤ e.pace * t.slope.step
  pub fall_high : e.falls ≡ true → e.pace * t.slope.step ≤ 2 ^ 32 * (32512 * nat_abs t.course.x) + t.slope.step
  pub falls_is : e.falls ≡ true → turned t t.course.x ≡ pos (nat_abs t.course.x)
  pub rises_is : e.falls ≡ false → turned t t.course.x ≡ neg_ℤ (pos (nat_abs t.course.x))
  pub under : ℕ
  pub under_in : pos (under * under) ≤ℤ dot t.course t.course
  pub gap : ℕ
  pub gap_is : 2 ^ 32 * most ≤ gap * t.slope.step + 2 ^ 32 * (width_of t * under)
  pub margin : gap + (e.rows.end - e.rows.low) + 2 ≤ e.margin
  pub margin_in : e.margin ≤ 2 ^ 30
  pub width_in : e.width ≤ 2 ^ 60
  pub beside : (row : ℕ) → e.rows.low ≤ row → row < e.rows.end → IsBeside t page row

-- `at` is the far edge of a row, in parts: at most as many parts too low as rows went before, and one more
pub record IsEdge (t : Trace) (page : Page) (from : ℕ) (e : Edges) (row at : ℕ) : Type 0 where
  pub sure : AreSure t page e
  pub low : e.rows.low ≤ row
  pub end : row < e.rows.end
  pub edge : ℕ
  pub edge_is : pos edge ≡ far_edge t page from row
  pub under : at * t.slope.step ≤ edge
  pub over : edge < (at + (row - e.rows.low + 1)) * t.slope.step
  pub room_low : 2 ^ 61 + (e.rows.end - row) * e.pace ≤ at
  pub room_high : at + (e.rows.end - row) * e.pace ≤ 2 ^ 63

-- the edges of a stroke, if it has such rows
pub record AreEdges (t : Trace) (page : Page) (from : ℕ) (e : Edges) : Type 0 where
  pub first : e.rows.low < e.rows.end → IsEdge t page from e e.rows.low e.end

-- a place, in parts from 2^30 columns before the first on, is a number divided by a step, rounded down
pub record IsPlace (z : ℤ) (step at : ℕ) : Type 0 where
  pub edge : ℕ
  pub edge_is : pos edge ≡ pos (2 ^ 32) *ℤ z +ℤ pos (2 ^ 62 * step)
  pub under : at * step ≤ edge
  pub over : edge < (at + 1) * step

-- edges have these numbers, and room for all rows
pub record AreFitted (rows : Span) (falls : Bool) (m : Moves) (e : Edges) : Type 0 where
  pub rows_is : e.rows ≡ rows
  pub end_is : e.end ≡ m.end
  pub pace_is : e.pace ≡ m.pace
  pub falls_is : e.falls ≡ falls
  pub width_is : e.width ≡ m.width
  pub margin_is : m.gap + (rows.end - rows.low) + 2 ≡ e.margin
  pub margin_in : e.margin ≤ 2 ^ 30
  pub width_in : e.width ≤ 2 ^ 60
  pub room_low : 2 ^ 61 + (rows.end - rows.low) * e.pace ≤ e.end
  pub room_high : e.end + (rows.end - rows.low) * e.pace ≤ 2 ^ 63

-- the parts of a place past its column are far enough from both ends of the column
abbrev pub IsClear : ℕ → ℕ → Type 0
IsClear margin place = (margin ≤ place % 2 ^ 32) × (place % 2 ^ 32 + margin < 2 ^ 32)

-- a span of columns that begins after one place and ends after another, both of which are clear
pub record IsClearSpan (margin near far length : ℕ) (span : Span) : Type 0 where
  pub near_clear : IsClear margin near
  pub far_clear : IsClear margin far
  pub low : span.low ≡ near / 2 ^ 32 + 1 - 2 ^ 30
  pub end : span.end ≡ min (far / 2 ^ 32 + 1 - 2 ^ 30) length
