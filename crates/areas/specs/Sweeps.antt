-- Edges as a sweep finds them, row by row from above to below. In each row it knows the first column whose centre is not left of an
-- edge's line, and goes on to the row below without a division.
use Rattle.std.specs.Prelude.{◌≡◌, ℕ, ◌+◌, ◌≤◌, ◌<◌, ◌^◌, Bool, false, not, ◌&&◌, if◌then◌else◌, List, count_by, drop, get_or, length, take, Option, Some, None, ℤ, pos, nat_abs, ◌+ℤ◌, ◌-ℤ◌, ◌*ℤ◌, ◌≤ℤ◌, ◌<ℤ◌, int_le, int_lt}
use Rattle.std.specs.List.{All}
use Rattle.plot_page.specs.Segments.{Segment}
use Rattle.areas.specs.declared.swept_edge.SweptEdge.{SweptEdge}
use Rattle.areas.specs.declared.sweep.AreaSweep.{AreaSweep}
use Rattle.areas.specs.Inside.{rises_past, falls_past}

-- a place is level with an edge, and not left of it
abbrev pub is_past : ℕ → SweptEdge → ℤ → ℤ → Bool
is_past r n x y =
    (int_le (pos r *ℤ n.ay) y && int_lt y (pos r *ℤ n.by))
    && int_le ((n.bx -ℤ n.ax) *ℤ (y -ℤ pos r *ℤ n.ay)) ((x -ℤ pos r *ℤ n.ax) *ℤ (n.by -ℤ n.ay))

-- and the edge leads upwards, or downwards
abbrev pub is_past_up : ℕ → SweptEdge → ℤ → ℤ → Bool
is_past_up r n x y = n.is_upward && is_past r n x y

abbrev pub is_past_down : ℕ → SweptEdge → ℤ → ℤ → Bool
is_past_down r n x y = not n.is_upward && is_past r n x y

-- how far right of the left edge of the page a line that begins at x is, so far above its lower end, less half a pixel: times its rise
abbrev pub place_of : ℤ → ℤ → ℤ → ℤ → ℤ
place_of x above run rise = (x -ℤ pos 8128) *ℤ rise +ℤ run *ℤ above

-- a pixel, times the rise of an edge
abbrev pub pixel_of : SweptEdge → ℤ
pixel_of n = pos 16256 *ℤ (n.by -ℤ n.ay)

-- what holds of an edge in the row at height y
pub record IsInRow (r : ℕ) (y : ℤ) (n : SweptEdge) : Type 0 where
  pub ax : nat_abs n.ax ≤ 134217712
  pub ay : nat_abs n.ay ≤ 134217712
  pub bx : nat_abs n.bx ≤ 134217712
  pub by : nat_abs n.by ≤ 134217712
  pub rising : n.ay <ℤ n.by
  pub slope : n.step *ℤ (n.by -ℤ n.ay) +ℤ n.rest ≡ n.bx -ℤ n.ax
  pub rest_low : pos 0 ≤ℤ n.rest
  pub rest_high : n.rest <ℤ (n.by -ℤ n.ay)
  pub first : n.column *ℤ pixel_of n ≡ place_of (pos r *ℤ n.ax) (y -ℤ pos r *ℤ n.ay) (n.bx -ℤ n.ax) (n.by -ℤ n.ay) +ℤ n.short
  pub short_low : pos 0 ≤ℤ n.short
  pub short_high : n.short <ℤ pixel_of n

-- it leads from a lower end (a, b) to an upper one (c, d)
pub record IsFrom (r : ℕ) (y a b c d : ℤ) (is_upward : Bool) (n : SweptEdge) : Type 0 where
  pub ax : n.ax ≡ a
  pub ay : n.ay ≡ b
  pub bx : n.bx ≡ c
  pub by : n.by ≡ d
  pub direction : n.is_upward ≡ is_upward
  pub in_row : IsInRow r y n

-- what holds of an edge to which no row has come
pub record IsWaiting (n : SweptEdge) : Type 0 where
  pub ax : nat_abs n.ax ≤ 134217712
  pub ay : nat_abs n.ay ≤ 134217712
  pub bx : nat_abs n.bx ≤ 134217712
  pub by : nat_abs n.by ≤ 134217712
  pub rising : n.ay <ℤ n.by

abbrev pub waiting_from : ℤ → ℤ → ℤ → ℤ → Bool → SweptEdge
waiting_from a b c d is_upward =
    record { ax = a; ay = b; bx = c; by = d; is_upward = is_upward; column = pos 0; short = pos 0; step = pos 0; rest = pos 0 }

-- it is in some row that is near the page
pub record IsSomewhere (n : SweptEdge) : Type 0 where
  pub r : ℕ
  pub y : ℤ
  pub few : r ≤ 1200
  pub near : nat_abs y ≤ 2 ^ 34
  pub in_row : IsInRow r y n

-- the same edge in the row below, which is 16,256 steps lower
abbrev pub in_column : SweptEdge → ℤ → ℤ → SweptEdge
in_column n column short =
    record { ax = n.ax; ay = n.ay; bx = n.bx; by = n.by; is_upward = n.is_upward; column = column; short = short; step = n.step; rest = n.rest }

abbrev pub below : SweptEdge → SweptEdge
below n =
    let short = n.short +ℤ pos 16256 *ℤ n.rest in
    if int_lt short (pixel_of n) then in_column n (n.column -ℤ n.step) short
    else in_column n (n.column -ℤ n.step -ℤ pos 1) (short -ℤ pixel_of n)

-- an edge that no row has come to; or no row from height y down to a lower one passes it
pub record IsEdge (r : ℕ) (e : Segment) (n : SweptEdge) : Type 0 where
  pub waits : IsWaiting n
  pub rises : (x z : ℤ) → is_past_up r n x z ≡ rises_past r e x z
  pub falls : (x z : ℤ) → is_past_down r n x z ≡ falls_past r e x z

pub record IsFar (r : ℕ) (low y : ℤ) (e : Segment) : Type 0 where
  pub rises : (x z : ℤ) → low ≤ℤ z → z ≤ℤ y → rises_past r e x z ≡ false
  pub falls : (x z : ℤ) → low ≤ℤ z → z ≤ℤ y → falls_past r e x z ≡ false

abbrev pub IsSweptAs : ℕ → ℤ → ℤ → Segment → Option SweptEdge → Type 0
IsSweptAs r low y e None = IsFar r low y e
IsSweptAs r low y e (Some n) = IsEdge r e n

-- these are all edges that rows from height y down to a lower one pass
pub record AreNear (r : ℕ) (edges : List Segment) (low y : ℤ) (near : List SweptEdge) : Type 0 where
  pub waits : All IsWaiting near
  pub rises : (x z : ℤ) → low ≤ℤ z → z ≤ℤ y → count_by (λ n. is_past_up r n x z) near ≡ count_by (λ e. rises_past r e x z) edges
  pub falls : (x z : ℤ) → low ≤ℤ z → z ≤ℤ y → count_by (λ n. is_past_down r n x z) near ≡ count_by (λ e. falls_past r e x z) edges

-- an edge that stands before others, or nothing
abbrev pub edge_at : List SweptEdge → ℕ → SweptEdge
edge_at near k = get_or near k (waiting_from (pos 0) (pos 0) (pos 0) (pos 0) false)

-- the edges come from the lowest upper end to the highest
abbrev pub AreRising : List SweptEdge → Type 0
AreRising near = (j k : ℕ) → j ≤ k → k < length near → (edge_at near j).by ≤ℤ (edge_at near k).by

-- no edge ends above a row
abbrev pub AreBelow : ℕ → ℤ → List SweptEdge → Type 0
AreBelow r y near = All (λ n. (pos r *ℤ n.by) ≤ℤ y) near

-- an edge begins no higher than a row
abbrev pub reaches_down : ℕ → ℤ → SweptEdge → Bool
reaches_down r y n = int_le (pos r *ℤ n.ay) y

-- some edges wait, the highest last, and others are in the row at height y; they are all edges that rows from there down to a lower
-- one pass
pub record AreSwept (r : ℕ) (edges : List Segment) (low y : ℤ) (waiting live : List SweptEdge) : Type 0 where
  pub waits : All IsWaiting waiting
  pub ordered : AreRising waiting
  pub in_row : All (IsInRow r y) live
  pub rises : (x z : ℤ) → low ≤ℤ z → z ≤ℤ y
      → count_by (λ n. is_past_up r n x z) waiting + count_by (λ n. is_past_up r n x z) live ≡ count_by (λ e. rises_past r e x z) edges
  pub falls : (x z : ℤ) → low ≤ℤ z → z ≤ℤ y
      → count_by (λ n. is_past_down r n x z) waiting + count_by (λ n. is_past_down r n x z) live ≡ count_by (λ e. falls_past r e x z) edges

-- the first ones of these edges wait, and the others are in the row at height y
pub record IsSweepingOver (r : ℕ) (y : ℤ) (near : List SweptEdge) (waiting : ℕ) : Type 0 where
  pub edges : List Segment
  pub low : ℤ
  pub few : waiting ≤ length near
  pub swept : AreSwept r edges low y (take waiting near) (drop waiting near)

-- the same of those before `end`
pub record IsSweepingAmong (r : ℕ) (y : ℤ) (near : List SweptEdge) (waiting end : ℕ) : Type 0 where
  pub edges : List Segment
  pub low : ℤ
  pub order : waiting ≤ end
  pub few : end ≤ length near
  pub swept : AreSwept r edges low y (take waiting near) (drop waiting (take end near))

-- there is room for the edges of an area, for the crossings of a row with them, and for the ranges between these
pub record HasRoomFor (edges : ℕ) (sweep : AreaSweep) : Type 0 where
  pub near : edges ≤ length sweep.near.items
  pub crossings : edges ≤ length sweep.crossings.items
  pub ranges : edges < length sweep.ranges.items
  pub few : sweep.count ≤ length sweep.ranges.items

-- a sweep has the edges that rows from height y down to a lower one pass, and room for their crossings
pub record Follows (r : ℕ) (edges : List Segment) (low y : ℤ) (sweep : AreaSweep) : Type 0 where
  pub order : sweep.waiting ≤ sweep.end
  pub few : sweep.end ≤ length sweep.near.items
  pub crossings : sweep.end ≤ length sweep.crossings.items
  pub ranges : sweep.end < length sweep.ranges.items
  pub swept : AreSwept r edges low y (take sweep.waiting sweep.near.items) (drop sweep.waiting (take sweep.end sweep.near.items))

-- it follows some edges
pub record IsSweeping (r : ℕ) (y : ℤ) (sweep : AreaSweep) : Type 0 where
  pub edges : List Segment
  pub low : ℤ
  pub follows : Follows r edges low y sweep
