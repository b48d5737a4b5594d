-- The lines that edges cross, and crossings as code keeps them.
use Rattle.std.specs.Prelude.{◌≡◌, ◌⊎◌, ℕ, suc, ◌+◌, ◌≤◌, ◌<◌, ◌^◌, nat_abs, if◌then◌else◌, Bool, false}
use Rattle.std.specs.Prelude.{List, [], ◌∷◌, ◌++◌, slice_index_or, ℤ, pos, int_lt, ◌≤ℤ◌, ◌<ℤ◌}
use Rattle.exact.specs.declared.spot.Spot.{Spot}
use Rattle.polygons.specs.declared.edge.Edge.{Edge}
use Rattle.polygons.specs.declared.lines.Lines.{Lines}
use Rattle.polygons.specs.declared.climb.Climb.{Climb}
use Rattle.polygons.specs.declared.climb.Crossing as code
use Rattle.polygons.specs.Fills.{Crossing, bottom, top, line_from, crossing, rank}

-- t is between 0 and u, which is not 0
pub record IsPart (t u : ℤ) : Type 0 where
  pub between : ((pos 0 ≤ℤ t) × (t ≤ℤ u)) ⊎ ((u ≤ℤ t) × (t ≤ℤ pos 0))
  pub not_zero : 0 < nat_abs u
  pub most : nat_abs u ≤ 2 ^ 62

-- the lines from `first` on below `end`, if there are any, with the number of their edge
abbrev pub climb_by : ℤ → ℤ → ℕ → List Climb
climb_by first end n = if int_lt first end then record { first = first; end = end; number = n } ∷ [] else []

-- the lines that an edge crosses
abbrev pub climb_of : Lines → ℕ → Edge → List Climb
climb_of lines n e = climb_by (line_from lines (bottom lines e)) (line_from lines (top lines e)) n

-- those of edges with the numbers from n on
abbrev pub climbs_of : Lines → ℕ → List Edge → List Climb
climbs_of lines n [] = []
climbs_of lines n (e ∷ es) = climb_of lines n e ++ climbs_of lines (suc n) es

-- the numbers of lines are in range, and there is a line
pub record IsInRange (c : Climb) : Type 0 where
  pub first_in : nat_abs c.first ≤ 2 ^ 25
  pub end_in : nat_abs c.end ≤ 2 ^ 25
  pub rising : c.first <ℤ c.end

-- and the edge is one of n
pub record IsClimb (n : ℕ) (c : Climb) : Type 0 where
  pub range : IsInRange c
  pub number_in : c.number < n

-- a crossing as code keeps it: with its rank, and the number of the edge
abbrev pub crossing_by : Lines → Spot → Bool → ℕ → code.Crossing
crossing_by lines place upward n = record { place = place; rank = rank lines place; is_upward = upward; number = n }

abbrev pub crossing_of : Lines → ℤ → Edge → ℕ → code.Crossing
crossing_of lines k e n = crossing_by lines (crossing lines k e).place (crossing lines k e).is_upward n

-- without those
abbrev pub bare : code.Crossing → Crossing
bare c = record { place = c.place; is_upward = c.is_upward }

abbrev pub nowhere : Edge
nowhere = record { from = record { x = pos 0; y = pos 0 }; to = record { x = pos 0; y = pos 0 }; is_drawn = false }

-- the crossing of the edge of a number
abbrev pub crossing_at : Lines → ℤ → List Edge → ℕ → code.Crossing
crossing_at lines k edges n = crossing_of lines k (slice_index_or edges n nowhere) n

-- the sum of a function of the items of a list
abbrev pub total : {X : Type 0} → (X → ℕ) → List X → ℕ
total f [] = 0
total f (x ∷ xs) = f x + total f xs

-- two lists have the same items, each as often
pub record SameItems {X : Type 0} (xs ys : List X) : Type 0 where
  pub sums : (f : X → ℕ) → total f xs ≡ total f ys
