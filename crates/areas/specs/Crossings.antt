-- Where a row of pixels passes the edges of an area, and which of its columns are inside.
use Rattle.std.specs.Prelude.{◌≡◌, ℕ, ◌+◌, ◌*◌, ◌≤◌, ◌<◌, Bool, false, not, ◌&&◌, nat_le, nat_lt, if◌then◌else◌, List, [], ◌∷◌, ◌++◌, count_by, take, Option, MatchOption, ℤ, pos}
use Rattle.std.specs.List.{All, list_any}
use Rattle.polygons.specs.declared.lines.Rule.{Rule}
use Rattle.polygons.specs.Fills.{is_inside}
use Rattle.areas.specs.declared.crossing.Crossing.{Crossing}
use Rattle.areas.specs.declared.range.ColumnRange.{ColumnRange}
use Rattle.areas.specs.declared.sweep.AreaSweep.{AreaSweep}
use Rattle.areas.specs.declared.swept_edge.SweptEdge.{SweptEdge}
use Rattle.areas.specs.Sweeps.{is_past_down, is_past_up}

-- where the centre of a column is, from the left edge of the page
abbrev pub centre_of_column : ℕ → ℤ
centre_of_column column = pos ((2 * column + 1) * 8128)

-- in the row at height y an edge is passed from the column of this crossing on
pub record IsCrossing (r : ℕ) (y : ℤ) (columns : ℕ) (n : SweptEdge) (c : Crossing) : Type 0 where
  pub rises : (k : ℕ) → k < columns → is_past_up r n (centre_of_column k) y ≡ (c.is_upward && nat_le c.column k)
  pub falls : (k : ℕ) → k < columns → is_past_down r n (centre_of_column k) y ≡ (not c.is_upward && nat_le c.column k)
  pub within : c.column ≤ columns

-- no place of the row passes the edge
pub record IsClear (r : ℕ) (y : ℤ) (n : SweptEdge) : Type 0 where
  pub rises : (x : ℤ) → is_past_up r n x y ≡ false
  pub falls : (x : ℤ) → is_past_down r n x y ≡ false

abbrev pub Crosses : ℕ → ℤ → ℕ → SweptEdge → Option Crossing → Type 0
Crosses r y columns n found = MatchOption found (IsClear r y n) (IsCrossing r y columns n)

-- how many of these crossings a column has passed, upwards and downwards
abbrev pub upward_until : ℕ → List Crossing → ℕ
upward_until k crossings = count_by (λ c. c.is_upward && nat_le c.column k) crossings

abbrev pub downward_until : ℕ → List Crossing → ℕ
downward_until k crossings = count_by (λ c. not c.is_upward && nat_le c.column k) crossings

-- these are the crossings of a row with edges, in any order
pub record AreCrossings (r : ℕ) (y : ℤ) (columns : ℕ) (near : List SweptEdge) (crossings : List Crossing) : Type 0 where
  pub rises : (k : ℕ) → k < columns → upward_until k crossings ≡ count_by (λ n. is_past_up r n (centre_of_column k) y) near
  pub falls : (k : ℕ) → k < columns → downward_until k crossings ≡ count_by (λ n. is_past_down r n (centre_of_column k) y) near
  pub within : All (λ c. c.column ≤ columns) crossings

-- the crossings come from the left to the right, the first of them no farther left than a column
abbrev pub AreOrdered : ℕ → List Crossing → Type 0
AreOrdered first [] = Unit
AreOrdered first (c ∷ cs) = (first ≤ c.column) × AreOrdered c.column cs

-- a column is inside by these crossings
abbrev pub is_inside_at : Rule → List Crossing → ℕ → Bool
is_inside_at rule crossings k = is_inside rule (upward_until k crossings) (downward_until k crossings)

-- the columns from `first` on below `end` are a range, if they are inside and there are any
abbrev pub range_if : Bool → ℕ → ℕ → List ColumnRange
range_if inside first end = if inside && nat_lt first end then record { first = first; end = end } ∷ [] else []

abbrev pub one_if : Bool → ℕ
one_if b = if b then 1 else 0

-- the ranges from a column on, after so many crossings; these are left
abbrev pub ranges_after : Rule → ℕ → ℕ → ℕ → ℕ → List Crossing → List ColumnRange
ranges_after rule columns upward downward first [] = range_if (is_inside rule upward downward) first columns
ranges_after rule columns upward downward first (c ∷ cs) =
    range_if (is_inside rule upward downward) first c.column
    ++ ranges_after rule columns (upward + one_if c.is_upward) (downward + one_if (not c.is_upward)) c.column cs

-- a range has a column, and all of them are among so many
pub record IsRange (columns : ℕ) (range : ColumnRange) : Type 0 where
  pub some : range.first < range.end
  pub within : range.end ≤ columns

abbrev pub is_in : ColumnRange → ℕ → Bool
is_in range k = nat_le range.first k && nat_lt k range.end

-- a column is in one of these ranges
abbrev pub is_in_any : List ColumnRange → ℕ → Bool
is_in_any ranges k = list_any (λ range. is_in range k) ranges

-- the ranges of columns that were found
abbrev pub found_in : AreaSweep → List ColumnRange
found_in sweep = take sweep.count sweep.ranges.items
