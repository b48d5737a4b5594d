-- Where areas are in their list.
use Rattle.std.specs.Prelude.{ℕ, ◌≤◌, ◌<◌, List, length, get_or}
use Rattle.polygons.specs.declared.lines.Rule.TheVariants.{OddCounts}
use Rattle.areas.specs.declared.area.Area.{Area}

-- an area that stands for none
abbrev pub no_area : Area
no_area = record { first = 0; end = 0; rule = OddCounts }

-- the areas before a place end before a number, and the others do not
pub record IsPlace (number : ℕ) (areas : List Area) (place : ℕ) : Type 0 where
  pub within : place ≤ length areas
  pub before : (i : ℕ) → i < place → (get_or areas i no_area).end < number
  pub after : (i : ℕ) → place ≤ i → i < length areas → number ≤ (get_or areas i no_area).end
