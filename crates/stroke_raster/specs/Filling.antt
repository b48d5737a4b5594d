-- A span of cells that was filled.
use Rattle.std.specs.Prelude.{◌≡◌, ℕ, ◌<◌, ◌≤◌, List, get_or}

-- of the cells, those from `low` up to `end` have become the position, and the others are as they were
pub record IsFilled (low end position : ℕ) (old new : List ℕ) : Type 0 where
  pub before : (i : ℕ) → i < low → get_or new i 0 ≡ get_or old i 0
  pub inside : (i : ℕ) → low ≤ i → i < end → get_or new i 0 ≡ position
  pub after : (i : ℕ) → end ≤ i → get_or new i 0 ≡ get_or old i 0
