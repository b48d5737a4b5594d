-- The span of columns outside which a row is blank.
use Rattle.std.specs.Prelude.{◌≡◌, ℕ, ◌<◌, ◌≤◌, List, length, get_or}

-- each cell before `low`, and from `end` on, is 0
pub record IsBlankOutside (cells : List ℕ) (low end : ℕ) : Type 0 where
  pub order : low ≤ end
  pub high : end ≤ length cells
  pub before : (k : ℕ) → k < length cells → k < low → get_or cells k 0 ≡ 0
  pub after : (k : ℕ) → k < length cells → end ≤ k → get_or cells k 0 ≡ 0
