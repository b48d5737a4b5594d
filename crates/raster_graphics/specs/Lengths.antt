-- How long planes are.
use Rattle.std.specs.Prelude.{ℕ, max, List, [], ◌∷◌, length}

-- the greatest length of planes
unfoldable pub longest : List (List ℕ) → ℕ
longest [] = 0
longest (plane ∷ planes) = max (length plane) (longest planes)
