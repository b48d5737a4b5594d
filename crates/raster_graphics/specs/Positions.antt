-- Where a row is among those that were sent.
use Rattle.std.specs.Prelude.{ℕ, ◌+◌, ◌<◌, ◌==◌, List, [], ◌∷◌, Option, Some, None, option_map, if◌then◌else◌}
use Rattle.std.specs.List.{AllPairs}

unfoldable pub position_of : ℕ → List ℕ → Option ℕ
position_of row [] = None
position_of row (number ∷ numbers) =
    if number == row then Some 0 else option_map (λ position. position + 1) (position_of row numbers)

-- numbers ascend
abbrev pub Ascends : List ℕ → Type 0
Ascends numbers = AllPairs (λ a b. a < b) numbers
