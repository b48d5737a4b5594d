-- How many areas begin before some strokes.
use Rattle.std.specs.Prelude.{ℕ, nat_lt, suc, if◌then◌else◌, List, [], ◌∷◌}
use Rattle.areas.specs.declared.area.Area.{Area}

-- how many areas there are up to the first one before which there are so many strokes
abbrev pub count_to : ℕ → List Area → ℕ
count_to end [] = 0
count_to end (a ∷ more) = if nat_lt a.first end then suc (count_to end more) else 0
