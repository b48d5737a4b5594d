-- Places.
use Rattle.std.specs.Prelude.{Bool, ◌&&◌}
use Rattle.std.specs.Ordering.{int_eq}
use Rattle.exact.specs.declared.spot.Spot.{Spot}

-- two places are one
abbrev pub is_same_spot : Spot → Spot → Bool
is_same_spot a b = int_eq a.x b.x && int_eq a.y b.y
