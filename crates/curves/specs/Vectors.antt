-- Vectors of whole numbers, and their directions.
use Rattle.std.specs.Prelude.{Bool, true, false, ℤ, ◌+ℤ◌, ◌-ℤ◌, ◌*ℤ◌}
use Rattle.exact.specs.declared.spot.Spot.{Spot}
use Rattle.directions.specs.Directions.{unit, vector_turned}
use Rattle.directions.specs.declared.turn.Turn.TheVariants.{Quarter, ThreeQuarters}

-- from a to b
abbrev pub way : Spot → Spot → Spot
way a b = record { x = b.x -ℤ a.x; y = b.y -ℤ a.y }

-- one vector after another
abbrev pub sum_of : Spot → Spot → Spot
sum_of v w = record { x = v.x +ℤ w.x; y = v.y +ℤ w.y }

-- below 0 if v and w are more than 90 degrees apart
abbrev pub dot : Spot → Spot → ℤ
dot v w = v.x *ℤ w.x +ℤ v.y *ℤ w.y

-- below 0 if w is clockwise from v, and 0 if both are on one line
abbrev pub cross : Spot → Spot → ℤ
cross v w = v.x *ℤ w.y -ℤ v.y *ℤ w.x

-- turned by 90 degrees against an arc's sense: to the left if the arc is clockwise, else to the right
abbrev pub turned_against : Bool → Spot → Spot
turned_against true v = vector_turned Quarter v
turned_against false v = vector_turned ThreeQuarters v

-- the direction of a vector that is not (0, 0), in parts of 2^30
abbrev pub unit_of : Spot → Spot
unit_of v = unit v.x v.y
