-- The commands of a path. SVG 1.1, 8.3.
use Rattle.std.specs.Prelude.{ℕ, nat_lt, List, ◌++◌, length, if◌then◌else◌, codes}
use Rattle.std.specs.Fmt.{signed_decimal}
use Rattle.svg.specs.declared.places.Place.{Place}
use Rattle.svg.specs.Places.{offset}

-- go to a place, or draw a line to it; or by so much from where the last command ended
pub data Command : Type 0 where
  MoveTo : Place → Command
  LineTo : Place → Command
  MoveBy : Place → Command
  LineBy : Place → Command

abbrev pub pair_text : Place → List ℕ
pair_text p = signed_decimal p.x ++ codes " " ++ signed_decimal p.y

abbrev pub command_text : Command → List ℕ
command_text (MoveTo p) = codes "M" ++ pair_text p
command_text (LineTo p) = codes "L" ++ pair_text p
command_text (MoveBy p) = codes "m" ++ pair_text p
command_text (LineBy p) = codes "l" ++ pair_text p

-- the command with the shorter text, the first one if neither is shorter
abbrev pub shorter : Command → Command → Command
shorter a b = if nat_lt (length (command_text b)) (length (command_text a)) then b else a

-- from one place to another, in whole numbers that are as short as can be
abbrev pub move : Place → Place → Command
move from to = shorter (MoveTo to) (MoveBy (offset from to))

abbrev pub line : Place → Place → Command
line from to = shorter (LineTo to) (LineBy (offset from to))
