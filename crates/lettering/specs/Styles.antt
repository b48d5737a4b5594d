-- How the letters of a label follow each other (HP-GL/2 guide: DV and ES), and the style at the start.
use Rattle.std.specs.Prelude.{◌^◌, ℤ, pos, neg_ℤ, ◌*ℤ◌}
use Rattle.exact.specs.declared.spot.Spot.{Spot}
use Rattle.directions.specs.Directions.{vector_turned}
use Rattle.directions.specs.Laws.{right}
use Rattle.directions.specs.declared.turn.Turn.{Turn}
use Rattle.directions.specs.declared.turn.Turn.TheVariants.{None, Quarter, Half, ThreeQuarters}
use Rattle.lettering.specs.declared.style.LineFeed.{LineFeed}
use Rattle.lettering.specs.declared.style.LineFeed.TheVariants.{Normal, Reverse}
use Rattle.lettering.specs.declared.style.Path.{Path}
use Rattle.lettering.specs.declared.style.Path.TheVariants.{Right, Down, Left, Up}
use Rattle.lettering.specs.declared.style.Style.{Style}

-- how a path is turned, counterclockwise from the one to the right
abbrev pub turn_of : Path → Turn
turn_of Right = None
turn_of Down = ThreeQuarters
turn_of Left = Half
turn_of Up = Quarter

-- how far up m lines are, if the path leads to the right
abbrev pub lines_up : LineFeed → ℤ → ℤ
lines_up Normal m = neg_ℤ m
lines_up Reverse m = m

-- n columns along the path and m lines on, as steps to the right and steps up
abbrev pub steps_to : Style → ℤ → ℤ → Spot
steps_to style n m = vector_turned (turn_of style.path) (record { x = n; y = lines_up style.line_feed m })

-- steps as twelfths of a letter's width and eighteenths of its height, in millionths: a step is one and a half widths
-- to the right or two heights up, times that of ES
abbrev pub parts_of : Style → Spot → Spot
parts_of style steps = record {
  x = pos 18 *ℤ style.step_x *ℤ steps.x;
  y = pos 36 *ℤ style.step_y *ℤ steps.y;
}

-- letters of 0.19 by 0.27 centimetres, upright, to the right, from the label's start on
abbrev pub usual : Style
usual = record {
  width = pos 1216;
  height = pos 1728;
  direction = right;
  slant = pos 0;
  step_x = pos (10 ^ 6);
  step_y = pos (10 ^ 6);
  path = Right;
  line_feed = Normal;
  origin = 1;
}
