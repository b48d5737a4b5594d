use Rattle.std.proofs.Common.{◌≡◌, drop}
use Rattle.raster_graphics.specs.Positions.{position_of}
use Rattle.raster_graphics.proofs.Positions.{later}
use Rattle.raster_graphics.proofs.numbers.Numbers.position_of.Given as goal

-- the row is not among the numbers that were passed
abbrev pub invariant-loop-position : goal.invariant-loop-position
invariant-loop-position l = position_of l.row l.numbers ≡ later l.position (position_of l.row (drop l.position l.numbers))
