-- What the gauge for drafts reaches.
use Rattle.std.specs.Prelude.{◌+◌, ◌%◌, ◌&&◌, nat_eq}
use Rattle.stroke_raster.specs.Covers.{covers}
use Rattle.rows.specs.Pictures.{Reach}

-- every second of the pixels that a stroke covers, as on a chessboard
abbrev pub every_second : Reach
every_second stroke page dots row column = covers stroke page dots row column && nat_eq ((row + column) % 2) 0
