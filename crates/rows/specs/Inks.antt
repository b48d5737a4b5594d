-- The inks of strokes, and of images among them.
use Rattle.std.specs.Prelude.{List}
use Rattle.picture_out.specs.declared.inks.Ink.{Ink}
use Rattle.rows.specs.declared.stroke_inks.StrokeInks.{StrokeInks}
use Rattle.rows.specs.declared.image_inks.ImageInks.{ImageInks}
use Rattle.rows.specs.ImageCells.{inks_with}
use Rattle.rows.specs.Pictures.{inks_of}

-- what they hold: the pen and the colour of each stroke, in order
abbrev pub inks_held : StrokeInks → List Ink
inks_held inks = inks_of inks.strokes.now

-- and after them the colours of all marks
abbrev pub image_inks_held : ImageInks → List Ink
image_inks_held inks = inks_with inks.strokes.now
