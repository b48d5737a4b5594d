-- What the code's ways stand for, and which way along x the rows and the dots of an image go.
use Rattle.std.specs.Prelude.{ℕ, Bool, true, false, ℤ, neg_ℤ, Option, if◌then◌else◌}
use Rattle.directions.specs.declared.turn.Turn.{Turn}
use Rattle.directions.specs.declared.turn.Turn.TheVariants as turn
use Rattle.plot_page.specs.declared.colour.Colour.{Colour}
use Rattle.raster_graphics.specs.declared.image.Image.{Image}
use Rattle.stroke_raster.specs.declared.vector.Vector.{Vector}
use Rattle.image_raster.specs.declared.way.Way.{Way}
use Rattle.image_raster.specs.Dots.{across, along, number_at, shown_in}

abbrev pub vector : Way → Vector
vector w = record { x = w.x; y = w.y }

-- another way as high
abbrev pub with_x : ℤ → Way → Vector
with_x x w = record { x = x; y = w.y }

-- what an image that is turned shows where a way leads
abbrev pub shown_turned : Turn → Image → ℕ → Vector → Option Colour
shown_turned turn image r w =
    shown_in image (number_at image.settings.resolution r (across turn w)) (number_at image.settings.resolution r (along turn w))

-- its rows, or the dots of its rows, go in the direction of x, and not against it
abbrev pub goes_right : Turn → Bool
goes_right turn.None = true
goes_right turn.Quarter = false
goes_right turn.Half = false
goes_right turn.ThreeQuarters = true

-- how far along x a way leads in their direction
abbrev pub away : Turn → ℤ → ℤ
away turn x = if goes_right turn then x else neg_ℤ x
