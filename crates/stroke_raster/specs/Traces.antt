-- Traces: the pixels of a row that a stroke is near.
use Rattle.std.specs.Prelude.{ℕ, ◌*◌, Bool, pos, ◌+ℤ◌}
use Rattle.stroke_raster.specs.declared.vector.Vector.{Vector}
use Rattle.stroke_raster.specs.declared.trace.Trace.{Trace}
use Rattle.stroke_raster.specs.Gap.{scaled, gap_met}
use Rattle.stroke_raster.specs.Covers.{drawn_width}

-- the way to the pixel a number of columns to the right: a column is 16,256 steps wide
abbrev pub rightward : Vector → ℕ → Vector
rightward w i = record { x = w.x +ℤ pos (16256 * i); y = w.y }

-- the place to which w leads from the stroke's first end is within half of the drawn width of the stroke
abbrev pub is_near : Trace → Vector → Bool
is_near trace w =
    gap_met (scaled (pos trace.dots.resolution) trace.course) w
    (drawn_width trace.stroke.now.width trace.dots.resolution)

-- so is the centre of the pixel i columns to the right of the one to which `start` leads
abbrev pub is_met : Trace → Vector → ℕ → Bool
is_met trace start i = is_near trace (rightward start i)
