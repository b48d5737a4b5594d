-- The faults that refusals of painters are, and those by which the sink failed.
use Rattle.std.specs.Prelude.{Bool, true, false}
use Rattle.stroke_raster.specs.declared.painter.PaintFault.{PaintFault}
use Rattle.stroke_raster.specs.declared.painter.PaintFault.TheVariants as painter
use Rattle.rows.specs.declared.fault.PictureFault.{PictureFault}
use Rattle.rows.specs.declared.fault.PictureFault.TheVariants.{Memory, Paint, Write, Unfinished}

-- the refusal of a painter
abbrev pub of_painter : PaintFault → PictureFault
of_painter painter.Memory = Memory
of_painter refusal = Paint refusal

-- the sink failed
abbrev pub is_write : PictureFault → Bool
is_write (Write row whole bytes) = true
is_write Unfinished = true
is_write _ = false
