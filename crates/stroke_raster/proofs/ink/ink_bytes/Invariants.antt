use Rattle.std.proofs.Common.{◌*◌, max, min}
use Rattle.stroke_raster.specs.Inks.{IsInked}
use Rattle.stroke_raster.proofs.ink.ink_bytes.Given as goal

-- the pixels of the bytes so far are black, the others are as they were
abbrev pub invariant-loop-place : goal.invariant-loop-place
invariant-loop-place l = IsInked l.fn.span.low (min l.fn.span.end (max l.fn.span.low (8 * l.place))) l.fn.line l.line
