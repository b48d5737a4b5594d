use Rattle.stroke_raster.specs.Covers.{covers}
use Rattle.stroke_raster.specs.Parts.{ArePartInked}
use Rattle.stroke_raster.proofs.scan.ink_short.Given as goal

-- the rows so far are inked
abbrev pub invariant-loop-row : goal.invariant-loop-row
invariant-loop-row l = record {
  inked : ArePartInked (covers l.stroke l.page l.dots) l.layout (record { low = l.fn.part.low; end = l.row }) l.columns l.fn.bits l.bits;
}
