use Rattle.std.proofs.Common.{◌<◌, ◌^◌}
use Rattle.stroke_raster.specs.Shorts.{AreMasked}
use Rattle.stroke_raster.proofs.scan.mask_of.Given as goal

-- the bits of the pixels so far
abbrev pub invariant-loop-i : goal.invariant-loop-i
invariant-loop-i l = record {
  small : l.mask < 2 ^ l.i;
  bits : AreMasked l.short l.start l.i l.mask;
}
