use Rattle.std.proofs.Common.{◌≡◌, length, take}
use Rattle.raster_graphics.specs.Lengths.{longest}
use Rattle.raster_graphics.proofs.planes.Planes.longest.Given as goal

-- the most bytes of those before the number
abbrev pub invariant-loop-number : goal.invariant-loop-number
invariant-loop-number l = record {
  end : l.number-end ≡ length l.self;
  most : l.most ≡ longest (take l.number l.self);
}
