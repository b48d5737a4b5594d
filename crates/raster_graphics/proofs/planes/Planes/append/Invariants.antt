use Rattle.std.proofs.Common.{◌≡◌, ◌++◌, length, take}
use Rattle.raster_graphics.proofs.planes.Planes.append.Given as goal

-- the others before the number are there
abbrev pub invariant-loop-number : goal.invariant-loop-number
invariant-loop-number l = record {
  end : l.number-end ≡ length l.others;
  planes : l.self ≡ l.fn.self ++ take l.number l.others;
}
