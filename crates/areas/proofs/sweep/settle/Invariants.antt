use Rattle.std.proofs.Common.{◌≡◌, length, IsPermutation}
use Rattle.areas.proofs.sweep.settle.Given as goal

-- the same edges
abbrev pub invariant-loop-at : goal.invariant-loop-at
invariant-loop-at l = record {
  ordered : IsPermutation l.fn.near l.near;
  same : length l.near ≡ length l.fn.near;
}
