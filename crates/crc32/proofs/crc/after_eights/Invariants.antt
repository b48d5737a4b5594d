use Rattle.std.proofs.Common.{◌≡◌, ◌≤◌, ◌%◌, ◌-◌, length, take}
use Rattle.crc32.specs.Crc.{remainder}
use Rattle.crc32.proofs.crc.after_eights.Given as goal

-- the remainder after the bytes so far
abbrev pub invariant-loop-at : goal.invariant-loop-at
invariant-loop-at l = record {
  within : l.at ≤ length l.bytes;
  whole : l.at % 8 ≡ 0;
  so_far : l.result ≡ remainder l.fn.remainder (take l.at l.bytes);
}

abbrev pub decreases-loop-at : goal.decreases-loop-at
decreases-loop-at l = length l.bytes - l.at
