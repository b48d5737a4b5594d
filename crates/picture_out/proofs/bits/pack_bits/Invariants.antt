use Rattle.std.proofs.Common.{◌≡◌, ◌++◌, ◌*◌, drop, map, ℕ}
use Rattle.std.specs.List.{range_with_len}
use Rattle.bit_rows.specs.Bits.{byte_of}
use Rattle.picture_out.proofs.bits.pack_bits.Given as goal

-- the bytes so far, and then those that `out` held before
abbrev pub invariant-loop-place : goal.invariant-loop-place
invariant-loop-place l = l.out ≡ map (λ (k : ℕ). byte_of (drop (8 * k) l.cells)) (range_with_len 0 l.place) ++ drop l.place l.fn.out
