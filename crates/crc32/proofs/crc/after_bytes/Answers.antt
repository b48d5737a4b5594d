use Rattle.std.proofs.Common.{◌∙◌, ℕ, ap, refl, bit_xor, get_or, arith}
use Rattle.std.proofs.lemmas.List.{take_all}
use Rattle.crc32.specs.Crc.{remainder, times_power}
use Rattle.crc32.proofs.Division.{remainder_more}
use Rattle.crc32.proofs.crc.after_bytes.Goals as goal

pub loop-byte-init : goal.loop-byte-init
unfolding remainder
loop-byte-init c = refl

pub loop-byte-preserved : goal.loop-byte-preserved
loop-byte-preserved c =
    c.after_byte-result.ensures ∙ ap (λ (r : ℕ). times_power 8 (bit_xor r (get_or c.args.bytes.now c.loop-byte.byte-index 0))) c.loop-byte.invariant
    ∙ remainder_more c.args.remainder c.args.bytes.now c.loop-byte.byte-index (omega arith)

pub returns : goal.returns
returns c = c.loop-byte.invariant ∙ ap (remainder c.args.remainder) (take_all c.loop-byte.byte-index c.args.bytes.now c.loop-byte-test.false)
