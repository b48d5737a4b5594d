use Rattle.std.proofs.Common.{◌≡◌, ◌+◌, ◌-◌, ◌*◌, ◌/◌, ◌∙◌, ◌<◌, ℕ, length, drop, ap, arith}
use Rattle.std.proofs.lemmas.List.{take_rest}
use Rattle.bit_rows.specs.Bits.{byte_of, bytes_for}
use Rattle.picture_out.proofs.Tables.{filled_more, filled_last}
use Rattle.picture_out.proofs.Bytes.{byte_of_eight, some_left}
use Rattle.picture_out.proofs.bits.pack_bits.Goals as goal

pub loop-place-preserved : goal.loop-place-preserved
loop-place-preserved c =
    let cells = c.args.cells.now in
    let p = c.loop-place.place in
    filled_more (λ (k : ℕ). byte_of (drop (8 * k) cells)) c.loop-place.out c.args.out.now p c.pack_eight.result (omega arith) c.loop-place.invariant (c.pack_eight.ensures ∙ byte_of_eight cells (8 * p) ((8 * p + 8) - 8 * p) (omega arith))

pub returns-then-not-is_empty : goal.returns-then-not-is_empty
returns-then-not-is_empty c =
    let cells = c.args.cells.now in
    let q = length cells / 8 in
    let left : 8 * q < length cells = some_left cells (8 * q) (c.if-not-is_empty.ensures {u = tt}) in
    let next : q + 1 ≡ bytes_for (length cells) = omega arith in
    record { packed = filled_last (λ (k : ℕ). byte_of (drop (8 * k) cells)) c.loop-place.out c.args.out.now c.loop-place.place q (bytes_for (length cells)) c.pack_last.result (omega arith) next c.requires.room c.loop-place.invariant (c.pack_last.ensures ∙ ap byte_of (take_rest cells (8 * q))) }
