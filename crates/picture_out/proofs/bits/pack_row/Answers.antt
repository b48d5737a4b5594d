use Rattle.std.proofs.Common.{◌≡◌, ◌++◌, ◌-◌, ◌*◌, ◌/◌, ◌∙◌, ℕ, List, length, take, drop, map, replicate, ap, arith, refl, append-nil}
use Rattle.std.specs.List.{range_with_len}
use Rattle.std.proofs.lemmas.List.{length-take, length-drop, drop_all}
use Rattle.std.proofs.lemmas.List.FromFn.{length-map-range_with_len}
use Rattle.bit_rows.specs.Bits.{byte_of, bytes_for, packed}
use Rattle.picture_out.proofs.Packed.{row_filled, packed_piece}
use Rattle.picture_out.proofs.Tables.{filled_to}
use Rattle.picture_out.proofs.bits.pack_row.Goals as goal

pub returns : goal.returns
returns c =
    let cells = c.args.cells.now in
    let low = c.args.span.low in
    let end = c.args.span.end in
    let first : ℕ = low / 8 in
    let last = c.packed_length-last.result in
    let all = c.packed_length-all.result in
    let stop = c.min-stop.result in
    let f : ℕ → ℕ = λ k. byte_of (drop (8 * k) cells) in
    let piece : List ℕ = take (stop - 8 * first) (drop (8 * first) cells) in
    let long : length piece ≡ stop - 8 * first = omega (arith, length-take (stop - 8 * first) (drop (8 * first) cells), length-drop (8 * first) cells, c.min-stop.ensures) in
    let bytes : bytes_for (stop - 8 * first) ≡ last - first = omega (arith, c.min-stop.ensures, c.packed_length-last.ensures, c.requires.span.order, c.requires.span.high) in
    let cleared : c.fill.new.self ≡ replicate {A = ℕ} first 0 = filled_to c.fill.new.self _ first 0 (c.fill.ensures.after (λ y h. h)) (omega (arith, c.fill.ensures.len, length-take first c.args.out.now, c.requires.room, c.requires.span.order, c.requires.span.high)) in
    let packed_here : c.pack_bits.new.out ≡ map f (range_with_len first (last - first)) =
    c.pack_bits.ensures.packed
    ∙ ap (λ (z : List ℕ). packed piece ++ z) (drop_all (bytes_for (length piece)) _ (omega (arith, long, bytes)))
    ∙ append-nil (packed piece)
    ∙ packed_piece cells first (stop - 8 * first) (last - first) bytes (λ lt. omega (arith, c.min-stop.ensures)) long
    in
    let cleared_after : c.fill-2.new.self ≡ replicate {A = ℕ} (all - last) 0 = filled_to c.fill-2.new.self _ (all - last) 0 (c.fill-2.ensures.after (λ y h. h)) (omega (arith, c.fill-2.ensures.len, c.requires.room, c.requires.span.order, c.requires.span.high, c.packed_length-last.ensures, c.packed_length-all.ensures, ap length packed_here, length-map-range_with_len f first (last - first))) in
    record { packed = row_filled cells low end first last all c.args.out.now c.fill.new.self c.pack_bits.new.out c.fill-2.new.self c.requires.span refl c.packed_length-last.ensures c.packed_length-all.ensures cleared packed_here cleared_after }
