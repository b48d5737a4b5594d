use Rattle.std.proofs.Common.{◌++◌, ◌∙◌, List, ℕ, length, drop, ap}
use Rattle.bit_rows.specs.Bits.{byte_of}
use Rattle.picture_out.proofs.Bytes.{byte_padded, zeros, zeros_read}
use Rattle.picture_out.proofs.bits.pack_last.Goals as goal

pub returns : goal.returns
returns c =
    let padding = drop (length c.args.cells.now) zeros in
    c.pack_eight.ensures
    ∙ ap (λ (front : List ℕ). byte_of (front ++ padding)) c.copy_from_slice.ensures.after
    ∙ byte_padded c.args.cells.now padding (zeros_read (length c.args.cells.now))
