use Rattle.std.proofs.Common.{◌≡◌, ◌+◌, ◌-◌, ◌++◌, ◌∙◌, List, ℕ, length, take, IfOk, sym, ap, subst, arith}
use borrow.Rule.Slice.PartMut.{put_mid}
use Rattle.devices.specs.Sinks.{Writes}
use Rattle.bit_rows.specs.Bits.{packed}
use Rattle.picture_out.specs.Pcl.{transfer_command}
use Rattle.picture_out.proofs.Sizes.{packed_size, transferred_size}
use Rattle.picture_out.proofs.Tables.{begins_filled}
use Rattle.picture_out.proofs.pcl.put_row.Goals as goal

pub returns-then-buffer-bytes-clause-most : goal.returns-then-buffer-bytes-clause-most
returns-then-buffer-bytes-clause-most g c = transferred_size c.args.cells.now c.requires.columns

pub returns-else-buffer-bytes : goal.returns-else-buffer-bytes
returns-else-buffer-bytes g c =
    let cells = c.args.cells.now in
    let start = c.append-start.result in
    let bytes = c.packed_length-bytes.result in
    let buffer = c.append-start.new.piece in
    let part = c.pack_row-else-buffer-bytes.new.out in
    let command : List ℕ = take c.append_command-used.result c.append_command-used.new.text in
    let size : bytes ≡ length (packed cells) = c.packed_length-bytes.ensures ∙ sym (packed_size cells) in
    let row : take (start + bytes) (put_mid start (length buffer - start) buffer part) ≡ command ++ packed cells =
    begins_filled buffer part command (packed cells) _ start (length buffer - start) bytes c.append-start.ensures.piece (omega (arith, c.append-start.ensures.used)) c.pack_row-else-buffer-bytes.ensures.packed (sym size) in
    let whole : take (start + bytes) (put_mid start (length buffer - start) buffer part) ≡ transfer_command (length (packed cells)) ++ packed cells =
    row
    ∙ ap (λ (z : List ℕ). z ++ packed cells) c.append_command-used.ensures.text
    ∙ ap (λ (n : ℕ). transfer_command n ++ packed cells) size in
    record {
      writes = subst (λ (z : List ℕ). Writes (g.K.Sink.state c.args.sink.now) (g.K.Sink.state c.put_counted.new.sink) z c.put_counted.result) whole c.put_counted.ensures.writes;
      count = subst (λ (z : List ℕ). IfOk c.put_counted.result (λ n. n ≡ length z)) whole c.put_counted.ensures.count;
      most = transferred_size cells c.requires.columns;
    }
