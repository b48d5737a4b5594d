-- How long the rows are.
use Rattle.std.proofs.Common.{◌≡◌, ◌*◌, ◌+◌, ◌<◌, ◌≤◌, ◌^◌, ℕ, List, ◌++◌, length, drop, flat_map, decimal, arith, length-append}
use Rattle.std.proofs.lemmas.Fmt.{length-decimal-le}
use Rattle.std.proofs.lemmas.List.FromFn.{length-map-range_with_len}
use Rattle.picture_out.specs.declared.inks.Ink.{Ink}
use Rattle.picture_out.specs.Inks.{cell_colour}
use Rattle.bit_rows.specs.Bits.{bytes_for, byte_of, packed}
use Rattle.picture_out.specs.Pcl.{transfer_command}
use Rattle.picture_out.proofs.Coloured.{colour_size, threes}

pub coloured_size : (inks : List Ink) (cells : List ℕ) → length (flat_map (cell_colour inks) cells) ≡ 3 * length cells
coloured_size inks cells = threes (cell_colour inks) cells (colour_size inks)

pub packed_size : (cells : List ℕ) → length (packed cells) ≡ bytes_for (length cells)
packed_size cells = length-map-range_with_len (λ (k : ℕ). byte_of (drop (8 * k) cells)) 0 (bytes_for (length cells))

-- the command takes four bytes and its digits, of which there are at most ten
command_size : (bytes : ℕ) → bytes < 2 ^ 32 → length (transfer_command bytes) ≤ 14
command_size bytes small =
    let digits : length (decimal bytes) ≤ 10 = length-decimal-le 10 bytes (omega arith) (omega arith) (omega arith) in
    simp length-append (omega arith)

pub transferred_size : (cells : List ℕ) → length cells < 2 ^ 32 → length (transfer_command (length (packed cells)) ++ packed cells) ≤ 14 + bytes_for (length cells)
transferred_size cells small =
    let bytes = packed_size cells in
    let command = command_size (length (packed cells)) (omega (arith, bytes)) in
    omega (arith, length-append (transfer_command (length (packed cells))) (packed cells), bytes, command)
