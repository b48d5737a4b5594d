-- The numbers of compressions. HP RTL, "Set Compression Method".
use Rattle.std.specs.Prelude.{ℕ, ◌==◌, Bool, true, false, Option, Some, None, if◌then◌else◌}
use Rattle.image_rows.specs.declared.compression.Compression.{Compression}
use Rattle.image_rows.specs.declared.compression.Compression.TheVariants.{Unencoded, RunLength, PackBits, DeltaRow, CompressedDelta}

-- the compression of a number
abbrev pub compression_of : ℕ → Option Compression
compression_of n =
    if n == 0 then Some Unencoded else
    if n == 1 then Some RunLength else
    if n == 2 then Some PackBits else
    if n == 3 then Some DeltaRow else
    if n == 9 then Some CompressedDelta else
    None

-- whether data say what changes in the row before
abbrev pub is_delta : Compression → Bool
is_delta Unencoded = false
is_delta RunLength = false
is_delta PackBits = false
is_delta DeltaRow = true
is_delta CompressedDelta = true
