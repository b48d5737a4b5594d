-- What the data of a row say, by their compression: which bytes are put where. HP RTL, "Set Compression Method".
use Rattle.std.specs.Prelude.{ℕ, zero, suc, ◌+◌, ◌-◌, ◌/◌, ◌%◌, ◌==◌, nat_lt, Bool, true, false, List, [], ◌∷◌, length, take, drop, replicate, Option, Some, None, if◌then◌else◌}
use Rattle.image_rows.specs.declared.compression.Compression.{Compression}
use Rattle.image_rows.specs.declared.compression.Compression.TheVariants.{Unencoded, RunLength, PackBits, DeltaRow, CompressedDelta}

-- a step along a row: some bytes stay as they are, and then these are put; or the data end before the step does
pub record Change : Type 0 where
  pub skip : ℕ
  pub bytes : List ℕ
  pub is_broken : Bool

-- the data end before a byte is known
abbrev pub broken : ℕ → Change
broken skip = record { skip = skip; bytes = []; is_broken = true }

-- a change, and the data after it
abbrev pub Reading : Type 0
Reading = Change × List ℕ

-- the next bytes of the data, as many as this
abbrev pub literal : ℕ → ℕ → List ℕ → Reading
literal skip count input =
    (record { skip = skip; bytes = take count input; is_broken = nat_lt (length input) count }, drop count input)

-- the next byte of the data, as often as this
abbrev pub run : ℕ → ℕ → List ℕ → Reading
run skip count [] = (broken skip, [])
run skip count (byte ∷ input) = (record { skip = skip; bytes = replicate count byte; is_broken = false }, input)

-- a number and the bytes that are added to it, up to one that is not 255; and the data after them
unfoldable pub further : ℕ → List ℕ → Option (ℕ × List ℕ)
further n [] = None
further n (byte ∷ input) = if byte == 255 then further (n + 255) input else Some (n + byte, input)

-- a number in a few bits: bytes are added to the greatest that these can hold
abbrev pub number : ℕ → ℕ → List ℕ → Option (ℕ × List ℕ)
number greatest n input = if n == greatest then further n input else Some (n, input)

-- what follows a number; the data may end before it does
abbrev pub then_read : Option (ℕ × List ℕ) → ℕ → (ℕ → List ℕ → Reading) → Reading
then_read None skip read = (broken skip, [])
then_read (Some found) skip read = read found.0 found.1

-- PackBits: up to 128 bytes, or a run of up to 128, from the first byte on; 128 is nothing
abbrev pub packed : ℕ → List ℕ → Reading
packed c input =
    if nat_lt c 128 then literal 0 (c + 1) input else
    if c == 128 then (record { skip = 0; bytes = []; is_broken = false }, input) else
    run 0 (257 - c) input

-- a delta row: how many bytes stay, in 5 bits, and how many follow
abbrev pub delta : ℕ → List ℕ → Reading
delta c input = then_read (number 31 (c % 32) input) 0 (λ skip rest. literal skip (c / 32 + 1) rest)

-- a compressed delta row: how many bytes stay, in 4 bits, and how many follow, in 3; or how many stay, in 2 bits, and how long
-- a run is, in 5. More of the first number comes before more of the second.
abbrev pub counted_bytes : ℕ → ℕ → List ℕ → Reading
counted_bytes c skip input = then_read (number 7 (c % 8) input) skip (λ n rest. literal skip (n + 1) rest)

abbrev pub counted_run : ℕ → ℕ → List ℕ → Reading
counted_run c skip input = then_read (number 31 (c % 32) input) skip (λ n rest. run skip (n + 2) rest)

abbrev pub compressed : ℕ → List ℕ → Reading
compressed c input =
    if nat_lt c 128
    then then_read (number 15 (c / 8) input) 0 (counted_bytes c)
    else then_read (number 3 (c / 32 % 4) input) 0 (counted_run c)

-- the first change, from the first byte on
abbrev pub first_change : Compression → ℕ → List ℕ → Reading
first_change Unencoded c input = (record { skip = 0; bytes = c ∷ input; is_broken = false }, [])
first_change RunLength c input = run 0 (c + 1) input
first_change PackBits c input = packed c input
first_change DeltaRow c input = delta c input
first_change CompressedDelta c input = compressed c input

-- all changes; there are at most `fuel`
unfoldable pub changes_by : ℕ → Compression → List ℕ → List Change
changes_by zero compression input = []
changes_by (suc fuel) compression [] = []
changes_by (suc fuel) compression (c ∷ input) =
    let first = first_change compression c input in
    first.0 ∷ changes_by fuel compression first.1

-- all changes that data say
abbrev pub changes : Compression → List ℕ → List Change
changes compression input = changes_by (length input) compression input
