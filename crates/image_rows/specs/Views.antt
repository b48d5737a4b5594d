-- What the code's types stand for, and rows on the way.
use Rattle.std.specs.Prelude.{◌≡◌, ◌≤◌, ℕ, ◌-◌, nat_lt, Bool, false, List, ◌++◌, length, take, drop, replicate}
use Rattle.image_rows.specs.declared.change.FoundBytes.{FoundBytes}
use Rattle.image_rows.specs.declared.change.FoundBytes.TheVariants.{Literal, Run}
use Rattle.image_rows.specs.declared.change.FoundChange.{FoundChange}
use Rattle.image_rows.specs.declared.compression.RowLength.{RowLength}
use Rattle.image_rows.specs.declared.compression.RowLength.TheVariants.{Fixed, UpTo}
use Rattle.image_rows.specs.Changes.{Change, Reading}
use Rattle.image_rows.specs.Rows.{fitted, changed}

-- the bytes that are put
abbrev pub bytes_of : FoundBytes → List ℕ
bytes_of (Literal bytes) = bytes.now
bytes_of (Run byte count) = replicate count byte

-- a change
abbrev pub change_of : FoundChange → Change
change_of found = record { skip = found.skip; bytes = bytes_of found.bytes; is_broken = found.is_broken }

-- a change, and the data after it
abbrev pub reading_of : FoundChange → Reading
reading_of found = (change_of found, found.rest.now)

-- a row that changes can be put in: it has the width, or is not too long
abbrev pub IsBegun : RowLength → List ℕ → Type 0
IsBegun (Fixed width) row = length row ≡ width
IsBegun (UpTo most) row = length row ≤ most

-- without a width, a row that goes on up to a place may be too long
abbrev pub is_too_far : RowLength → ℕ → Bool
is_too_far (Fixed _) place = false
is_too_far (UpTo most) place = nat_lt most place

-- a row in which bytes are put between two places
abbrev pub with_bytes : ℕ → ℕ → List ℕ → List ℕ → List ℕ
with_bytes from to bytes row = fitted from row ++ (take (to - from) bytes ++ drop to row)

-- a row that is done before a place, with the changes from there on
abbrev pub going_on : List ℕ → ℕ → List Change → List ℕ
going_on row place more = take place row ++ changed (drop place row) more
