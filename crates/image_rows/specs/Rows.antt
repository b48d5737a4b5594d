-- The row that data make of the row before, its seed.
use Rattle.std.specs.Prelude.{ℕ, ◌+◌, nat_lt, Bool, true, false, ◌&&◌, ◌||◌, List, [], ◌∷◌, ◌++◌, length, take, drop, replicate, if◌then◌else◌}
use Rattle.image_rows.specs.declared.compression.Compression.{Compression}
use Rattle.image_rows.specs.declared.compression.RowLength.{RowLength}
use Rattle.image_rows.specs.declared.compression.RowLength.TheVariants.{Fixed, UpTo}
use Rattle.image_rows.specs.Compressions.{is_delta}
use Rattle.image_rows.specs.Changes.{Change, changes}

-- a row cut to n bytes, or filled with 0 to them
abbrev pub fitted : ℕ → List ℕ → List ℕ
fitted n row = take n (row ++ replicate n 0)

-- how many bytes of a row stay before those that are put: none if there are no such bytes
abbrev pub stay : ℕ → List ℕ → ℕ
stay skip [] = 0
stay skip (byte ∷ bytes) = skip

-- a row after changes, each from where the one before it ends
unfoldable pub changed : List ℕ → List Change → List ℕ
changed row [] = row
changed row (change ∷ more) =
    let before = stay change.skip change.bytes in
    fitted before row ++ (change.bytes ++ changed (drop (before + length change.bytes) row) more)

-- what the row is before its data are read
abbrev pub ground : Compression → List ℕ → List ℕ
ground compression seed = if is_delta compression then seed else []

-- the row of a plane without a width
abbrev pub whole_row : Compression → List ℕ → List ℕ → List ℕ
whole_row compression seed input = changed (ground compression seed) (changes compression input)

-- a row in its length: with a width it is cut or filled
abbrev pub sized : RowLength → List ℕ → List ℕ
sized (Fixed width) row = fitted width row
sized (UpTo _) row = row

-- the row of a plane
abbrev pub row_of : RowLength → Compression → List ℕ → List ℕ → List ℕ
row_of size compression seed input = sized size (whole_row compression seed input)

-- without a width, a row may be longer than allowed
abbrev pub is_too_long : RowLength → List ℕ → Bool
is_too_long (Fixed _) row = false
is_too_long (UpTo most) row = nat_lt most (length row)

-- there is room in a row for a byte at this place
abbrev pub has_place : RowLength → ℕ → Bool
has_place (Fixed width) place = nat_lt place width
has_place (UpTo _) place = true

-- changes from a place on break off in a row: in a full one nothing is looked at
unfoldable pub breaks_off_from : RowLength → ℕ → List Change → Bool
breaks_off_from size place [] = false
breaks_off_from size place (change ∷ more) =
    (change.is_broken && has_place size (place + change.skip))
    || breaks_off_from size (place + (stay change.skip change.bytes + length change.bytes)) more

-- the most bytes that a row may have
abbrev pub most_of : RowLength → ℕ
most_of (Fixed width) = width
most_of (UpTo most) = most

-- the data of a row break off
abbrev pub breaks_off : RowLength → Compression → List ℕ → Bool
breaks_off size compression input = breaks_off_from size 0 (changes compression input)
