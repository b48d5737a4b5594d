-- Rows of images, from the seed and the data.
use Rattle.std.proofs.Common.{◌≡◌, ◌+◌, ℕ, Bool, true, false, List, [], ◌∷◌, ◌++◌, map, replicate, refl}
use Rattle.image_rows.specs.declared.compression.Compression.{Compression}
use Rattle.image_rows.specs.declared.compression.Compression.TheVariants.{Unencoded, RunLength, PackBits, DeltaRow, CompressedDelta}
use Rattle.image_rows.specs.declared.compression.RowLength.{RowLength}
use Rattle.image_rows.specs.declared.compression.RowLength.TheVariants.{Fixed, UpTo}
use Rattle.image_rows.specs.Changes.{further, changes_by}
use Rattle.image_rows.specs.Rows.{changed, row_of, breaks_off_from, breaks_off, is_too_long, whole_row}

-- the seed and the data of a row
record Line : Type 0 where
  seed : List ℕ
  bytes : List ℕ

-- a row, and whether its data break off
result_of : Compression → RowLength → Line → List ℕ × Bool
result_of compression size line = (row_of size compression line.seed line.bytes, breaks_off size compression line.bytes)

line : List ℕ → List ℕ → Line
line seed bytes = record { seed = seed; bytes = bytes }

unencoded : map (result_of Unencoded (Fixed 2)) (
    -- a byte is filled with 0
    line (7 ∷ 7 ∷ []) (128 ∷ []) ∷
    -- three are cut
    line [] (1 ∷ 2 ∷ 3 ∷ []) ∷
    -- no bytes are zeros
    line (7 ∷ 7 ∷ []) [] ∷ [])
    ≡ (128 ∷ 0 ∷ [], false) ∷ (1 ∷ 2 ∷ [], false) ∷ (0 ∷ 0 ∷ [], false) ∷ []
unfolding result_of line changes_by changed breaks_off_from
unencoded = refl

pairs : map (result_of RunLength (UpTo 9)) (
    -- two bytes 255, a byte 15
    line [] (1 ∷ 255 ∷ 0 ∷ 15 ∷ []) ∷
    -- a count without its byte breaks off
    line [] (2 ∷ 5 ∷ 7 ∷ []) ∷ [])
    ≡ (255 ∷ 255 ∷ 15 ∷ [], false) ∷ (5 ∷ 5 ∷ 5 ∷ [], true) ∷ []
unfolding result_of line changes_by changed breaks_off_from
pairs = refl

pairs_in_two : map (result_of RunLength (Fixed 2)) (
    -- a run is cut
    line [] (0 ∷ 1 ∷ 200 ∷ 2 ∷ []) ∷
    -- in a full row nothing is looked at
    line [] (1 ∷ 1 ∷ 7 ∷ []) ∷
    line [] (0 ∷ 1 ∷ 7 ∷ []) ∷ [])
    ≡ (1 ∷ 2 ∷ [], false) ∷ (1 ∷ 1 ∷ [], false) ∷ (1 ∷ 0 ∷ [], true) ∷ []
unfolding result_of line changes_by changed breaks_off_from
pairs_in_two = refl

packed_in_two : map (result_of PackBits (Fixed 2)) (
    -- 128 is nothing; then one byte
    line [] (128 ∷ 0 ∷ 129 ∷ []) ∷
    -- a run of three, cut
    line [] (254 ∷ 128 ∷ []) ∷
    -- two bytes are there of four: the row is full, but they break off
    line [] (3 ∷ 128 ∷ 64 ∷ []) ∷
    -- a run without its byte
    line [] (0 ∷ 5 ∷ 200 ∷ []) ∷
    -- not looked at
    line [] (1 ∷ 5 ∷ 6 ∷ 9 ∷ []) ∷ [])
    ≡ (129 ∷ 0 ∷ [], false) ∷ (128 ∷ 128 ∷ [], false) ∷ (128 ∷ 64 ∷ [], true) ∷ (5 ∷ 0 ∷ [], true) ∷ (5 ∷ 6 ∷ [], false) ∷ []
unfolding result_of line changes_by changed breaks_off_from
packed_in_two = refl

packed_in_four : map (result_of PackBits (Fixed 4)) (line [] (254 ∷ 128 ∷ 0 ∷ 64 ∷ []) ∷ line [] (255 ∷ 129 ∷ []) ∷ line [] (129 ∷ 255 ∷ []) ∷ [])
    ≡ (128 ∷ 128 ∷ 128 ∷ 64 ∷ [], false) ∷ (129 ∷ 129 ∷ 0 ∷ 0 ∷ [], false) ∷ (255 ∷ 255 ∷ 255 ∷ 255 ∷ [], false) ∷ []
unfolding result_of line changes_by changed breaks_off_from
packed_in_four = refl

packed_freely : map (result_of PackBits (UpTo 9)) (line (7 ∷ []) (128 ∷ 128 ∷ []) ∷ line [] (2 ∷ 4 ∷ 5 ∷ 6 ∷ 254 ∷ 9 ∷ []) ∷ line [] (3 ∷ 128 ∷ 64 ∷ []) ∷ [])
    ≡ ([], false) ∷ (4 ∷ 5 ∷ 6 ∷ 9 ∷ 9 ∷ 9 ∷ [], false) ∷ (128 ∷ 64 ∷ [], true) ∷ []
unfolding result_of line changes_by changed breaks_off_from
packed_freely = refl

deltas : map (result_of DeltaRow (Fixed 2)) (
    -- the first byte changes
    line (255 ∷ 255 ∷ []) (0 ∷ 15 ∷ []) ∷
    -- no bytes: the same row
    line (15 ∷ 255 ∷ []) [] ∷
    -- the second byte changes
    line (15 ∷ 255 ∷ []) (1 ∷ 240 ∷ []) ∷
    -- without a row before
    line [] (1 ∷ 240 ∷ []) ∷
    -- an offset beyond the width, with and without its byte, does not break off
    line (1 ∷ 2 ∷ []) (2 ∷ 3 ∷ []) ∷
    line (1 ∷ 2 ∷ []) (2 ∷ []) ∷
    -- two bytes are put, and the byte after them has none
    line (1 ∷ 2 ∷ []) (0 ∷ 3 ∷ 0 ∷ []) ∷
    -- more of an offset is missing
    line (1 ∷ 2 ∷ []) (31 ∷ []) ∷ [])
    ≡ (15 ∷ 255 ∷ [], false) ∷ (15 ∷ 255 ∷ [], false) ∷ (15 ∷ 240 ∷ [], false) ∷ (0 ∷ 240 ∷ [], false)
    ∷ (1 ∷ 2 ∷ [], false) ∷ (1 ∷ 2 ∷ [], false) ∷ (3 ∷ 2 ∷ [], true) ∷ (1 ∷ 2 ∷ [], true) ∷ []
unfolding result_of line further changes_by changed breaks_off_from
deltas = refl

free_deltas : map (result_of DeltaRow (UpTo 9)) (
    -- longer than the seed, with zeros between
    line (1 ∷ 2 ∷ []) (3 ∷ 5 ∷ []) ∷
    -- the offset counts from behind the last byte that was put
    line (1 ∷ 2 ∷ 3 ∷ 4 ∷ 5 ∷ []) (0 ∷ 9 ∷ 33 ∷ 7 ∷ 8 ∷ []) ∷
    -- an offset without a byte makes no row longer
    line (1 ∷ 2 ∷ []) (5 ∷ []) ∷
    -- one byte of two is there
    line (1 ∷ 2 ∷ 3 ∷ []) (33 ∷ 7 ∷ []) ∷ [])
    ≡ (1 ∷ 2 ∷ 0 ∷ 5 ∷ [], false) ∷ (9 ∷ 2 ∷ 7 ∷ 8 ∷ 5 ∷ [], false) ∷ (1 ∷ 2 ∷ [], true) ∷ (1 ∷ 7 ∷ 3 ∷ [], true) ∷ []
unfolding result_of line further changes_by changed breaks_off_from
free_deltas = refl

-- 33 bytes: long offsets and counts, each row on the one before
long_rows : map (result_of DeltaRow (Fixed 33)) (line [] (31 ∷ 0 ∷ 128 ∷ []) ∷ [])
    ≡ (replicate 31 0 ++ (128 ∷ 0 ∷ []), false) ∷ []
unfolding result_of line further changes_by changed breaks_off_from
long_rows = refl

long_changes : map (result_of CompressedDelta (Fixed 33)) (
    line (replicate 31 0 ++ (128 ∷ 0 ∷ [])) (120 ∷ 17 ∷ 64 ∷ []) ∷
    line (replicate 31 0 ++ (128 ∷ 64 ∷ [])) (224 ∷ 28 ∷ 15 ∷ []) ∷
    line (replicate 31 0 ++ (15 ∷ 15 ∷ [])) (7 ∷ 1 ∷ 0 ∷ 0 ∷ 0 ∷ 0 ∷ 0 ∷ 0 ∷ 0 ∷ 0 ∷ 1 ∷ []) ∷
    line (replicate 8 0 ++ (1 ∷ replicate 22 0) ++ (15 ∷ 15 ∷ [])) (159 ∷ 0 ∷ 255 ∷ []) ∷ [])
    ≡ (replicate 31 0 ++ (128 ∷ 64 ∷ []), false)
    ∷ (replicate 31 0 ++ (15 ∷ 15 ∷ []), false)
    ∷ (replicate 8 0 ++ (1 ∷ replicate 22 0) ++ (15 ∷ 15 ∷ []), false)
    ∷ (replicate 33 255, false) ∷ []
unfolding result_of line further changes_by changed breaks_off_from
long_changes = refl

compressed_changes : map (result_of CompressedDelta (Fixed 4)) (
    line [] (8 ∷ 192 ∷ []) ∷
    line (0 ∷ 192 ∷ 0 ∷ 0 ∷ []) (160 ∷ 128 ∷ []) ∷
    -- no bytes: the same row
    line (1 ∷ 2 ∷ 3 ∷ 4 ∷ []) [] ∷
    -- a run without its byte, and more of a count that is missing, beyond the width and within it
    line (1 ∷ 2 ∷ 3 ∷ 4 ∷ []) (128 ∷ []) ∷
    line (1 ∷ 2 ∷ 3 ∷ 4 ∷ []) (39 ∷ []) ∷
    line (1 ∷ 2 ∷ 3 ∷ 4 ∷ []) (31 ∷ []) ∷ [])
    ≡ (0 ∷ 192 ∷ 0 ∷ 0 ∷ [], false) ∷ (0 ∷ 128 ∷ 128 ∷ 0 ∷ [], false) ∷ (1 ∷ 2 ∷ 3 ∷ 4 ∷ [], false)
    ∷ (1 ∷ 2 ∷ 3 ∷ 4 ∷ [], true) ∷ (1 ∷ 2 ∷ 3 ∷ 4 ∷ [], false) ∷ (1 ∷ 2 ∷ 3 ∷ 4 ∷ [], true) ∷ []
unfolding result_of line further changes_by changed breaks_off_from
compressed_changes = refl

-- three bytes are too many for two
long_ones : map (λ most. is_too_long (UpTo most) (whole_row PackBits [] (254 ∷ 1 ∷ []))) (2 ∷ 3 ∷ []) ≡ true ∷ false ∷ []
unfolding changes_by changed
long_ones = refl
