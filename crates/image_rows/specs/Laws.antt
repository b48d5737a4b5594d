-- What holds of rows of images.
use Rattle.std.specs.Prelude.{◌≡◌, ◌≢◌, ◌+◌, ◌-◌, ◌<◌, ◌≤◌, ℕ, true, false, List, [], ◌∷◌, ◌++◌, length, drop, replicate}
use Rattle.image_rows.specs.declared.compression.Compression.{Compression}
use Rattle.image_rows.specs.declared.compression.Compression.TheVariants.{Unencoded, PackBits}
use Rattle.image_rows.specs.declared.compression.RowLength.{RowLength}
use Rattle.image_rows.specs.declared.compression.RowLength.TheVariants.{Fixed, UpTo}
use Rattle.image_rows.specs.Compressions.{is_delta}
use Rattle.image_rows.specs.Rows.{fitted, ground, sized, row_of, breaks_off}

-- with a width, each row has it
abbrev pub RowsHaveTheirWidth : Type 0
RowsHaveTheirWidth = (width : ℕ) (compression : Compression) (seed input : List ℕ)
    → length (row_of (Fixed width) compression seed input) ≡ width

-- bytes that are not encoded are the row, and never break off
pub record UnencodedIsItsData : Type 0 where
  pub row : (most : ℕ) (seed input : List ℕ) → row_of (UpTo most) Unencoded seed input ≡ input
  pub whole : (size : RowLength) (input : List ℕ) → breaks_off size Unencoded input ≡ false

-- no data are a row of zeros, or the same row again
pub record NoDataAreZerosOrTheSeed : Type 0 where
  pub zeros : (width : ℕ) (compression : Compression) (seed : List ℕ) → is_delta compression ≡ false
      → row_of (Fixed width) compression seed [] ≡ replicate width 0
  pub none : (most : ℕ) (compression : Compression) (seed : List ℕ) → is_delta compression ≡ false
      → row_of (UpTo most) compression seed [] ≡ []
  pub seed : (size : RowLength) (compression : Compression) (seed : List ℕ) → is_delta compression ≡ true
      → row_of size compression seed [] ≡ sized size seed
  pub again : (size : RowLength) (compression before : Compression) (seed input : List ℕ) → is_delta compression ≡ true
      → row_of size compression (row_of size before seed input) [] ≡ row_of size before seed input

-- PackBits: a count below 128 and as many bytes and one more, a count from 129 on and a byte; 128 is nothing
pub record PackBitsIsRead : Type 0 where
  pub bytes : (most : ℕ) (seed bytes more : List ℕ) → 0 < length bytes → length bytes ≤ 128
      → row_of (UpTo most) PackBits seed ((length bytes - 1) ∷ (bytes ++ more)) ≡ bytes ++ row_of (UpTo most) PackBits seed more
  pub run : (most : ℕ) (seed : List ℕ) (n byte : ℕ) (more : List ℕ) → 2 ≤ n → n ≤ 128
      → row_of (UpTo most) PackBits seed ((257 - n) ∷ byte ∷ more) ≡ replicate n byte ++ row_of (UpTo most) PackBits seed more
  pub nothing : (most : ℕ) (seed more : List ℕ)
      → row_of (UpTo most) PackBits seed (128 ∷ more) ≡ row_of (UpTo most) PackBits seed more

-- bytes, each after a 0
abbrev pub one_by_one : List ℕ → List ℕ
one_by_one [] = []
one_by_one (byte ∷ bytes) = 0 ∷ byte ∷ one_by_one bytes

-- each row can be written in each compression: so in all but the first, on what is left of the seed
abbrev pub RowsCanBeWritten : Type 0
RowsCanBeWritten = (most : ℕ) (compression : Compression) (seed bytes : List ℕ) → compression ≢ Unencoded
    → row_of (UpTo most) compression seed (one_by_one bytes) ≡ bytes ++ drop (length bytes) (ground compression seed)

-- a width cuts a row and its seed, and makes nothing break off
pub record WidthsOnlyCut : Type 0 where
  pub row : (width most : ℕ) (compression : Compression) (seed input : List ℕ)
      → row_of (Fixed width) compression seed input ≡ fitted width (row_of (UpTo most) compression seed input)
  pub seed : (width : ℕ) (compression : Compression) (seed input : List ℕ)
      → row_of (Fixed width) compression (fitted width seed) input ≡ row_of (Fixed width) compression seed input
  pub ending : (width most : ℕ) (compression : Compression) (input : List ℕ)
      → breaks_off (Fixed width) compression input ≡ true → breaks_off (UpTo most) compression input ≡ true
