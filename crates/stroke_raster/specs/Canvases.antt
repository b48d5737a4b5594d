-- What holds of a canvas between two calls, and what it shows.
use Rattle.std.specs.Prelude.{◌≡◌, ℕ, ◌+◌, ◌*◌, ◌<◌, ◌≤◌, ◌^◌, Bool, List, length}
use Rattle.bit_rows.specs.Bits.{bytes_for}
use Rattle.stroke_raster.specs.declared.strip.Span.{Span}
use Rattle.stroke_raster.specs.Inks.{ink_at}
use Rattle.stroke_raster.specs.ShownShapes.{shown_at}
use Rattle.stroke_raster.specs.Spans.{Spanned}

-- cells, and a span for each row of them
pub record AreCells (columns rows : ℕ) (spans : List Span) (cells : List ℕ) : Type 0 where
  pub some : 0 < columns
  pub tall : length spans ≡ rows
  pub wide : length cells ≡ rows * columns
  pub spanned : Spanned columns spans cells

-- bits in rows of whole bytes; those after the last column are 0
pub record AreBits (columns rows stride : ℕ) (bytes : List ℕ) : Type 0 where
  pub stride_is : stride ≡ bytes_for columns
  pub stride_small : stride ≤ 2 ^ 20
  pub size : length bytes ≡ rows * stride
  pub after : (r k : ℕ) → r < rows → columns ≤ k → k < 8 * stride → ink_at stride bytes r k ≡ 0

-- in a number of rows, of which `first` is the number of the first one on the page, each pixel is the mark of the last of n positions
-- for which the test holds
abbrev pub Shows : (ℕ → ℕ → ℕ) → (ℕ → ℕ) → (ℕ → ℕ → ℕ → Bool) → ℕ → ℕ → ℕ → ℕ → Type 0
Shows pixel mark test n first rows columns =
    (r k : ℕ) → r < rows → k < columns → pixel r k ≡ mark (shown_at test n (first + r) k)
