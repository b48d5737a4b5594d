-- A smoothed picture: each of its pixels is the mean of n by n pixels of a finer picture.
use Rattle.std.specs.Prelude.{ℕ, zero, suc, ◌+◌, ◌*◌, ◌/◌, List, [], ◌∷◌, get_or}

-- the sum of n values, from the one at `first` on
unfoldable pub total : (ℕ → ℕ) → ℕ → ℕ → ℕ
total value first zero = 0
total value first (suc n) = value first + total value (first + 1) n

-- the mean of n by n numbers by their sum, rounded to the nearest
abbrev pub mean : ℕ → ℕ → ℕ
mean n sum = (2 * sum + n * n) / (2 * (n * n))

-- the red, green and blue of each pixel of a picture, by its row and its column
abbrev pub Colours : Type 0
Colours = ℕ → ℕ → List ℕ

-- a channel of a pixel: 0 is red, 1 green, 2 blue
abbrev pub channel : Colours → ℕ → ℕ → ℕ → ℕ
channel colours k row column = get_or (colours row column) k 0

-- the mean of a channel over the n by n finer pixels of a pixel
abbrev pub mean_channel : ℕ → Colours → ℕ → ℕ → ℕ → ℕ
mean_channel n finer row column k = mean n (total (λ r. total (channel finer k r) (n * column) n) (n * row) n)

-- the red, green and blue of a pixel
abbrev pub smoothed : ℕ → Colours → Colours
smoothed n finer row column =
    mean_channel n finer row column 0 ∷ mean_channel n finer row column 1 ∷ mean_channel n finer row column 2 ∷ []
