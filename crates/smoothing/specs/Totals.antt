-- Sums of channels on the way, as contracts of private functions say it.
use Rattle.std.specs.Prelude.{◌≡◌, ℕ, ◌+◌, ◌*◌, ◌≤◌, ◌<◌, List, [], ◌∷◌, get_or, length}
use Rattle.picture_out.specs.declared.inks.Ink.{Ink}
use Rattle.picture_out.specs.Inks.{cell_colour}
use Rattle.smoothing.specs.Smoothings.{Colours, channel, mean, total}
use Rattle.smoothing.specs.declared.sums.Sums.{Sums}

-- a channel of the cell in each column of a row; past its edge is paper
abbrev pub cell_channel : List Ink → List ℕ → ℕ → ℕ → ℕ
cell_channel inks cells k column = get_or (cell_colour inks (get_or cells column 0)) k 0

-- one sum in the place of another, after n white values were replaced by others of this sum
abbrev pub Replaces : ℕ → ℕ → ℕ → ℕ → Type 0
Replaces n old new values = (new + 255 * n ≡ old + values) × (new ≤ old)

-- a white value of each channel was replaced by those of a colour
pub record HasCell (colour : List ℕ) (old new : Sums) : Type 0 where
  pub red : Replaces 1 old.red new.red (get_or colour 0 0)
  pub green : Replaces 1 old.green new.green (get_or colour 1 0)
  pub blue : Replaces 1 old.blue new.blue (get_or colour 2 0)

-- the n white values of each channel were replaced by those of a row's cells, from a column on
pub record HasCells (inks : List Ink) (cells : List ℕ) (first n : ℕ) (old new : Sums) : Type 0 where
  pub red : Replaces n old.red new.red (total (cell_channel inks cells 0) first n)
  pub green : Replaces n old.green new.green (total (cell_channel inks cells 1) first n)
  pub blue : Replaces n old.blue new.blue (total (cell_channel inks cells 2) first n)

-- the same of each pixel of a row
abbrev pub HaveCells : List Ink → List ℕ → ℕ → List Sums → List Sums → Type 0
HaveCells inks cells n old new = (k : ℕ) (d : Sums) → k < length old → HasCells inks cells (n * k) n (get_or old k d) (get_or new k d)

-- bounds of each sum
pub record AtLeast (least : ℕ) (sums : Sums) : Type 0 where
  pub red : least ≤ sums.red
  pub green : least ≤ sums.green
  pub blue : least ≤ sums.blue

pub record AtMost (most : ℕ) (sums : Sums) : Type 0 where
  pub red : sums.red ≤ most
  pub green : sums.green ≤ most
  pub blue : sums.blue ≤ most

abbrev pub means : ℕ → Sums → List ℕ
means n sums = mean n sums.red ∷ mean n sums.green ∷ mean n sums.blue ∷ []

-- the sums of n by n white pixels
pub record AreWhite (n : ℕ) (sums : Sums) : Type 0 where
  pub red : sums.red ≡ 255 * (n * n)
  pub green : sums.green ≡ 255 * (n * n)
  pub blue : sums.blue ≡ 255 * (n * n)

-- a sum of n by n values, of which those of the first `rows` rows are these and the others white
abbrev pub IsFilled : ℕ → ℕ → ℕ → ℕ → Type 0
IsFilled n rows sum values = (sum + 255 * (n * rows) ≡ 255 * (n * n) + values) × (sum ≤ 255 * (n * n))

-- the sums of a pixel whose first rows are there, and whose others are white
pub record HasRows (n : ℕ) (finer : Colours) (row column rows : ℕ) (sums : Sums) : Type 0 where
  pub red : IsFilled n rows sums.red (total (λ r. total (channel finer 0 r) (n * column) n) (n * row) rows)
  pub green : IsFilled n rows sums.green (total (λ r. total (channel finer 1 r) (n * column) n) (n * row) rows)
  pub blue : IsFilled n rows sums.blue (total (λ r. total (channel finer 2 r) (n * column) n) (n * row) rows)

-- the same of each pixel of a row
abbrev pub HaveRows : ℕ → Colours → ℕ → ℕ → List Sums → Type 0
HaveRows n finer row rows sums = (k : ℕ) (d : Sums) → k < length sums → HasRows n finer row k rows (get_or sums k d)
