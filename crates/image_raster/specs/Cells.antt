-- What pixels show with images among strokes. A cell has the position of the stroke that its pixel shows, from 1 on, 0 if it shows
-- none, or the mark of a colour of an image.
use Rattle.std.specs.Prelude.{◌≡◌, ℕ, ◌+◌, ◌*◌, ◌^◌, ◌<◌, nat_le, Bool, ◌||◌, List, [], ◌∷◌, length, get_or, Option, Some, None, if◌then◌else◌}
use Rattle.plot_page.specs.declared.colour.Colour.{Colour}
use Rattle.plot_page.specs.declared.dots.Dots.{Dots}
use Rattle.plot_page.specs.declared.page.Page.{Page}
use Rattle.page_images.specs.PageImages.{ImageShape}
use Rattle.image_raster.specs.Dots.{shown_at_pixel}

-- the mark of a colour: above all positions
abbrev pub mark_of : Colour → ℕ
mark_of colour = 2 ^ 31 + ((colour.red * 256 + colour.green) * 256 + colour.blue)

-- no cell has more than the mark of white
abbrev pub AreCells : List ℕ → Type 0
AreCells cells = (k : ℕ) → get_or cells k 0 < 2 ^ 31 + 2 ^ 24

-- what a cell has, if it is a mark, is of an image
abbrev pub is_mark : ℕ → Bool
is_mark cell = nat_le (2 ^ 31) cell

-- an image, before which so many strokes were drawn, lies over what a cell shows: over these strokes, and over images before it
abbrev pub is_over : ℕ → ℕ → Bool
is_over before cell = nat_le cell before || is_mark cell

-- a cell, over which an image may show a colour
abbrev pub covered : ℕ → Option Colour → ℕ → ℕ
covered before None cell = cell
covered before (Some colour) cell = if is_over before cell then mark_of colour else cell

abbrev pub cell_with : ImageShape → Page → Dots → ℕ → ℕ → ℕ → ℕ
cell_with i page dots row column cell = covered i.before (shown_at_pixel i page dots row column) cell

-- the cells of a row of pixels, from column 0 on, each with an image
pub record AreWithOne (i : ImageShape) (page : Page) (dots : Dots) (row : ℕ) (old new : List ℕ) : Type 0 where
  pub as_many : length new ≡ length old
  pub cells : (column : ℕ) → column < length old → get_or new column 0 ≡ cell_with i page dots row column (get_or old column 0)

-- with images in their order
abbrev pub cell_with_all : List ImageShape → Page → Dots → ℕ → ℕ → ℕ → ℕ
cell_with_all [] page dots row column cell = cell
cell_with_all (i ∷ more) page dots row column cell = cell_with_all more page dots row column (cell_with i page dots row column cell)

-- the cells of a row, each with these images
pub record AreWith (images : List ImageShape) (page : Page) (dots : Dots) (row : ℕ) (old new : List ℕ) : Type 0 where
  pub as_many : length new ≡ length old
  pub cells : (column : ℕ) → column < length old → get_or new column 0 ≡ cell_with_all images page dots row column (get_or old column 0)
