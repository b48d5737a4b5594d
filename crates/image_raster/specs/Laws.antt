-- What holds of images among strokes.
use Rattle.std.specs.Prelude.{◌≡◌, ℕ, ◌<◌, ◌≤◌, ◌^◌, List, ◌∷◌, ◌++◌, Some, None}
use Rattle.std.specs.List.{All}
use Rattle.plot_page.specs.declared.colour.Colour.{Colour}
use Rattle.plot_page.specs.declared.dots.Dots.{Dots}
use Rattle.plot_page.specs.declared.page.Page.{Page}
use Rattle.page_images.specs.PageImages.{ImageShape}
use Rattle.image_raster.specs.Dots.{shown_at_pixel}
use Rattle.image_raster.specs.Cells.{mark_of, cell_with_all}

-- an image shows nothing at a pixel
abbrev pub ShowsNothing : Page → Dots → ℕ → ℕ → ImageShape → Type 0
ShowsNothing page dots row column i = shown_at_pixel i page dots row column ≡ None

-- where the last stroke that covers a pixel comes after so many others, or no stroke covers it: the pixel shows
pub record LastShapeIsShown : Type 0 where
  -- that stroke, if each image that shows something there comes before it
  pub stroke : (images : List ImageShape) (page : Page) (dots : Dots) (row column position : ℕ) → position < 2 ^ 31
      → All (λ i. position ≤ i.before → ShowsNothing page dots row column i) images
      → cell_with_all images page dots row column position ≡ position
  -- or the last image that shows a colour there, if it comes after the stroke
  pub image : (before after : List ImageShape) (i : ImageShape) (page : Page) (dots : Dots) (row column position : ℕ) (colour : Colour)
      → position ≤ i.before
      → shown_at_pixel i page dots row column ≡ Some colour → All (ShowsNothing page dots row column) after
      → cell_with_all (before ++ i ∷ after) page dots row column position ≡ mark_of colour
