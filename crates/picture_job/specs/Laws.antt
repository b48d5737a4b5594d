-- Laws of pictures of so many pixels.
use Rattle.std.specs.Prelude.{ℕ, ◌≤◌, ◌<◌}
use Rattle.plot_page.specs.declared.page.Page.{Page}
use Rattle.plot_page.specs.Resolutions.{cell_count, dots_within, longer_side}

-- the resolution for so many pixels is the greatest one at which the longer side of a page has at most so many, or 1
pub record SuitsPixels (page : Page) (pixels : ℕ) : Type 0 where
  pub within : 1 < dots_within page pixels → cell_count (longer_side page) (dots_within page pixels) ≤ pixels
  pub greatest : (r : ℕ) → dots_within page pixels < r → r ≤ 1200 → pixels < cell_count (longer_side page) r

abbrev pub ResolutionsSuitPixels : Type 0
ResolutionsSuitPixels = (page : Page) (pixels : ℕ) → 1 ≤ pixels → SuitsPixels page pixels
