-- How many pixels a page has at a resolution.
use Rattle.std.specs.Prelude.{ℕ, ◌+◌, ◌*◌, ◌/◌, max, min}
use Rattle.plot_page.specs.declared.dots.Dots.{Dots}
use Rattle.plot_page.specs.declared.page.Page.{Page}

-- a length in plotter units, of which an inch has 1016, in pixels of r dots per inch, rounded to the nearest, but at least one
abbrev pub cell_count : ℕ → ℕ → ℕ
cell_count units r = max 1 ((units * r + 508) / 1016)

-- how many columns and rows of pixels the page has
abbrev pub columns_of : Page → Dots → ℕ
columns_of page dots = cell_count page.width dots.resolution

abbrev pub rows_of : Page → Dots → ℕ
rows_of page dots = cell_count page.height dots.resolution

-- the longer side of a page
abbrev pub longer_side : Page → ℕ
longer_side page = max page.width page.height

-- the greatest number of dots per inch, 1 to 1200, at which the longer side of the page has at most so many pixels, or 1
abbrev pub dots_within : Page → ℕ → ℕ
dots_within page pixels = max 1 (min 1200 ((1016 * pixels + 507) / longer_side page))
