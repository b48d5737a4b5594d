-- Parts of the rows and columns of a band, and what the inking of a part leaves.
use Rattle.std.specs.Prelude.{◌≡◌, ℕ, ◌+◌, ◌-◌, ◌*◌, ◌/◌, ◌<◌, ◌≤◌, Bool, ◌&&◌, cond, List}
use Rattle.plot_page.specs.declared.page.Page.{Page}
use Rattle.plot_page.specs.declared.dots.Dots.{Dots}
use Rattle.plot_page.specs.Resolutions.{columns_of, rows_of}
use Rattle.stroke_raster.specs.declared.strip.Span.{Span}
use Rattle.stroke_raster.specs.declared.layout.Layout.{Layout}
use Rattle.stroke_raster.specs.Inks.{ink_at}
use Rattle.stroke_raster.specs.Spans.{holds}
use Rattle.stroke_raster.specs.Tests.{reached_pixels}

-- these rows and columns lie in the band, and the band's rows lie on the page
pub record IsPart (page : Page) (dots : Dots) (layout : Layout) (part columns : Span) : Type 0 where
  pub order : part.low ≤ part.end
  pub from : layout.first ≤ part.low
  pub to : part.end ≤ layout.first + layout.rows
  pub rows_in : layout.first + layout.rows ≤ rows_of page dots
  pub columns_order : columns.low ≤ columns.end
  pub columns_in : columns.end ≤ columns_of page dots
  pub line_in : columns.end ≤ 8 * layout.stride

-- the band has eight bytes, from that of the first column on, in each row of a part
abbrev pub HasRoom : Layout → Span → Span → Type 0
HasRoom layout part columns =
    (row : ℕ) → part.low ≤ row → row < part.end →
    (row - layout.first) * layout.stride + (columns.low / 8 + 8) ≤ layout.rows * layout.stride

-- the pixels of these rows and columns that are reached are black, and all others are as they were
abbrev pub ArePartInked : (ℕ → ℕ → Bool) → Layout → Span → Span → List ℕ → List ℕ → Type 0
ArePartInked reached layout part columns old new =
    (r k : ℕ) → r < layout.rows → k < 8 * layout.stride →
    ink_at layout.stride new r k
    ≡ cond (holds part (layout.first + r) && (holds columns k && reached (layout.first + r) k)) 1 (ink_at layout.stride old r k)

-- how many pixels of these rows and columns are reached
abbrev pub reached_in : (ℕ → ℕ → Bool) → Span → Span → ℕ
reached_in covers part columns =
    reached_pixels covers part.low (part.end - part.low) columns.low (columns.end - columns.low)
