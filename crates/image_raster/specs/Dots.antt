-- Which dot of an image on a page lies at a place. Places are in grains divided by the resolution r, as those of strokes.
use Rattle.std.specs.Prelude.{ℕ, ◌-◌, ◌*◌, ◌^◌, Bool, ◌&&◌, ℤ, pos, neg_ℤ, nat_abs, ◌*ℤ◌, Option, None, if◌then◌else◌}
use Rattle.directions.specs.declared.turn.Turn.{Turn}
use Rattle.directions.specs.declared.turn.Turn.TheVariants as turn
use Rattle.exact.specs.Fraction.{floor}
use Rattle.exact.specs.Ranges.{is_between}
use Rattle.plot_page.specs.declared.colour.Colour.{Colour}
use Rattle.plot_page.specs.declared.dots.Dots.{Dots}
use Rattle.plot_page.specs.declared.page.Page.{Page}
use Rattle.raster_graphics.specs.declared.image.Image.{Image}
use Rattle.raster_graphics.specs.declared.place.TheConstants.{GRAINS}
use Rattle.raster_graphics.specs.Dots.{shown_at}
use Rattle.stroke_raster.specs.declared.vector.Vector.{Vector}
use Rattle.stroke_raster.specs.Covers.{centre, in_window}
use Rattle.stroke_raster.specs.Gap.{scaled, way}
use Rattle.page_images.specs.PageImages.{ImageShape}

-- how far a way leads from row to row of an image that is turned, and how far along a row: without a turn the next row lies in
-- the direction of x, and a row runs along y
abbrev pub across : Turn → Vector → ℤ
across turn.None v = v.x
across turn.Quarter v = v.y
across turn.Half v = neg_ℤ v.x
across turn.ThreeQuarters v = neg_ℤ v.y

abbrev pub along : Turn → Vector → ℤ
along turn.None v = v.y
along turn.Quarter v = neg_ℤ v.x
along turn.Half v = neg_ℤ v.y
along turn.ThreeQuarters v = v.x

-- the number of the row, or of the dot, so far away: an inch has 16,256 grains
abbrev pub number_at : ℕ → ℕ → ℤ → ℤ
number_at density r z = floor (record { over = z *ℤ pos density; under = GRAINS * r })

-- an image has fewer than 2^32 rows, and dots in a row
abbrev pub is_number : ℤ → Bool
is_number z = is_between (pos 0) (pos (2 ^ 32 - 1)) z

-- what it shows at numbers that may be no rows and no dots
abbrev pub shown_in : Image → ℤ → ℤ → Option Colour
shown_in image row column =
    if is_number row && is_number column then shown_at image (nat_abs row) (nat_abs column) else None

-- the image's corner
abbrev pub corner : ImageShape → Vector
corner i = record { x = i.frame.ax; y = i.frame.ay }

-- the colour that it shows at a place, if it shows one there
abbrev pub shown_on_way : ImageShape → ℕ → Vector → Option Colour
shown_on_way i r w =
    let density = i.image.settings.resolution in
    shown_in i.image (number_at density r (across i.turn w)) (number_at density r (along i.turn w))

abbrev pub shown_at_place : ImageShape → ℕ → Vector → Option Colour
shown_at_place i r p = if in_window i.frame.window r p then shown_on_way i r (way (scaled (pos r) (corner i)) p) else None

-- the colour at the centre of a pixel
abbrev pub shown_at_pixel : ImageShape → Page → Dots → ℕ → ℕ → Option Colour
shown_at_pixel i page dots row column = shown_at_place i dots.resolution (centre page.height dots.resolution row column)
