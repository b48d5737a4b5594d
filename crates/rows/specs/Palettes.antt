-- The palette of a picture, and its pixels as numbers of the palette.
use Rattle.std.specs.Prelude.{ℕ, ◌≡◌, ◌+◌, ◌-◌, ◌*◌, ◌/◌, ◌<◌, true, All, List, [], ◌∷◌, ◌++◌, length, get_or, map, fold, nat_eq, if◌then◌else◌}
use Rattle.std.specs.List.{flat_map, list_any, range_with_len}
use Rattle.std.specs.Str.{bytes_eq}
use Rattle.plot_page.specs.Segments.{Segment}
use Rattle.plot_page.specs.Pens.{has_pen}
use Rattle.plot_page.specs.declared.page.Page.{Page}
use Rattle.plot_page.specs.declared.dots.Dots.{Dots}
use Rattle.plot_page.specs.declared.pens.PenSet.{PenSet}
use Rattle.plot_page.specs.Resolutions.{columns_of, rows_of}
use Rattle.stroke_raster.specs.Boxes.{selected}
use Rattle.areas.specs.Shapes.{ShapeList}
use Rattle.stroke_raster.specs.ShownShapes.{row_of_shapes}
use Rattle.picture_out.specs.Inks.{colour_bytes, paper}
use Rattle.png.specs.declared.header.Depth.{Depth}
use Rattle.png.specs.Headers.{bits_of_depth}
use Rattle.png.specs.Packing.{packed_samples}
use Rattle.rows.specs.Pictures.{Reach, ink_of, smoothed_pixels}

-- red, green and blue of a stroke
abbrev pub stroke_colour : Segment → List ℕ
stroke_colour s = colour_bytes (ink_of s)

-- a palette, and after it a colour that it does not have yet
abbrev pub with_colour : List (List ℕ) → List ℕ → List (List ℕ)
with_colour palette colour = if list_any (bytes_eq colour) palette then palette else palette ++ colour ∷ []

-- white, and then each further colour of the selected strokes, in the order in which it first comes
abbrev pub colours_used : PenSet → List Segment → List (List ℕ)
colours_used pens strokes = fold with_colour (colour_bytes paper ∷ []) (map stroke_colour (selected pens strokes))

-- a stroke's number is that of its colour, after which its colour is added if it is new; if its pen is selected
pub record IsNumbered (pens : PenSet) (s : Segment) (old new : List (List ℕ)) (number : ℕ) : Type 0 where
  pub colours : new ≡ (if has_pen pens s.pen then with_colour old (stroke_colour s) else old)
  pub within : number < length new
  pub named : has_pen pens s.pen ≡ true → get_or new number [] ≡ stroke_colour s

-- the number of each selected stroke is that of its colour in the palette, and no number is past the palette
pub record AreNumbers (pens : PenSet) (strokes : List Segment) (colours : List (List ℕ)) (numbers : List ℕ) : Type 0 where
  pub size : length numbers ≡ length strokes
  pub within : All (λ number. number < length colours) numbers
  pub named : (k : ℕ) (s : Segment) → k < length strokes → has_pen pens (get_or strokes k s).pen ≡ true
      → get_or colours (get_or numbers k 0) [] ≡ stroke_colour (get_or strokes k s)

-- the number of a cell: 0 for the paper, else that of the stroke at its position
abbrev pub number_of : List ℕ → ℕ → ℕ
number_of numbers cell = if nat_eq cell 0 then 0 else get_or numbers (cell - 1) 0

-- how many bytes a row of numbers has
abbrev pub numbers_bytes : Depth → ℕ → ℕ
numbers_bytes depth columns = (columns * bits_of_depth depth + 7) / 8

-- the bytes of a row of numbers
abbrev pub numbers_row : Depth → List ℕ → PenSet → ShapeList → Page → Dots → Reach → ℕ → List ℕ
numbers_row depth numbers pens shapes page dots reaches row =
    packed_samples depth (numbers_bytes depth (columns_of page dots))
    (map (number_of numbers) (row_of_shapes reaches pens shapes.strokes shapes.areas page dots row))

-- white, and then each further colour of the pixels of a smoothed picture, in the order in which it first comes, row by row
abbrev pub colours_smoothed : ℕ → Reach → PenSet → ShapeList → Page → Dots → List (List ℕ)
colours_smoothed n reaches pens shapes page dots =
    fold with_colour (colour_bytes paper ∷ [])
    (flat_map (smoothed_pixels n reaches pens shapes page dots) (range_with_len 0 (rows_of page dots)))
