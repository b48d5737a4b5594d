-- The strokes of a letter, from a label's start, in grains (HP-GL/2 guide: SL and LO). CR separates the sections of a
-- label. LO says where a section is from the label's start, if the path leads to the right: in column 0 right of it, in
-- column 1 on both sides, in column 2 left of it; in row 0 above it, in row 1 beside it, in row 2 below it.
use Rattle.std.specs.Prelude.{ℕ, ◌-◌, ◌*◌, ◌/◌, ◌%◌, ◌^◌, Bool, nat_lt, if◌then◌else◌, List, map}
use Rattle.std.specs.Prelude.{ℤ, pos, ◌+ℤ◌, ◌-ℤ◌, ◌*ℤ◌}
use Rattle.exact.specs.declared.spot.Spot.{Spot}
use Rattle.directions.specs.Directions.{swung}
use Rattle.stick_font.specs.Labels.{share}
use Rattle.full_font.specs.Glyphs.{code_point_strokes}
use Rattle.full_font.specs.declared.grid.GlyphStroke.{GlyphStroke}
use Rattle.lettering.specs.Styles.{steps_to, parts_of}
use Rattle.lettering.specs.declared.cell.Cell.{Cell}
use Rattle.lettering.specs.declared.style.LineFeed.TheVariants.{Normal}
use Rattle.lettering.specs.declared.style.Path.{Path}
use Rattle.lettering.specs.declared.style.Path.TheVariants.{Right}
use Rattle.lettering.specs.declared.style.Style.{Style}

-- LO counts only for the path to the right
abbrev pub origin_along : Path → ℕ → ℕ
origin_along Right n = n
origin_along _ n = 1

abbrev pub origin_of : Style → ℕ
origin_of style = origin_along style.path style.origin

abbrev pub origin_column : Style → ℕ
origin_column style = (origin_of style % 10 - 1) / 3

abbrev pub origin_row : Style → ℕ
origin_row style = (origin_of style % 10 - 1) % 3

-- 11 to 19 are 1 to 9 with a gap of half a letter
abbrev pub has_gap : Style → Bool
has_gap style = nat_lt 10 (origin_of style)

-- a gap on the side of the letters, in millionths of parts: none in the middle column or row
abbrev pub gap : Style → ℕ → ℕ → ℤ
gap style parts position = if has_gap style then pos (10 ^ 6 * parts) *ℤ (pos position -ℤ pos 1) else pos 0

-- how far n letters begin left of their start, in millionths of twelfths of a letter's width: in column 1 half of what
-- they take up, in column 2 all of it
abbrev pub letters_beside : ℕ → ℤ → ℤ → ℤ
letters_beside column step n = pos column *ℤ (pos 9 *ℤ step *ℤ (n -ℤ pos 1) +ℤ pos (6 * 10 ^ 6))

-- how far a section of n letters begins left of its start and below it, in millionths of twelfths of a letter's width
-- and of eighteenths of its height
abbrev pub shift : Style → ℤ → Spot
shift style n = record {
  x = letters_beside (origin_column style) style.step_x n +ℤ gap style 6 (origin_column style);
  y = pos (9 * 10 ^ 6 * origin_row style) +ℤ gap style 9 (origin_row style);
}

-- the lower left corner of a letter, in a cell and a section of n letters, in the same unit
abbrev pub letter_corner : Style → Cell → ℤ → Spot
letter_corner style cell n =
    let parts = parts_of style (steps_to style cell.column (pos cell.line)) in
    let shifted = shift style n in
    record { x = parts.x -ℤ shifted.x; y = parts.y -ℤ shifted.y }

-- steps of a letter's grid, of 3 twelfths of a width or 3 eighteenths of a height each, from its corner on
abbrev pub on_grid : ℤ → ℤ → ℤ
on_grid corner steps = corner +ℤ pos (10 ^ 6) *ℤ (pos 3 *ℤ steps)

-- the point (i, j) of a letter's grid, by its corner. The slant moves it to the right by a part of its height above the
-- corner.
abbrev pub letter_point : Style → Spot → ℕ → ℤ → Spot
letter_point style corner i j =
    swung style.direction (record {
      x = share (on_grid corner.x (pos i)) style.width (12 * 10 ^ 6)
          +ℤ share (pos 3 *ℤ j *ℤ style.slant) style.height (18 * 10 ^ 6);
      y = share (on_grid corner.y j) style.height (18 * 10 ^ 6);
    })

abbrev pub letter_stroke : Style → Spot → GlyphStroke → Spot × Spot
letter_stroke style corner s = (letter_point style corner s.ax s.ay, letter_point style corner s.bx s.by)

-- the strokes of a letter by its corner, each as its two ends
abbrev pub letter_strokes : Style → Spot → ℕ → List (Spot × Spot)
letter_strokes style corner code_point = map (letter_stroke style corner) (code_point_strokes code_point)

-- centred whatever DV and LO say, by the path to the right and LO 5: so is a symbol (HP-GL/2 guide: SM), a label of one sign
abbrev pub centred : Style → Style
centred style = record style { path = Right; line_feed = Normal; origin = 5 }
