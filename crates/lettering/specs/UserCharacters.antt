-- A character that a plot draws by moves (HP-GL/2 guide: UC): where its points are, and where it leaves the pen, from the
-- pen's place, in grains. It is placed as a label of one character, whose corner is the point (0, 0).
use Rattle.std.specs.Prelude.{◌*◌, ◌^◌, pos, ◌+ℤ◌, ◌*ℤ◌}
use Rattle.exact.specs.declared.spot.Spot.{Spot}
use Rattle.directions.specs.Directions.{swung}
use Rattle.stick_font.specs.Labels.{share}
use Rattle.lettering.specs.Columns.{first_cell}
use Rattle.lettering.specs.Labels.{end_in}
use Rattle.lettering.specs.Letters.{letter_corner}
use Rattle.lettering.specs.declared.cell.Cell.{Cell}
use Rattle.lettering.specs.declared.style.Style.{Style}

-- the point (i, j), in millionths of fourths of a letter's width and of eighths of its height. The slant moves it to the
-- right by a part of its height above the corner.
abbrev pub user_point : Style → Spot → Spot
user_point style p =
    let corner = letter_corner style first_cell (pos 1) in
    swung style.direction (record {
      x = share (corner.x +ℤ pos 3 *ℤ p.x) style.width (12 * 10 ^ 6)
          +ℤ share (p.y *ℤ style.slant) style.height (8 * 10 ^ 12);
      y = share (pos 4 *ℤ corner.y +ℤ pos 9 *ℤ p.y) style.height (72 * 10 ^ 6);
    })

-- the cell after a character
abbrev pub second_cell : Cell
second_cell = record { column = pos 1; line = 0 }

abbrev pub user_end : Style → Spot
user_end style = end_in style second_cell
