-- How far a cell of a label is from another, in grains (HP-GL/2 guide: CP, whose lines count upward).
use Rattle.std.specs.Prelude.{◌*◌, ◌^◌, ℤ}
use Rattle.exact.specs.declared.spot.Spot.{Spot}
use Rattle.directions.specs.Directions.{swung}
use Rattle.stick_font.specs.Labels.{share}
use Rattle.lettering.specs.Styles.{steps_to, parts_of}
use Rattle.lettering.specs.declared.style.Style.{Style}

-- n millionths of a column and m millionths of a line on
abbrev pub cell_offset : Style → ℤ → ℤ → Spot
cell_offset style n m =
    let parts = parts_of style (steps_to style n m) in
    swung style.direction (record {
      x = share parts.x style.width (12 * 10 ^ 12);
      y = share parts.y style.height (18 * 10 ^ 12);
    })
