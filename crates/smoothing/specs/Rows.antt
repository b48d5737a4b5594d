-- A row of smoothed pixels as contracts see it.
use Rattle.std.specs.Prelude.{ℕ, List, length}
use Rattle.smoothing.specs.declared.smooth_row.SmoothRow.{SmoothRow}

-- how many finer pixels a side of a pixel has
abbrev pub times_of : SmoothRow → ℕ
times_of row = row.times

-- the red, green and blue of each of its pixels
abbrev pub pixels_of : SmoothRow → List (List ℕ)
pixels_of row = row.pixels.items

-- how many pixels it has
abbrev pub width_of : SmoothRow → ℕ
width_of row = length (pixels_of row)
