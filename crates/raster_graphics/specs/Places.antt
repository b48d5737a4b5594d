-- Places of the page, in grains from its lower left corner, and how far moves and rows reach.
use Rattle.std.specs.Prelude.{ℕ, ◌+◌, ◌*◌, ◌/◌, ◌^◌, ℤ, pos, neg_ℤ, ◌+ℤ◌, ◌*ℤ◌, int_le, nat_le, ◌&&◌, Option, Some, None, option_map, if◌then◌else◌}
use Rattle.exact.specs.Fraction.{quotient, round}
use Rattle.raster_graphics.specs.declared.place.TheConstants.{GRAINS, FARTHEST}
use Rattle.raster_graphics.specs.declared.place.Place.{Place}
use Rattle.raster_requests.specs.declared.place.Axis.{Axis}
use Rattle.raster_requests.specs.declared.place.Axis.TheVariants.{AlongRow, AcrossRows}
use Rattle.raster_requests.specs.declared.place.PlaceUnit.{PlaceUnit}
use Rattle.raster_requests.specs.declared.place.PlaceUnit.TheVariants.{Unit, Decipoint}
use Rattle.raster_requests.specs.declared.place.PlaceChange.{PlaceChange}

-- a coordinate, if it is in range
abbrev pub coordinate : ℤ → Option ℤ
coordinate z = if int_le (neg_ℤ FARTHEST) z && int_le z FARTHEST then Some z else None

-- a number of dots to the inch, if it is one
abbrev pub density_from : ℕ → Option ℕ
density_from n = if nat_le 10 n && nat_le n 9600 then Some n else None

-- how far so many millionths reach at a density, in grains
abbrev pub distance : ℕ → ℤ → ℤ
distance density millionths = round (quotient (pos GRAINS *ℤ millionths) (pos (density * 10 ^ 6)))

-- the density of what a change counts
abbrev pub density_of : PlaceUnit → ℕ → ℕ
density_of Unit unit = unit
density_of Decipoint unit = 720

-- a coordinate after a change, which goes from there or from the page's corner
abbrev pub start_of : PlaceChange → ℤ → ℤ
start_of change from = if change.is_relative then from else pos 0

abbrev pub moved : PlaceChange → ℕ → ℤ → ℤ
moved change unit from = start_of change from +ℤ distance (density_of change.unit unit) change.millionths

-- the coordinate of an axis, and a place with another one
abbrev pub coordinate_of : Axis → Place → ℤ
coordinate_of AcrossRows place = place.x
coordinate_of AlongRow place = place.y

abbrev pub with_coordinate : Axis → Place → ℤ → Place
with_coordinate AcrossRows place z = record place { x = z }
with_coordinate AlongRow place z = record place { y = z }

-- a place after a change, if it is in range
abbrev pub after_change : PlaceChange → ℕ → Place → Option Place
after_change change unit place =
    option_map (with_coordinate change.axis place) (coordinate (moved change unit (coordinate_of change.axis place)))

-- how far so many rows reach, in grains: 16256 * rows / density, rounded
abbrev pub row_offset : ℕ → ℕ → ℕ
row_offset density rows = (2 * GRAINS * rows + density) / (2 * density)
