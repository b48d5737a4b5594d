-- The tiles of an image: rows that were sent without a gap, cut into strips.
use Rattle.std.specs.Prelude.{ℕ, suc, ◌+◌, ◌-◌, ◌*◌, ◌/◌, ◌==◌, Bool, ◌&&◌, not, nat_lt, min, List, [], ◌∷◌, length, drop, get_or, map, if◌then◌else◌}
use Rattle.std.specs.List.{flat_map, range_with_len}
use Rattle.raster_graphics.specs.declared.image.Image.{Image}
use Rattle.image_data.specs.declared.tile.Tile.{Tile}
use Rattle.image_data.specs.declared.tile.TheConstants.{STRIP, MOST_ROWS, MOST_DOTS}

-- how many of these rows follow a row, each directly after the one before it
abbrev pub following : ℕ → List ℕ → ℕ
following last [] = 0
following last (number ∷ numbers) = if number == last + 1 then suc (following number numbers) else 0

-- the row at a position begins a band: it is the first one, or does not follow the one before it
abbrev pub begins : List ℕ → ℕ → Bool
begins numbers position =
    not (nat_lt 0 position && (get_or numbers position 0 == get_or numbers (position - 1) 0 + 1))

-- how many rows the band has that begins there
abbrev pub band_rows : List ℕ → ℕ → ℕ
band_rows numbers position = min MOST_ROWS (suc (following (get_or numbers position 0) (drop (position + 1) numbers)))

-- the dots of a row that are shown
abbrev pub shown_dots : Image → ℕ
shown_dots image = min MOST_DOTS image.width

-- a strip of the band that begins at a position, by the number of the strip
abbrev pub tile : Image → ℕ → ℕ → Tile
tile image position strip = record {
  position = position;
  rows = band_rows image.numbers position;
  column = STRIP * strip;
  columns = min STRIP (shown_dots image - STRIP * strip);
}

abbrev pub strip_count : Image → ℕ
strip_count image = (shown_dots image + (STRIP - 1)) / STRIP

abbrev pub band_tiles : Image → ℕ → List Tile
band_tiles image position = map (tile image position) (range_with_len 0 (strip_count image))

abbrev pub tiles_at : Image → ℕ → List Tile
tiles_at image position = if begins image.numbers position then band_tiles image position else []

-- all tiles, band after band
abbrev pub tiles : Image → List Tile
tiles image = flat_map (tiles_at image) (range_with_len 0 (length image.numbers))
