-- The colours of an image's palette: those at its start, and those that are set. HP RTL, "Configure Image Data" and "Assign
-- Color Index".
use Rattle.std.specs.Prelude.{ℕ, ◌+◌, ◌-◌, ◌*◌, ◌/◌, ◌%◌, ◌^◌, min, Bool, nat_lt, ◌==◌, List, map, slice_set, if◌then◌else◌}
use Rattle.std.specs.List.{range_with_len}
use Rattle.plot_page.specs.declared.colour.Colour.{Colour}
use Rattle.image_colours.specs.declared.bits.Bits.{Bits}
use Rattle.image_colours.specs.declared.coding.Space.{Space}
use Rattle.image_colours.specs.declared.coding.Space.TheVariants.{Rgb, Cmy}
use Rattle.image_colours.specs.declared.coding.Entries.{Entries}
use Rattle.image_colours.specs.declared.coding.Coding.{Coding}
use Rattle.image_colours.specs.declared.coding.Coding.TheVariants.{Black, BlackAndCmy, DirectPlanes, IndexPlanes, IndexPixels, DirectPixels}
use Rattle.image_colours.specs.declared.palette.Parts.{Parts}
use Rattle.image_colours.specs.Bits.{bits_of, pixel_bits_of}
use Rattle.image_colours.specs.Counts.{entry_count}

abbrev pub black : Colour
black = record { red = 0; green = 0; blue = 0 }

abbrev pub white : Colour
white = record { red = 255; green = 255; blue = 255 }

-- the colour of three parts, each 0 to 255: with inks it is white less them
abbrev pub mixed : Space → ℕ → ℕ → ℕ → Colour
mixed Rgb first second third = record { red = first; green = second; blue = third }
mixed Cmy first second third = record { red = 255 - first; green = 255 - second; blue = 255 - third }

-- a corner of the space: bit 0 of a number says whether all of the first part is there, bit 1 the second, bit 2 the third
abbrev pub corner : Space → ℕ → Colour
corner space n = mixed space (255 * (n % 2)) (255 * (n / 2 % 2)) (255 * (n / 4 % 2))

-- entry n of two
abbrev pub of_two : ℕ → Colour
of_two n = if n == 0 then white else black

-- entry n of four: none of the parts, the first, the second, and all three
abbrev pub of_four : Space → ℕ → Colour
of_four space n = if n == 3 then corner space 7 else if nat_lt n 3 then corner space n else black

-- entry n of eight or more: the corners, and black after them
abbrev pub of_more : Space → ℕ → Colour
of_more space n = if nat_lt n 8 then corner space n else black

-- entry n of a palette of an index with this number of bits
abbrev pub of_index : ℕ → Space → ℕ → Colour
of_index bits space n = if bits == 1 then of_two n else if bits == 2 then of_four space n else of_more space n

-- entry n of a palette at its start. After black, cyan, magenta and yellow: black where its bit is set.
abbrev pub starting : Coding → ℕ → Colour
starting Black n = of_two n
starting BlackAndCmy n = if n % 2 == 1 then black else corner Cmy (n / 2)
starting (DirectPlanes space) n = of_more space n
starting (IndexPlanes bits entries) n = of_index (bits_of bits) entries.space n
starting (IndexPixels bits entries) n = of_index (pixel_bits_of bits) entries.space n
starting (DirectPixels space) n = black

-- a palette at its start: there is room for 256 entries; the coding uses the first of them, as many as it has
unfoldable pub start : Coding → List Colour
start coding = map (starting coding) (range_with_len 0 256)

-- a part of so many bits as 0 to 255: 255 * part / (2^bits - 1), rounded
abbrev pub scaled : Bits → ℕ → ℕ
scaled bits part = min 255 ((2 * 255 * part + (2 ^ bits_of bits - 1)) / (2 * (2 ^ bits_of bits - 1)))

-- the colour of three parts, as an entry is set to it
abbrev pub set_colour : Entries → Parts → Colour
set_colour entries parts =
    mixed entries.space (scaled entries.depths.first parts.first) (scaled entries.depths.second parts.second)
    (scaled entries.depths.third parts.third)

-- there is such an entry
abbrev pub has_entry : Coding → ℕ → Bool
has_entry coding n = nat_lt n (entry_count coding)

-- a palette after its entry n is set: only palettes of an index can be changed
abbrev pub with_entry : Coding → ℕ → Parts → List Colour → List Colour
with_entry (IndexPlanes bits entries) n parts palette = slice_set palette n (set_colour entries parts)
with_entry (IndexPixels bits entries) n parts palette = slice_set palette n (set_colour entries parts)
with_entry _ n parts palette = palette
