-- The colour of a dot, from the planes of its row.
use Rattle.std.specs.Prelude.{ℕ, ◌+◌, ◌-◌, ◌*◌, ◌/◌, ◌%◌, ◌^◌, List, [], ◌∷◌, take, slice_index}
use Rattle.std.specs.List.{slice_index_or}
use Rattle.plot_page.specs.declared.colour.Colour.{Colour}
use Rattle.image_colours.specs.declared.coding.Space.{Space}
use Rattle.image_colours.specs.declared.coding.Coding.{Coding}
use Rattle.image_colours.specs.declared.coding.Coding.TheVariants.{IndexPixels, DirectPixels}
use Rattle.image_colours.specs.Bits.{pixel_bits_of}
use Rattle.image_colours.specs.Counts.{plane_count}
use Rattle.image_colours.specs.Palettes.{black, mixed}

-- what a column has in a plane with 1, 2, 4 or 8 bits each: they begin at a byte's highest bit. Past the last byte they are 0.
abbrev pub bits_at : ℕ → List ℕ → ℕ → ℕ
bits_at bits plane column = slice_index plane (column * bits / 8) / 2 ^ (8 - bits - column * bits % 8) % 2 ^ bits

-- an index that has a plane for each of its bits, its lowest in the first plane
unfoldable pub index_of_planes : List (List ℕ) → ℕ → ℕ
index_of_planes [] column = 0
index_of_planes (plane ∷ planes) column = bits_at 1 plane column + 2 * index_of_planes planes column

-- a plane of a row, if it is there
abbrev pub first_plane : List (List ℕ) → List ℕ
first_plane planes = slice_index_or planes 0 []

-- the index of a dot into the palette
abbrev pub index_of : Coding → List (List ℕ) → ℕ → ℕ
index_of (IndexPixels bits entries) planes column = bits_at (pixel_bits_of bits) (first_plane planes) column
index_of coding planes column = index_of_planes (take (plane_count coding) planes) column

-- the colour of three bytes of a plane
abbrev pub direct : Space → List ℕ → ℕ → Colour
direct space plane column =
    mixed space (slice_index plane (3 * column)) (slice_index plane (3 * column + 1)) (slice_index plane (3 * column + 2))

-- the colour of a dot: its column, the planes of its row, and the palette
abbrev pub colour_of : Coding → List Colour → List (List ℕ) → ℕ → Colour
colour_of (DirectPixels space) palette planes column = direct space (first_plane planes) column
colour_of coding palette planes column = slice_index_or palette (index_of coding planes column) black
