-- What follows from how dots are coded: planes, bytes and dots.
use Rattle.std.specs.Prelude.{ℕ, ◌+◌, ◌*◌, ◌/◌, ◌^◌}
use Rattle.image_colours.specs.declared.coding.Coding.{Coding}
use Rattle.image_colours.specs.declared.coding.Coding.TheVariants.{Black, BlackAndCmy, DirectPlanes, IndexPlanes, IndexPixels, DirectPixels}
use Rattle.image_colours.specs.Bits.{bits_of, pixel_bits_of}

-- how many planes a row has
abbrev pub plane_count : Coding → ℕ
plane_count Black = 1
plane_count BlackAndCmy = 4
plane_count (DirectPlanes _) = 3
plane_count (IndexPlanes bits _) = bits_of bits
plane_count (IndexPixels _ _) = 1
plane_count (DirectPixels _) = 1

-- how many bits a dot has in a plane
abbrev pub dot_bits : Coding → ℕ
dot_bits Black = 1
dot_bits BlackAndCmy = 1
dot_bits (DirectPlanes _) = 1
dot_bits (IndexPlanes _ _) = 1
dot_bits (IndexPixels bits _) = pixel_bits_of bits
dot_bits (DirectPixels _) = 24

-- how many bytes a plane takes for a width in dots
abbrev pub plane_bytes : Coding → ℕ → ℕ
plane_bytes coding width = (width * dot_bits coding + 7) / 8

-- how many whole dots so many bytes of a plane have
abbrev pub dots_in : Coding → ℕ → ℕ
dots_in coding bytes = bytes * 8 / dot_bits coding

-- how many entries its palette has: none if the dots are coded by their colours themselves
abbrev pub entry_count : Coding → ℕ
entry_count Black = 2
entry_count BlackAndCmy = 16
entry_count (DirectPlanes _) = 8
entry_count (IndexPlanes bits _) = 2 ^ bits_of bits
entry_count (IndexPixels bits _) = 2 ^ pixel_bits_of bits
entry_count (DirectPixels _) = 0
