-- Which coding a command asks for. HP RTL, "Simple Color" and "Configure Image Data".
use Rattle.std.specs.Prelude.{ℕ, ℤ, pos, negsuc, ◌==◌, nat_lt, ◌&&◌, Bool, List, length, slice_index, Option, Some, None, option_map, if◌then◌else◌}
use Rattle.image_colours.specs.declared.bits.Bits.{Bits}
use Rattle.image_colours.specs.declared.coding.Space.{Space}
use Rattle.image_colours.specs.declared.coding.Space.TheVariants.{Rgb, Cmy}
use Rattle.image_colours.specs.declared.coding.Depths.{Depths}
use Rattle.image_colours.specs.declared.coding.Coding.{Coding}
use Rattle.image_colours.specs.declared.coding.Coding.TheVariants.{Black, BlackAndCmy, DirectPlanes, IndexPlanes, IndexPixels, DirectPixels}
use Rattle.image_colours.specs.Bits.{bits_from, pixel_bits_from}

-- by the number of Simple Color; -1 is below 0 by 0 more than 1
abbrev pub simple : ℤ → Option Coding
simple (pos n) =
    if n == 1 then Some Black else
    if n == 3 then Some (DirectPlanes Rgb) else
    None
simple (negsuc n) =
    if n == 0 then Some Black else
    if n == 2 then Some (DirectPlanes Cmy) else
    if n == 3 then Some BlackAndCmy else
    None

-- a space by its number
abbrev pub space_from : ℕ → Option Space
space_from n = if n == 0 then Some Rgb else if n == 1 then Some Cmy else None

-- three numbers of bits
abbrev pub depths_of : Option Bits → Option Bits → Option Bits → Option Depths
depths_of (Some first) (Some second) (Some third) = Some (record { first = first; second = second; third = third })
depths_of _ _ _ = None

abbrev pub depths_from : ℕ → ℕ → ℕ → Option Depths
depths_from first second third = depths_of (bits_from first) (bits_from second) (bits_from third)

-- the three parts have as many bits as this
abbrev pub are_all : ℕ → ℕ → ℕ → ℕ → Bool
are_all bits first second third = (first == bits) && (second == bits) && (third == bits)

-- an index by planes, or by pixels, if its number of bits is allowed
abbrev pub index_planes : ℕ → Space → Depths → Option Coding
index_planes bits space depths = option_map (λ b. IndexPlanes b (record { space = space; depths = depths })) (bits_from bits)

abbrev pub index_pixels : ℕ → Space → Depths → Option Coding
index_pixels bits space depths = option_map (λ b. IndexPixels b (record { space = space; depths = depths })) (pixel_bits_from bits)

-- by the number of an encoding, the bits of an index and those of three parts
abbrev pub with_depths : Option Depths → (Depths → Option Coding) → Option Coding
with_depths None code = None
with_depths (Some depths) code = code depths

abbrev pub encoded : Space → ℕ → ℕ → ℕ → ℕ → ℕ → Option Coding
encoded space encoding bits first second third =
    if encoding == 0 then with_depths (depths_from first second third) (index_planes bits space) else
    if encoding == 1 then with_depths (depths_from first second third) (index_pixels bits space) else
    if encoding == 2 then (if are_all 1 first second third then Some (DirectPlanes space) else None) else
    if encoding == 3 then (if are_all 8 first second third then Some (DirectPixels space) else None) else
    None

abbrev pub in_space : Option Space → (Space → Option Coding) → Option Coding
in_space None code = None
in_space (Some space) code = code space

-- by the bytes of Configure Image Data: six, and more that say nothing
abbrev pub configured : List ℕ → Option Coding
configured bytes =
    if nat_lt (length bytes) 6 then None else
    in_space (space_from (slice_index bytes 0))
    (λ space. encoded space (slice_index bytes 1) (slice_index bytes 2) (slice_index bytes 3) (slice_index bytes 4)
    (slice_index bytes 5))
