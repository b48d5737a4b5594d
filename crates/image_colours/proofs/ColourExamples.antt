-- Codings, palettes and dots that compute.
use Rattle.std.proofs.Common.{◌≡◌, ℕ, pos, negsuc, List, [], ◌∷◌, map, Some, None, refl}
use Rattle.plot_page.specs.declared.colour.Colour.{Colour}
use Rattle.image_colours.specs.declared.bits.Bits.TheVariants.{One, Two, Three, Four, Eight}
use Rattle.image_colours.specs.declared.bits.PixelBits.TheVariants as pixel
use Rattle.image_colours.specs.declared.coding.Space.{Space}
use Rattle.image_colours.specs.declared.coding.Space.TheVariants.{Rgb, Cmy}
use Rattle.image_colours.specs.declared.coding.Entries.{Entries}
use Rattle.image_colours.specs.declared.coding.Coding.{Coding}
use Rattle.image_colours.specs.declared.coding.Coding.TheVariants.{Black, BlackAndCmy, DirectPlanes, IndexPlanes, IndexPixels, DirectPixels}
use Rattle.image_colours.specs.declared.palette.Parts.{Parts}
use Rattle.image_colours.specs.Counts.{plane_count, dot_bits, plane_bytes, dots_in, entry_count}
use Rattle.image_colours.specs.Codings.{simple, configured}
use Rattle.image_colours.specs.Palettes.{black, white, starting, set_colour}
use Rattle.image_colours.specs.Dots.{bits_at, index_of_planes, index_of, colour_of}

colour : ℕ → ℕ → ℕ → Colour
colour red green blue = record { red = red; green = green; blue = blue }

-- entries of eight bits
full : Space → Entries
full space = record { space = space; depths = record { first = Eight; second = Eight; third = Eight } }

simple_colours : map simple (
    -- 1, -1: black
    pos 1 ∷ negsuc 0 ∷
    -- 3: red, green, blue; -3: cyan, magenta, yellow; -4: with black
    pos 3 ∷ negsuc 2 ∷ negsuc 3 ∷
    -- 0, 2, 4, -2, -5
    pos 0 ∷ pos 2 ∷ pos 4 ∷ negsuc 1 ∷ negsuc 4 ∷ [])
    ≡ Some Black ∷ Some Black ∷ Some (DirectPlanes Rgb) ∷ Some (DirectPlanes Cmy) ∷ Some BlackAndCmy ∷ None ∷ None ∷ None ∷ None
    ∷ None ∷ []
simple_colours = refl

configurations : map configured (
    -- an index of three bits by planes, one of four by pixels, with inks
    (0 ∷ 0 ∷ 3 ∷ 8 ∷ 8 ∷ 8 ∷ []) ∷ (1 ∷ 1 ∷ 4 ∷ 8 ∷ 8 ∷ 8 ∷ []) ∷
    -- by planes, whatever the bits of an index are, and by pixels, with a byte more
    (1 ∷ 2 ∷ 9 ∷ 1 ∷ 1 ∷ 1 ∷ []) ∷ (0 ∷ 3 ∷ 0 ∷ 8 ∷ 8 ∷ 8 ∷ 7 ∷ []) ∷ [])
    ≡ Some (IndexPlanes Three (full Rgb)) ∷ Some (IndexPixels pixel.Four (full Cmy)) ∷ Some (DirectPlanes Cmy)
    ∷ Some (DirectPixels Rgb) ∷ []
unfolding full
configurations = refl

no_configurations : map configured (
    -- five bytes; a third space; a fifth encoding
    (0 ∷ 0 ∷ 3 ∷ 8 ∷ 8 ∷ []) ∷ (2 ∷ 0 ∷ 3 ∷ 8 ∷ 8 ∷ 8 ∷ []) ∷ (0 ∷ 4 ∷ 3 ∷ 8 ∷ 8 ∷ 8 ∷ []) ∷
    -- no bits, nine, and three side by side; a part of nine bits, and of none
    (0 ∷ 0 ∷ 0 ∷ 8 ∷ 8 ∷ 8 ∷ []) ∷ (0 ∷ 0 ∷ 9 ∷ 8 ∷ 8 ∷ 8 ∷ []) ∷ (0 ∷ 1 ∷ 3 ∷ 8 ∷ 8 ∷ 8 ∷ []) ∷ (0 ∷ 1 ∷ 1 ∷ 8 ∷ 9 ∷ 8 ∷ []) ∷ (0
    ∷ 0 ∷ 1 ∷ 8 ∷ 8 ∷ 0 ∷ []) ∷
    -- parts of two bits by planes, and of seven by pixels
    (0 ∷ 2 ∷ 0 ∷ 1 ∷ 2 ∷ 1 ∷ []) ∷ (0 ∷ 3 ∷ 0 ∷ 8 ∷ 8 ∷ 7 ∷ []) ∷ [])
    ≡ None ∷ None ∷ None ∷ None ∷ None ∷ None ∷ None ∷ None ∷ None ∷ None ∷ []
no_configurations = refl

-- the planes of a row, the bits of a dot, the bytes of nine dots, the dots of five bytes, the entries
counts : Coding → List ℕ
counts coding = plane_count coding ∷ dot_bits coding ∷ plane_bytes coding 9 ∷ dots_in coding 5 ∷ entry_count coding ∷ []

counted : map counts (Black ∷ BlackAndCmy ∷ DirectPlanes Rgb ∷ IndexPlanes Eight (full Rgb) ∷ IndexPixels pixel.Two (full Rgb)
    ∷ IndexPixels pixel.Eight (full Rgb) ∷ DirectPixels Cmy ∷ [])
    ≡ (1 ∷ 1 ∷ 2 ∷ 40 ∷ 2 ∷ []) ∷ (4 ∷ 1 ∷ 2 ∷ 40 ∷ 16 ∷ []) ∷ (3 ∷ 1 ∷ 2 ∷ 40 ∷ 8 ∷ []) ∷ (8 ∷ 1 ∷ 2 ∷ 40 ∷ 256 ∷ []) ∷ (1 ∷ 2
    ∷ 3 ∷ 20 ∷ 4 ∷ []) ∷ (1 ∷ 8 ∷ 9 ∷ 5 ∷ 256 ∷ []) ∷ (1 ∷ 24 ∷ 27 ∷ 1 ∷ 0 ∷ []) ∷ []
unfolding counts full
counted = refl

-- the first nine entries
nine : Coding → List Colour
nine coding = map (starting coding) (0 ∷ 1 ∷ 2 ∷ 3 ∷ 4 ∷ 5 ∷ 6 ∷ 7 ∷ 8 ∷ [])

two_entries : map (starting Black) (0 ∷ 1 ∷ []) ≡ white ∷ black ∷ []
two_entries = refl

two_of_inks : map (starting (IndexPlanes One (full Cmy))) (0 ∷ 1 ∷ []) ≡ white ∷ black ∷ []
unfolding full
two_of_inks = refl

four_entries : map (starting (IndexPlanes Two (full Rgb))) (0 ∷ 1 ∷ 2 ∷ 3 ∷ []) ≡ black ∷ colour 255 0 0 ∷ colour 0 255 0 ∷ white
    ∷ []
unfolding full colour
four_entries = refl

four_of_inks : map (starting (IndexPixels pixel.Two (full Cmy))) (0 ∷ 1 ∷ 2 ∷ 3 ∷ []) ≡ white ∷ colour 0 255 255
    ∷ colour 255 0 255 ∷ black ∷ []
unfolding full colour
four_of_inks = refl

nine_entries : nine (IndexPixels pixel.Four (full Rgb))
    ≡ black ∷ colour 255 0 0 ∷ colour 0 255 0 ∷ colour 255 255 0 ∷ colour 0 0 255 ∷ colour 255 0 255 ∷ colour 0 255 255 ∷ white
    ∷ black ∷ []
unfolding nine full colour
nine_entries = refl

nine_of_inks : nine (IndexPlanes Four (full Cmy))
    ≡ white ∷ colour 0 255 255 ∷ colour 255 0 255 ∷ colour 0 0 255 ∷ colour 255 255 0 ∷ colour 0 255 0 ∷ colour 255 0 0 ∷ black
    ∷ black ∷ []
unfolding nine full colour
nine_of_inks = refl

with_black : map (starting BlackAndCmy) (0 ∷ 1 ∷ 2 ∷ 3 ∷ 4 ∷ 8 ∷ 14 ∷ []) ≡ white ∷ black ∷ colour 0 255 255 ∷ black
    ∷ colour 255 0 255 ∷ colour 255 255 0 ∷ black ∷ []
unfolding colour
with_black = refl

parts : ℕ → ℕ → ℕ → Parts
parts first second third = record { first = first; second = second; third = third }

-- of four bits, with inks; of one, two and three bits; more than all is all
set_colours : set_colour (record { space = Cmy; depths = record { first = Four; second = Four; third = Four } }) (parts 15 8 0)
    ∷ set_colour (record { space = Rgb; depths = record { first = One; second = Two; third = Three } }) (parts 1 1 4)
    ∷ set_colour (full Rgb) (parts 256 255 1) ∷ []
    ≡ colour 0 119 255 ∷ colour 255 85 146 ∷ colour 255 255 1 ∷ []
unfolding full parts colour
set_colours = refl

-- 201 is 11001001 in bits
bits_of_a_byte : map (bits_at 1 (0 ∷ 201 ∷ [])) (7 ∷ 8 ∷ 9 ∷ 10 ∷ 11 ∷ 12 ∷ 15 ∷ 16 ∷ []) ≡ 0 ∷ 1 ∷ 1 ∷ 0 ∷ 0 ∷ 1 ∷ 1 ∷ 0 ∷ []
bits_of_a_byte = refl

pairs_of_a_byte : map (bits_at 2 (201 ∷ [])) (0 ∷ 1 ∷ 2 ∷ 3 ∷ 4 ∷ []) ≡ 3 ∷ 0 ∷ 2 ∷ 1 ∷ 0 ∷ []
pairs_of_a_byte = refl

halves_and_bytes : map (bits_at 4 (201 ∷ 7 ∷ [])) (0 ∷ 1 ∷ 2 ∷ 3 ∷ []) ≡ 12 ∷ 9 ∷ 0 ∷ 7 ∷ []
halves_and_bytes = refl

-- three planes: 128, 192 and none of the third
by_planes : map (index_of (IndexPlanes Three (full Rgb)) ((128 ∷ []) ∷ (192 ∷ []) ∷ [])) (0 ∷ 1 ∷ 2 ∷ []) ≡ 3 ∷ 2 ∷ 0 ∷ []
unfolding full index_of_planes
by_planes = refl

-- a fourth plane says nothing
too_many : index_of (DirectPlanes Cmy) ((0 ∷ []) ∷ (128 ∷ []) ∷ (0 ∷ []) ∷ (255 ∷ []) ∷ []) 0 ≡ 2
unfolding index_of_planes
too_many = refl

-- three bytes each, and 0 past the last one
by_pixels : map (colour_of (DirectPixels Cmy) [] ((255 ∷ 0 ∷ 9 ∷ 1 ∷ []) ∷ [])) (0 ∷ 1 ∷ 2 ∷ []) ≡ colour 0 255 246
    ∷ colour 254 255 255 ∷ white ∷ []
unfolding colour
by_pixels = refl
