-- How many bits a number has.
use Rattle.std.specs.Prelude.{ℕ, ◌==◌, Option, Some, None, if◌then◌else◌}
use Rattle.image_colours.specs.declared.bits.Bits.{Bits}
use Rattle.image_colours.specs.declared.bits.Bits.TheVariants.{One, Two, Three, Four, Five, Six, Seven, Eight}
use Rattle.image_colours.specs.declared.bits.PixelBits.{PixelBits}
use Rattle.image_colours.specs.declared.bits.PixelBits.TheVariants as pixel

abbrev pub bits_of : Bits → ℕ
bits_of One = 1
bits_of Two = 2
bits_of Three = 3
bits_of Four = 4
bits_of Five = 5
bits_of Six = 6
bits_of Seven = 7
bits_of Eight = 8

abbrev pub bits_from : ℕ → Option Bits
bits_from n =
    if n == 1 then Some One else
    if n == 2 then Some Two else
    if n == 3 then Some Three else
    if n == 4 then Some Four else
    if n == 5 then Some Five else
    if n == 6 then Some Six else
    if n == 7 then Some Seven else
    if n == 8 then Some Eight else
    None

-- of an index by pixels
abbrev pub pixel_bits_of : PixelBits → ℕ
pixel_bits_of pixel.One = 1
pixel_bits_of pixel.Two = 2
pixel_bits_of pixel.Four = 4
pixel_bits_of pixel.Eight = 8

abbrev pub pixel_bits_from : ℕ → Option PixelBits
pixel_bits_from n =
    if n == 1 then Some pixel.One else
    if n == 2 then Some pixel.Two else
    if n == 4 then Some pixel.Four else
    if n == 8 then Some pixel.Eight else
    None
