-- Numbers in a PDF document.
use Rattle.std.specs.Prelude.{ℕ, ◌+◌, ◌-◌, ◌*◌, ◌/◌, ◌%◌, nat_lt, false, if◌then◌else◌, List, [], ◌∷◌, ◌++◌, decimal}
use Rattle.std.specs.Prelude.{ℤ, pos, neg_ℤ, nat_abs, int_lt, codes}
use Rattle.std.specs.Fmt.{digit_glyph}
use Rattle.pieces.specs.Fractions.{digit, fraction}

-- some thousandths as a decimal number
abbrev pub thousandths : ℕ → List ℕ
thousandths number = decimal (number / 1000) ++ fraction (number % 1000)

-- the same with a sign
abbrev pub signed_thousandths : ℤ → List ℕ
signed_thousandths z = (if int_lt z (pos 0) then codes "-" else []) ++ thousandths (nat_abs z)

-- a number of parts, of which `d` are one, rounded to the nearest, half up
abbrev pub nearest : ℕ → ℕ → ℕ
nearest n d = (2 * n + d) / (2 * d)

-- so many times a number of parts, rounded to the nearest, half away from zero
abbrev pub rounded : ℕ → ℤ → ℕ → ℤ
rounded times z d =
    if int_lt z (pos 0) then neg_ℤ (pos (nearest (times * nat_abs z) d)) else pos (nearest (times * nat_abs z) d)

-- a length of so many plotter units in units of so many points, to three decimals: 1,016 plotter units are 72 points
abbrev pub points : ℕ → ℕ → List ℕ
points unit units = thousandths ((18000 * units + 127 * unit) / (254 * unit))

-- a part of a colour, 0 to 255, as a number from 0 to 1, to three decimals
abbrev pub part : ℕ → List ℕ
part byte = thousandths ((2000 * byte + 255) / 510)

-- the last ten digits of a number, with zeros before it
abbrev pub ten_digits : ℕ → List ℕ
ten_digits n =
    digit (n / 1000000000 % 10) ∷ digit (n / 100000000 % 10) ∷ digit (n / 10000000 % 10) ∷ digit (n / 1000000 % 10)
    ∷ digit (n / 100000 % 10) ∷ digit (n / 10000 % 10) ∷ digit (n / 1000 % 10) ∷ digit (n / 100 % 10)
    ∷ digit (n / 10 % 10) ∷ digit (n % 10) ∷ []

-- a byte as two hexadecimal digits
abbrev pub two_digits : ℕ → List ℕ
two_digits n = digit_glyph false (n / 16) ∷ digit_glyph false (n % 16) ∷ []

abbrev pub digits_text : List ℕ → List ℕ
digits_text [] = []
digits_text (n ∷ ns) = two_digits n ++ digits_text ns

-- a number of 16 bits as four hexadecimal digits
abbrev pub four_digits : ℕ → List ℕ
four_digits n =
    digit_glyph false (n / 4096) ∷ digit_glyph false (n / 256 % 16) ∷ digit_glyph false (n / 16 % 16)
    ∷ digit_glyph false (n % 16) ∷ []

-- a character in UTF-16, the highest byte first: one number of 16 bits, or two. RFC 2781, 2.1.
abbrev pub character_text : ℕ → List ℕ
character_text c =
    if nat_lt c 65536 then four_digits c else
    four_digits (55296 + (c - 65536) / 1024) ++ four_digits (56320 + (c - 65536) % 1024)

abbrev pub utf_16_text : List ℕ → List ℕ
utf_16_text [] = []
utf_16_text (c ∷ cs) = character_text c ++ utf_16_text cs
