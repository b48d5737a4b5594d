-- Groups of a DXF document: a code and a value, each on a line of its own. Lengths and angles are numbers of parts, of which
-- 10,000,000 are a millimetre or a degree; a grain of 1/640 mm is 15,625 parts.
use Rattle.std.specs.Prelude.{ℕ, zero, suc, ◌*◌, ◌/◌, ◌%◌, ◌==◌, Bool, ℤ, pos, ◌*ℤ◌, int_lt, nat_abs, List, [], ◌∷◌, ◌++◌, if◌then◌else◌, codes, decimal}
use Rattle.pieces.specs.Fractions.{digit}
use Rattle.dxf.specs.declared.groups.TheConstants.{PARTS, GRAIN}

-- the end of a line
abbrev pub line_end : List ℕ
line_end = codes "\n"

abbrev pub group : ℕ → List ℕ → List ℕ
group code value = decimal code ++ line_end ++ value ++ line_end

-- the first decimal of some parts, unless no part is left
abbrev pub next_decimal : ℕ → List ℕ
next_decimal n = if n == 0 then [] else digit (n / 1000000) ∷ []

-- the parts of which the next decimal is the first one
abbrev pub after_decimal : ℕ → ℕ
after_decimal n = n % 1000000 * 10

-- at most so many decimals of some parts, fewer than 10,000,000, without zeros at the end
abbrev pub decimals : ℕ → ℕ → List ℕ
decimals zero n = []
decimals (suc most) n = next_decimal n ++ decimals most (after_decimal n)

abbrev pub fraction : ℕ → List ℕ
fraction n = if n == 0 then [] else codes "." ++ decimals 7 n

-- a number of parts
abbrev pub size_text : ℕ → List ℕ
size_text n = decimal (n / PARTS) ++ fraction (n % PARTS)

abbrev pub sign_text : Bool → List ℕ
sign_text negative = if negative then codes "-" else []

abbrev pub signed_text : Bool → ℕ → List ℕ
signed_text negative n = sign_text negative ++ size_text n

-- groups of a whole number, of a number of parts by its sign and its size, of any, and of one that is not negative
abbrev pub count_group : ℕ → ℕ → List ℕ
count_group code n = group code (decimal n)

abbrev pub signed_group : ℕ → Bool → ℕ → List ℕ
signed_group code negative n = group code (signed_text negative n)

abbrev pub number_group : ℕ → ℤ → List ℕ
number_group code z = signed_group code (int_lt z (pos 0)) (nat_abs z)

abbrev pub size_group : ℕ → ℕ → List ℕ
size_group code n = group code (size_text n)

-- a number of grains, in parts
abbrev pub in_parts : ℤ → ℤ
in_parts z = pos GRAIN *ℤ z
