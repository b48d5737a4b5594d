-- Thousandths after a point.
use Rattle.std.specs.Prelude.{ℕ, ◌+◌, ◌/◌, ◌%◌, ◌==◌, List, [], ◌∷◌, ◌++◌, take, if◌then◌else◌, codes}
use Rattle.pieces.specs.declared.fractions.Fraction.{Fraction}

-- how many digits of some thousandths are not zeros at the end
abbrev pub decimals : ℕ → ℕ
decimals thousandths = if thousandths % 100 == 0 then 1 else if thousandths % 10 == 0 then 2 else 3

-- the digit 0 has this code, and the others follow
abbrev pub digit : ℕ → ℕ
digit number = 48 + number

-- some thousandths, fewer than 1,000: a point and digits, without zeros at the end; nothing if there are none
abbrev pub fraction : ℕ → List ℕ
fraction thousandths =
    if thousandths == 0 then [] else
    codes "." ++ take (decimals thousandths)
    (digit (thousandths / 100) ∷ digit (thousandths / 10 % 10) ∷ digit (thousandths % 10) ∷ [])

-- the bytes of the value
abbrev pub text_of : Fraction → List ℕ
text_of f = take f.used f.bytes
