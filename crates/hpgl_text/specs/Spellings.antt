-- The spelling of coded numbers.
use Rattle.std.specs.Prelude.{◌≡◌, ℕ, zero, suc, ◌+◌, ◌*◌, ◌/◌, ◌%◌, ◌^◌, ◌<◌, nat_lt, if◌then◌else◌}
use Rattle.std.specs.Prelude.{List, [], ◌∷◌, ◌++◌, length, Some, ℤ, pos, negsuc, nat_abs}
use Rattle.hpgl_text.specs.Coded.{Digits, digits_of, coded_number}
use Rattle.hpgl_text.specs.declared.polyline.base.Base.{Base}
use Rattle.hpgl_text.specs.declared.polyline.base.Base.TheVariants.{SixtyFour, ThirtyTwo}

-- the code of a number
abbrev pub encoded : ℤ → ℕ
encoded (pos n) = 2 * n
encoded (negsuc n) = 2 * suc n + 1

-- the digits of a code, as few as there can be, k at most
abbrev pub spell_code : Digits → ℕ → ℕ → List ℕ
spell_code digits zero code = []
spell_code digits (suc k) code =
    if nat_lt code digits.size then (digits.last + code) ∷ [] else
    (63 + code % digits.size) ∷ spell_code digits k (code / digits.size)

-- the spelling of a number with the fewest digits
abbrev pub spell : ℤ → Base → List ℕ
spell n base = spell_code (digits_of base) (digits_of base).most (encoded n)

-- the numbers that can be spelled lie below this, either side of 0
abbrev pub spelling_limit : Base → ℕ
spelling_limit SixtyFour = 2 ^ 35
spelling_limit ThirtyTwo = 2 ^ 34

-- the text begins with the coded number n, of this many bytes
abbrev pub IsRead : Base → List ℕ → ℤ → ℕ → Type 0
IsRead base text n bytes = coded_number base text ≡ Some (record { value = n; bytes = bytes })

-- a spelling is read as what it spells, whatever follows, and none is the beginning of another
pub record Spelling : Type 0 where
  pub is_read : (base : Base) (n : ℤ) (rest : List ℕ) → nat_abs n < spelling_limit base
      → IsRead base (spell n base ++ rest) n (length (spell n base))
  pub prefix_free : (base : Base) (m n : ℤ) (rest : List ℕ)
      → nat_abs m < spelling_limit base → nat_abs n < spelling_limit base
      → spell n base ≡ spell m base ++ rest → (m ≡ n) × (rest ≡ [])
