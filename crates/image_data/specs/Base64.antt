-- Base64, from byte to byte. RFC 4648, 4.
use Rattle.std.specs.Prelude.{ℕ, ◌+◌, ◌-◌, ◌*◌, ◌/◌, ◌%◌, ◌==◌, nat_lt, List, [], ◌∷◌, ◌++◌, if◌then◌else◌}
use Rattle.image_data.specs.declared.waiting.Waiting.{Waiting}
use Rattle.image_data.specs.declared.waiting.Waiting.TheVariants.{Empty, One, Two}

-- the letter of six bits: A to Z, a to z, 0 to 9, a plus sign and a slash
abbrev pub letter : ℕ → ℕ
letter bits =
    if nat_lt bits 26 then 65 + bits else
    if nat_lt bits 52 then 71 + bits else
    if nat_lt bits 62 then bits - 4 else
    if bits == 62 then 43 else 47

-- an equals sign, which fills up
abbrev pub filler : ℕ
filler = 61

-- the first letters of three bytes, by their bytes
abbrev pub first_letter : ℕ → ℕ
first_letter a = letter (a / 4)

abbrev pub second_letter : ℕ → ℕ → ℕ
second_letter a b = letter (a % 4 * 16 + b / 16)

abbrev pub third_letter : ℕ → ℕ → ℕ
third_letter b c = letter (b % 16 * 4 + c / 64)

-- the four letters of three bytes
abbrev pub four : ℕ → ℕ → ℕ → List ℕ
four a b c = first_letter a ∷ second_letter a b ∷ third_letter b c ∷ letter (c % 64) ∷ []

-- the letters that a byte completes, after those that wait
abbrev pub letters_with : Waiting → ℕ → List ℕ
letters_with Empty c = []
letters_with (One a) c = []
letters_with (Two a b) c = four a b c

-- which bytes wait then
abbrev pub waiting_with : Waiting → ℕ → Waiting
waiting_with Empty c = One c
waiting_with (One a) c = Two a c
waiting_with (Two a b) c = Empty

-- the letters that bytes complete
abbrev pub letters : Waiting → List ℕ → List ℕ
letters waiting [] = []
letters waiting (c ∷ bytes) = letters_with waiting c ++ letters (waiting_with waiting c) bytes

-- which bytes wait after these
abbrev pub waiting_after : Waiting → List ℕ → Waiting
waiting_after waiting [] = waiting
waiting_after waiting (c ∷ bytes) = waiting_after (waiting_with waiting c) bytes

-- the letters of bytes that wait at the end
abbrev pub last_letters : Waiting → List ℕ
last_letters Empty = []
last_letters (One a) = first_letter a ∷ second_letter a 0 ∷ filler ∷ filler ∷ []
last_letters (Two a b) = first_letter a ∷ second_letter a b ∷ third_letter b 0 ∷ filler ∷ []

-- bytes in base64, after those that wait
abbrev pub base64_after : Waiting → List ℕ → List ℕ
base64_after waiting bytes = letters waiting bytes ++ last_letters (waiting_after waiting bytes)

-- bytes in base64
abbrev pub base64 : List ℕ → List ℕ
base64 bytes = base64_after Empty bytes
