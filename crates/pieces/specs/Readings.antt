-- How texts of numbers are read.
use Rattle.std.specs.Prelude.{ℕ, ℤ, pos, neg_ℤ, ◌+◌, ◌*◌, ◌==◌, ◌&&◌, nat_lt, Bool, true, false, List, [], ◌∷◌, length, drop, map, Option, Some, None, if◌then◌else◌}
use Rattle.std.specs.Char.{digit_value, is_digit}
use Rattle.std.specs.List.{list_all}
use Rattle.std.specs.Option.{option_map}
use Rattle.std.specs.Str.Parse.{digits_value}

-- a reading gives a value or nothing; the next reading goes on with the value
infixl 10 ◌>>=◌
abbrev pub ◌>>=◌ : {A B : Type 0} → Option A → (A → Option B) → Option B
(Some x) >>= f = f x
None >>= f = None

-- a value, if a test passes
abbrev pub given : {A : Type 0} → Bool → Option A → Option A
given true value = value
given false value = None

-- each of these read, if each can be
abbrev pub each : {A B : Type 0} → (A → Option B) → List A → Option (List B)
each read [] = Some []
each read (x ∷ xs) = do
  y ← read x
  ys ← each read xs
  Some (y ∷ ys)

abbrev pub is_text : List ℕ → List ℕ → Bool
is_text [] [] = true
is_text (a ∷ as') (b ∷ bs) = (a == b) && is_text as' bs
is_text _ _ = false

-- the rest of a text that begins with a word
abbrev pub after : List ℕ → List ℕ → Option (List ℕ)
after [] text = Some text
after (w ∷ ws) [] = None
after (w ∷ ws) (c ∷ cs) = given (w == c) (after ws cs)

-- a text cut before each mark: what comes before the first mark, and the parts, each of which begins with a mark
pub record Cut : Type 0 where
  pub front : List ℕ
  pub parts : List (List ℕ)

abbrev pub with_byte : Bool → ℕ → Cut → Cut
with_byte true c t = record { front = []; parts = (c ∷ t.front) ∷ t.parts }
with_byte false c t = record { front = c ∷ t.front; parts = t.parts }

abbrev pub cut : (ℕ → Bool) → List ℕ → Cut
cut is_mark [] = record { front = []; parts = [] }
cut is_mark (c ∷ cs) = with_byte (is_mark c) c (cut is_mark cs)

-- what lies between bytes of one kind
abbrev pub split : ℕ → List ℕ → List (List ℕ)
split byte text = (cut (λ c. c == byte) text).front ∷ map (drop 1) (cut (λ c. c == byte) text).parts

-- one digit or more as a number
abbrev pub number : List ℕ → Option ℕ
number text = given (nat_lt 0 (length text) && list_all (λ c. is_digit c 10) text) (Some (digits_value 10 text))

abbrev pub minus : ℕ
minus = 0x2D

-- a number that may have a minus sign
abbrev pub integer : List ℕ → Option ℤ
integer [] = None
integer (c ∷ cs) = if c == minus then option_map (λ n. neg_ℤ (pos n)) (number cs) else option_map pos (number (c ∷ cs))

-- two hexadecimal digits
abbrev pub byte : ℕ → ℕ → ℕ
byte high low = 16 * digit_value high + digit_value low
