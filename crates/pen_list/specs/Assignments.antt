-- Lists of assignments as text, separated by commas. An assignment, PENS=VALUE, gives a value, such as a colour or a
-- width, to the pens of a list of pens, which has no comma here.
use Rattle.std.specs.Prelude.{ℕ, Bool, not, ◌&&◌, ◌==◌, List, reverse, Option, is_some, find}
use Rattle.std.specs.List.{after_first, before_first, slice_split}
use Rattle.std.specs.Option.{option_and_then}
use Rattle.pen_list.specs.Lists.{comma, is_listed, is_pen_list}

abbrev pub equals : ℕ
equals = 61

abbrev pub assignments : List ℕ → List (List ℕ)
assignments text = slice_split (λ byte. byte == comma) text

-- PENS is before the first `=`
abbrev pub pens_of : List ℕ → List ℕ
pens_of assignment = before_first (λ byte. byte == equals) assignment

-- VALUE is after it, and nothing if there is none
abbrev pub value_of : List ℕ → List ℕ
value_of assignment = after_first (λ byte. byte == equals) assignment

-- `meaning` is the value that a text means, or None if it means none, as an empty text
abbrev pub is_assignment : {V : Type 0} → (List ℕ → Option V) → List ℕ → Bool
is_assignment meaning text = is_pen_list (pens_of text) && is_some (meaning (value_of text))

-- the first assignment of a text that is bad, or None if the text is a list of assignments
abbrev pub first_bad : {V : Type 0} → (List ℕ → Option V) → List ℕ → Option (List ℕ)
first_bad meaning text = find (λ it. not (is_assignment meaning it)) (assignments text)

-- the last assignment of a text that names the pen
abbrev pub last_for : List ℕ → ℕ → Option (List ℕ)
last_for text pen = find (λ it. is_listed (pens_of it) pen) (reverse (assignments text))

-- the value that it gives the pen, or None if no assignment names the pen
abbrev pub given : {V : Type 0} → (List ℕ → Option V) → List ℕ → ℕ → Option V
given meaning text pen = option_and_then (λ it. meaning (value_of it)) (last_for text pen)
