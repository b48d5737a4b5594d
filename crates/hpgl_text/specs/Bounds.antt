-- The range of numbers, and what is read of one.
use Rattle.std.specs.Prelude.{ℕ, ℤ, nat_abs, ◌≡◌, ◌≤◌, List, Option, MatchOption, true, false}
use Rattle.hpgl_text.specs.Numbers.{begins_with_number, number_value, number_length}
use Rattle.hpgl_text.specs.declared.number.TheConstants.{GREATEST_NUMBER}

-- a number of a plot, in millionths, is at most so far from 0
abbrev pub IsNumber : ℤ → Type 0
IsNumber z = nat_abs z ≤ GREATEST_NUMBER

-- the number that a text begins with was read, and how many bytes it takes, or there is none
abbrev pub IsReadFrom : List ℕ → Option (ℤ × ℕ) → Type 0
IsReadFrom text read = MatchOption
    read
    (begins_with_number text ≡ false)
    (λ n. (begins_with_number text ≡ true) × (n.0 ≡ number_value text) × (n.1 ≡ number_length text))
