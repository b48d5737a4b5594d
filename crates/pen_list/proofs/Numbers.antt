-- A number read digit by digit.
use Rattle.std.proofs.Common.{◌≡◌, ◌+◌, ◌-◌, ◌*◌, ◌^◌, ◌≤◌, ℕ, List, ◌∷◌, length, true, arith}
use Rattle.std.proofs.lemmas.Bool.Decides.{nat_tests}
use Rattle.std.proofs.Math.Nat.{pow-suc}
use Rattle.std.specs.Char.{is_ascii_digit}
use Rattle.std.specs.List.{list_all}
use Rattle.pen_list.specs.Lists.{number}

regroup : (read digit power left : ℕ) → (10 * read + digit) * power + left ≡ read * (power * 10) + (digit * power + left)
regroup read digit power left = omega arith

-- one more digit is read
pub digit_read : (read digit : ℕ) (left : List ℕ)
    → (10 * read + (digit - 48)) * 10 ^ length left + number left ≡ read * 10 ^ length (digit ∷ left) + number (digit ∷ left)
digit_read read digit left =
    rw (pow-suc 10 (length left)) (regroup read (digit - 48) (10 ^ length left) (number left))

pub digit_passes : (digit : ℕ) (left : List ℕ) → is_ascii_digit digit ≡ true
    → list_all is_ascii_digit (digit ∷ left) ≡ list_all is_ascii_digit left
digit_passes digit left passes = rw passes

pub digit_small : (digit : ℕ) → is_ascii_digit digit ≡ true → digit - 48 ≤ 9
digit_small digit passes = grind (arith, nat_tests)
