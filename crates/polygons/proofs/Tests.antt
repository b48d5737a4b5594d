-- Tests of whole numbers of either sign, and what they mean.
use Rattle.std.proofs.Common.{◌≡◌, Bool, true, false, refl, arith, ℤ, ◌≤ℤ◌, ◌<ℤ◌, int_le, int_lt}
use Rattle.std.proofs.lemmas.Int.{ints}

pub le_true : (a b : ℤ) → a ≤ℤ b → int_le a b ≡ true
le_true a b h = grind (arith, ints)

pub le_false : (a b : ℤ) → b <ℤ a → int_le a b ≡ false
le_false a b h = grind (arith, ints)

pub lt_true : (a b : ℤ) → a <ℤ b → int_lt a b ≡ true
lt_true a b h = grind (arith, ints)

pub lt_false : (a b : ℤ) → b ≤ℤ a → int_lt a b ≡ false
lt_false a b h = grind (arith, ints)

pub le_from : (a b : ℤ) → int_le a b ≡ true → a ≤ℤ b
le_from a b e = grind (arith, ints)

pub lt_from : (a b : ℤ) → int_lt a b ≡ true → a <ℤ b
lt_from a b e = grind (arith, ints)

pub le_not : (a b : ℤ) → int_le a b ≡ false → b <ℤ a
le_not a b e = grind (arith, ints)

pub lt_not : (a b : ℤ) → int_lt a b ≡ false → b ≤ℤ a
lt_not a b e = grind (arith, ints)

-- two tests that pass together are one
pub same_test : (p q : Bool) → (p ≡ true → q ≡ true) → (q ≡ true → p ≡ true) → p ≡ q
same_test true q f g = let e = f refl in cc
same_test false true f g = let e = g refl in cc
same_test false false f g = refl
