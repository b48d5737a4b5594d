-- The gaps of a pattern, one at a time.
use Rattle.std.proofs.Common.{◌≡◌, ◌≤◌, ℕ, zero, suc, ℤ, List, [], ◌∷◌, ◌++◌, length, take, refl, ap, arith}

pub taken : (n : ℕ) (xs ys : List ℤ) → n ≤ length xs → take n (take n xs ++ ys) ≡ take n xs
taken zero xs ys h = refl
taken (suc n) [] ys h = absurd (omega arith)
taken (suc n) (x ∷ xs) ys h = ap (λ (zs : List ℤ). x ∷ zs) (taken n xs ys (omega arith))
