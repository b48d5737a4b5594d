-- Rows that are cut or filled, a byte at a time.
use Rattle.std.proofs.Common.{◌≡◌, ℕ, zero, suc, ◌+◌, ◌≤◌, List, [], ◌∷◌, ◌++◌, length, take, drop, replicate, refl, ap, ◌∙◌, arith}
use Rattle.std.proofs.lemmas.List.{drop_all}
use Rattle.image_rows.specs.Rows.{fitted}

abbrev pub fit : ℕ → List ℕ → List ℕ
fit zero row = []
fit (suc n) [] = 0 ∷ fit n []
fit (suc n) (x ∷ row) = x ∷ fit n row

of_zeros : (n k : ℕ) → n ≤ k → take n (replicate k 0) ≡ fit n []
of_zeros zero k h = refl
of_zeros (suc n) zero h = absurd (omega arith)
of_zeros (suc n) (suc k) h = ap (λ (z : List ℕ). 0 ∷ z) (of_zeros n k (omega arith))

-- it does not matter how many zeros follow, if there are enough
pub with_zeros : (n k : ℕ) (row : List ℕ) → n ≤ length row + k → take n (row ++ replicate k 0) ≡ fit n row
with_zeros n k [] h = of_zeros n k (omega arith)
with_zeros zero k (x ∷ row) h = refl
with_zeros (suc n) k (x ∷ row) h = ap (λ (z : List ℕ). x ∷ z) (with_zeros n k row (omega arith))

pub fitted_is : (n : ℕ) (row : List ℕ) → fitted n row ≡ fit n row
fitted_is n row = with_zeros n n row (omega arith)

pub length-fit : (n : ℕ) (row : List ℕ) → length (fit n row) ≡ n
length-fit zero row = refl
length-fit (suc n) [] = ap suc (length-fit n [])
length-fit (suc n) (x ∷ row) = ap suc (length-fit n row)

pub take-fit : (s w : ℕ) (row : List ℕ) → s ≤ w → take s (fit w row) ≡ fit s row
take-fit zero w row h = refl
take-fit (suc s) zero row h = absurd (omega arith)
take-fit (suc s) (suc w) [] h = ap (λ (z : List ℕ). 0 ∷ z) (take-fit s w [] (omega arith))
take-fit (suc s) (suc w) (x ∷ row) h = ap (λ (z : List ℕ). x ∷ z) (take-fit s w row (omega arith))

pub drop-fit : (k v w : ℕ) (row : List ℕ) → w ≡ v + k → drop k (fit w row) ≡ fit v (drop k row)
drop-fit zero v w row e = ap (λ (n : ℕ). fit n row) (let same : w ≡ v = omega arith in same)
drop-fit (suc k) v zero row e = absurd (omega arith)
drop-fit (suc k) v (suc w) [] e = drop-fit k v w [] (omega arith) ∙ ap (fit v) (drop_all k [] (omega arith))
drop-fit (suc k) v (suc w) (x ∷ row) e = drop-fit k v w row (omega arith)

pub fit-append : (v w : ℕ) (xs ys : List ℕ) → w ≡ length xs + v → fit w (xs ++ ys) ≡ xs ++ fit v ys
fit-append v w [] ys e = ap (λ (n : ℕ). fit n ys) (let same : w ≡ v = omega arith in same)
fit-append v zero (x ∷ xs) ys e = absurd (omega arith)
fit-append v (suc w) (x ∷ xs) ys e = ap (λ (z : List ℕ). x ∷ z) (fit-append v w xs ys (omega arith))

pub fit_cut : (w : ℕ) (xs ys : List ℕ) → w ≤ length xs → fit w (xs ++ ys) ≡ take w xs
fit_cut zero xs ys h = refl
fit_cut (suc w) [] ys h = absurd (omega arith)
fit_cut (suc w) (x ∷ xs) ys h = ap (λ (z : List ℕ). x ∷ z) (fit_cut w xs ys (omega arith))

pub fit_self : (w : ℕ) (xs : List ℕ) → length xs ≡ w → fit w xs ≡ xs
fit_self zero [] e = refl
fit_self zero (x ∷ xs) e = absurd (omega arith)
fit_self (suc w) [] e = absurd (omega arith)
fit_self (suc w) (x ∷ xs) e = ap (λ (z : List ℕ). x ∷ z) (fit_self w xs (omega arith))

pub fit_split : (p s q : ℕ) (row : List ℕ) → p ≤ length row → q ≡ p + s → take p row ++ fit s (drop p row) ≡ fit q row
fit_split zero s q row h e = ap (λ (n : ℕ). fit n row) (let same : s ≡ q = omega arith in same)
fit_split (suc p) s q [] h e = absurd (omega arith)
fit_split (suc p) s zero (x ∷ row) h e = absurd (omega arith)
fit_split (suc p) s (suc q) (x ∷ row) h e = ap (λ (z : List ℕ). x ∷ z) (fit_split p s q row (omega arith) (omega arith))
