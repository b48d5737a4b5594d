-- A byte depends only on its eight cells.
use Rattle.std.proofs.Common.{◌≡◌, ℕ, ◌+◌, ◌<◌, List, ◌++◌, [], length, get_or, take, drop, ap, ◌∙◌, arith, refl, ◌∷◌, zero, suc, false, ◌==◌, ◌-◌, length-drop}
use Rattle.std.proofs.lemmas.List.{get_or-take, get_or-drop, take_rest}
use Rattle.std.proofs.lemmas.Bool.Decides.{nat_tests}
use Rattle.bit_rows.specs.Bits.{byte_of}

pub byte_same : (a b : List ℕ) → ((i : ℕ) → i < 8 → get_or a i 0 ≡ get_or b i 0) → byte_of a ≡ byte_of b
byte_same a b h =
    let e0 : get_or a 0 0 ≡ get_or b 0 0 = h 0 (omega arith) in
    let e1 : get_or a 1 0 ≡ get_or b 1 0 = h 1 (omega arith) in
    let e2 : get_or a 2 0 ≡ get_or b 2 0 = h 2 (omega arith) in
    let e3 : get_or a 3 0 ≡ get_or b 3 0 = h 3 (omega arith) in
    let e4 : get_or a 4 0 ≡ get_or b 4 0 = h 4 (omega arith) in
    let e5 : get_or a 5 0 ≡ get_or b 5 0 = h 5 (omega arith) in
    let e6 : get_or a 6 0 ≡ get_or b 6 0 = h 6 (omega arith) in
    let e7 : get_or a 7 0 ≡ get_or b 7 0 = h 7 (omega arith) in
    rw (e0, e1, e2, e3, e4, e5, e6, e7) refl

pub byte_of_front : (cells : List ℕ) → byte_of (take 8 cells) ≡ byte_of cells
byte_of_front cells = byte_same (take 8 cells) cells (λ i lt. get_or-take 8 cells i 0 lt)

-- a cell past the last one counts as 0, as one that is 0 does
padded : (cells padding : List ℕ) (i : ℕ) → ((j : ℕ) → get_or padding j 0 ≡ 0) → get_or (cells ++ padding) i 0 ≡ get_or cells i 0
padded [] padding i h = h i
padded (x ∷ xs) padding zero h = refl
padded (x ∷ xs) padding (suc i) h = padded xs padding i h

pub byte_padded : (cells padding : List ℕ) → ((i : ℕ) → get_or padding i 0 ≡ 0) → byte_of (cells ++ padding) ≡ byte_of cells
byte_padded cells padding h = byte_same (cells ++ padding) cells (λ i lt. padded cells padding i h)

-- eight cells that are 0
abbrev pub zeros : List ℕ
zeros = 0 ∷ 0 ∷ 0 ∷ 0 ∷ 0 ∷ 0 ∷ 0 ∷ 0 ∷ []

zero_read : (i : ℕ) → get_or zeros i 0 ≡ 0
zero_read zero = refl
zero_read (suc zero) = refl
zero_read (suc (suc zero)) = refl
zero_read (suc (suc (suc zero))) = refl
zero_read (suc (suc (suc (suc zero)))) = refl
zero_read (suc (suc (suc (suc (suc zero))))) = refl
zero_read (suc (suc (suc (suc (suc (suc zero)))))) = refl
zero_read (suc (suc (suc (suc (suc (suc (suc zero))))))) = refl
zero_read (suc (suc (suc (suc (suc (suc (suc (suc i)))))))) = refl

pub zeros_read : (n i : ℕ) → get_or (drop n zeros) i 0 ≡ 0
zeros_read n i = get_or-drop n zeros i 0 ∙ zero_read (n + i)

-- eight cells that are cut out make the same byte
pub byte_of_eight : (cells : List ℕ) (place n : ℕ) → n ≡ 8 → byte_of (take n (drop place cells)) ≡ byte_of (drop place cells)
byte_of_eight cells place n e = ap (λ (m : ℕ). byte_of (take m (drop place cells))) e ∙ byte_of_front (drop place cells)

not_none : (n q : ℕ) → false ≡ (n - q == 0) → q < n
not_none n q h = grind (arith, nat_tests)

-- if cells are left from a place on, the place is before the end
pub some_left : (cells : List ℕ) (q : ℕ) → false ≡ (length (take (length cells - q) (drop q cells)) == 0) → q < length cells
some_left cells q h =
    let size : length (take (length cells - q) (drop q cells)) ≡ length cells - q = ap length (take_rest cells q) ∙ length-drop q cells in
    not_none (length cells) q (h ∙ ap (λ (n : ℕ). n == 0) size)
