-- Sums over digits, a digit at a time, and their bounds.
use Rattle.std.proofs.Common.{◌≡◌, ℕ, zero, suc, ◌+◌, ◌-◌, ◌*◌, ◌/◌, ◌^◌, ◌<◌, ◌≤◌, Bool, true, false, if◌then◌else◌, List, [], ◌∷◌, ◌++◌, length, get_or, take, drop, refl, sym, ap, subst, ◌∙◌, arith, length-append, length-take, add-one}
use Rattle.std.proofs.lemmas.List.{take_more}
use Rattle.std.specs.Char.{is_ascii_digit}
use Rattle.std.specs.List.{prefix_len}
use Rattle.std.proofs.Math.Nat.{mul-le-mul_right}
use Rattle.hpgl_text.specs.Bytes.{begins_with}
use Rattle.hpgl_text.specs.Numbers.{digits, fraction, decimals, digits_sum, decimals_sum}
use Rattle.escapes.specs.Commands.{value_limit, millionths_of}

digits_sum_push : (xs : List ℕ) (c : ℕ) → digits_sum (xs ++ c ∷ []) ≡ digits_sum xs * 10 + (c - 48)
digits_sum_push [] c = omega arith
digits_sum_push (x ∷ xs) c =
    let r = digits_sum_push xs c in
    let l : length (xs ++ c ∷ []) ≡ suc (length xs) = omega (arith, length-append xs (c ∷ [])) in
    let p = ap (λ (k : ℕ). (x - 48) * 10 ^ k) l in
    let t : 10 ^ suc (length xs) ≡ 10 ^ length xs * 10 = omega arith in
    let q = ap (λ (k : ℕ). (x - 48) * k) t in
    omega arith

pub digits_sum_more : (xs : List ℕ) (i : ℕ) → i < length xs → digits_sum (take (i + 1) xs) ≡ digits_sum (take i xs) * 10 +
    (get_or xs i 0 - 48)
digits_sum_more xs i h = ap digits_sum (take_more xs i 0 h) ∙ digits_sum_push (take i xs) (get_or xs i 0)

decimals_sum_none : (k : ℕ) → decimals_sum k [] ≡ 0
decimals_sum_none zero = refl
decimals_sum_none (suc k) = refl

-- the weight of a decimal at a place
unfoldable pub weight : ℕ → ℕ → ℕ
weight zero i = 0
weight (suc k) zero = 10 ^ k
weight (suc k) (suc i) = weight k i

decimals_sum_push : (k : ℕ) (xs : List ℕ) (c : ℕ) → decimals_sum k (xs ++ c ∷ []) ≡ decimals_sum k xs + (c - 48) * weight k
    (length xs)
unfolding weight
decimals_sum_push zero xs c = omega arith
decimals_sum_push (suc k) [] c = omega (arith, decimals_sum_none k)
decimals_sum_push (suc k) (x ∷ xs) c = omega (arith, decimals_sum_push k xs c)

pub decimals_sum_more : (k : ℕ) (xs : List ℕ) (i : ℕ) → i < length xs → decimals_sum k (take (i + 1) xs) ≡ decimals_sum k
    (take i xs) + (get_or xs i 0 - 48) * weight k i
decimals_sum_more k xs i h =
    let l : length (take i xs) ≡ i = omega (arith, length-take i xs) in
    ap (decimals_sum k) (take_more xs i 0 h) ∙ decimals_sum_push k (take i xs) (get_or xs i 0) ∙ ap (λ (n : ℕ). decimals_sum k
    (take i xs) + (get_or xs i 0 - 48) * weight k n) l

tens : (k : ℕ) → 10 ^ k ≡ 10 ^ suc k / 10
tens k = omega arith

weight-suc : (k i : ℕ) → weight k (suc i) ≡ weight k i / 10
unfolding weight
weight-suc zero i = refl
weight-suc (suc zero) zero = refl
weight-suc (suc (suc k)) zero = tens k
weight-suc (suc zero) (suc i) = refl
weight-suc (suc (suc k)) (suc i) = weight-suc (suc k) i

pub weight_next : (k i : ℕ) → weight k (i + 1) ≡ weight k i / 10
weight_next k i = rw add-one (weight-suc k i)

-- a choice, in which each part has what the other has
pub cases : {A : Type 0} (P : A → Type 0) (b : Bool) (x y : A) → (b ≡ true → P x) → (b ≡ false → P y) → P (if b then x else y)
cases P true x y p q = p refl
cases P false x y p q = q refl

-- decimals are below 1
digit_small : (x : ℕ) → is_ascii_digit x ≡ true → x - 48 ≤ 9
digit_small x e = grind arith

powers_grow : (k : ℕ) → 0 < 10 ^ k
powers_grow zero = omega arith
powers_grow (suc k) = let t : 10 ^ suc k ≡ 10 * 10 ^ k = omega arith in omega (arith, t, powers_grow k)

pub decimals_small : (k : ℕ) (text : List ℕ) → decimals_sum k (digits text) < 10 ^ k
decimals_small zero text = omega arith
decimals_small (suc k) [] = powers_grow (suc k)
decimals_small (suc k) (x ∷ text) =
    let count : ℕ = prefix_len is_ascii_digit text in
    cases (λ (z : ℕ). decimals_sum (suc k) (take z (x ∷ text)) < 10 ^ suc k) (is_ascii_digit x) (1 + count) 0
    (λ d. let next : 1 + count ≡ suc count = omega arith in
    let first : take (1 + count) (x ∷ text) ≡ x ∷ digits text = ap (λ (z : ℕ). take z (x ∷ text)) next in
    let n : ℕ = x - 48 in
    let r : n * 10 ^ k ≤ 9 * 10 ^ k = mul-le-mul_right (10 ^ k) (digit_small x d) in
    let t : 10 ^ suc k ≡ 10 * 10 ^ k = omega arith in
    subst (λ (z : List ℕ). decimals_sum (suc k) z < 10 ^ suc k) (sym first) (omega (arith, r, t, decimals_small k text)))
    (λ _. powers_grow (suc k))

-- a value is in range
pub value_small : (text : List ℕ) → millionths_of text < value_limit
value_small text =
    let fraction_is : decimals_sum 6 (decimals text) < 10 ^ 6 = cases (λ (z : List ℕ). decimals_sum 6 z < 10 ^ 6)
    (begins_with "." (fraction text)) (digits (drop 1 (fraction text))) []
    (λ _. decimals_small 6 (drop 1 (fraction text))) (λ _. powers_grow 6) in
    omega (arith, fraction_is)
