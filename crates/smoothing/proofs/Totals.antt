-- Sums of values, a value at a time.
use Rattle.std.proofs.Common.{◌≡◌, ℕ, zero, suc, ◌+◌, ◌*◌, ◌<◌, ◌≤◌, ◌/◌, List, get_or, ap, arith, refl, ◌∙◌}
use Rattle.std.proofs.Math.Nat.{div-lt_iff_lt-mul, one-le-mul}
use Rattle.std.specs.Int.Bits.{bit_or}
use Rattle.std.proofs.lemmas.Nat.{div-mul-add, le_or_l, le_or_r}
use Rattle.picture_out.specs.declared.inks.Ink.{Ink}
use Rattle.picture_out.specs.Inks.{cell_colour}
use Rattle.smoothing.specs.Smoothings.{mean, total}
use Rattle.smoothing.specs.Totals.{HasCell, HasCells, Replaces, cell_channel}
use Rattle.smoothing.specs.declared.sums.Sums.{Sums}

-- one value more
pub total_more : (f : ℕ → ℕ) (first n : ℕ) → total f first (n + 1) ≡ total f first n + f (first + n)
unfolding total
total_more f first zero =
    let here : first + 0 ≡ first = omega arith in
    omega (arith, ap f here)
total_more f first (suc n) =
    let there : first + 1 + n ≡ first + suc n = omega arith in
    let after : suc n + 1 ≡ suc (n + 1) = omega arith in
    let all : total f first (suc n + 1) ≡ f first + total f (first + 1) (n + 1) = ap (total f first) after in
    omega (arith, all, total_more f (first + 1) n, ap f there)

-- equal values have equal sums, wherever they begin
pub total_same : (f g : ℕ → ℕ) (first other n : ℕ) → ((k : ℕ) → k < n → f (first + k) ≡ g (other + k)) → total f first n ≡ total g other n
unfolding total
total_same f g first other zero same = refl
total_same f g first other (suc n) same =
    let here : first + 0 ≡ first = omega arith in
    let there : other + 0 ≡ other = omega arith in
    let rest = total_same f g (first + 1) (other + 1) n (λ k lt.
    let one : first + 1 + k ≡ first + suc k = omega arith in
    let two : other + 1 + k ≡ other + suc k = omega arith in
    omega (arith, same (suc k) (omega (arith, lt)), ap f one, ap g two)) in
    omega (arith, same 0 (omega arith), ap f here, ap g there, rest)

-- the sum of values that are all 255
pub total_white : (f : ℕ → ℕ) (first n : ℕ) → ((k : ℕ) → k < n → f (first + k) ≡ 255) → total f first n ≡ 255 * n
unfolding total
total_white f first zero white = refl
total_white f first (suc n) white =
    let here : first + 0 ≡ first = omega arith in
    let rest = total_white f (first + 1) n (λ k lt.
    let one : first + 1 + k ≡ first + suc k = omega arith in
    omega (arith, white (suc k) (omega (arith, lt)), ap f one)) in
    omega (arith, white 0 (omega arith), ap f here, rest)

-- the mean of bytes is a byte
pub mean_small : (n sum : ℕ) → 1 ≤ n → sum ≤ 255 * (n * n) → mean n sum < 256
mean_small n sum least most =
    let some : 1 ≤ n * n = one-le-mul least least in
    let count : 0 < 2 * (n * n) = omega (arith, some) in
    (div-lt_iff_lt-mul count).1 (omega (arith, some, most))

-- the mean of n by n times 255
pub mean_white : (n : ℕ) → 1 ≤ n → mean n (255 * (n * n)) ≡ 255
mean_white n least =
    let some : 1 ≤ n * n = one-le-mul least least in
    let parts : 2 * (255 * (n * n)) + n * n ≡ 255 * (2 * (n * n)) + n * n = omega arith in
    ap (λ (sum : ℕ). sum / (2 * (n * n))) parts ∙ div-mul-add 255 (2 * (n * n)) (n * n) (omega (arith, some))

-- nothing was replaced yet
pub no_cells : (inks : List Ink) (cells : List ℕ) (first : ℕ) (sums : Sums) → HasCells inks cells first 0 sums sums
unfolding total
no_cells inks cells first sums = record { red = (omega arith, omega arith); green = (omega arith, omega arith); blue = (omega arith, omega arith) }

replaced_more : (value : ℕ → ℕ) (first n old mid new one : ℕ) → one ≡ value (first + n) → Replaces n old mid (total value first n) → Replaces 1 mid new one
    → Replaces (n + 1) old new (total value first (n + 1))
replaced_more value first n old mid new one is before last = (
  omega (arith, before.0, last.0, is, total_more value first n),
  omega (arith, before.1, last.1),
)

-- one cell more
pub cell_more : (inks : List Ink) (cells : List ℕ) (first n cell : ℕ) (old mid new : Sums) → cell ≡ get_or cells (first + n) 0 → HasCells inks cells first n old mid → HasCell (cell_colour inks cell) mid new
    → HasCells inks cells first (n + 1) old new
cell_more inks cells first n cell old mid new is before last = record {
  red = replaced_more (cell_channel inks cells 0) first n old.red mid.red new.red _ (ap (λ (c : ℕ). get_or (cell_colour inks c) 0 0) is) before.red last.red;
  green = replaced_more (cell_channel inks cells 1) first n old.green mid.green new.green _ (ap (λ (c : ℕ). get_or (cell_colour inks c) 1 0) is) before.green last.green;
  blue = replaced_more (cell_channel inks cells 2) first n old.blue mid.blue new.blue _ (ap (λ (c : ℕ). get_or (cell_colour inks c) 2 0) is) before.blue last.blue;
}

-- numbers whose bits together are 0 are 0
none_of_two : (a b : ℕ) → bit_or a b ≡ 0 → (a ≡ 0) × (b ≡ 0)
none_of_two a b none = (omega (arith, none, le_or_l a b), omega (arith, none, le_or_r a b))

none_of_four : (a b c d : ℕ) → bit_or (bit_or (bit_or a b) c) d ≡ 0 → (a ≡ 0) × ((b ≡ 0) × ((c ≡ 0) × (d ≡ 0)))
none_of_four a b c d none =
    let three = none_of_two (bit_or (bit_or a b) c) d none in
    let two = none_of_two (bit_or a b) c three.0 in
    let one = none_of_two a b two.0 in
    (one.0, (one.1, (two.1, three.1)))

at_eight : (P : ℕ → Type 0) → P 0 × (P 1 × (P 2 × P 3)) → P 4 × (P 5 × (P 6 × P 7)) → (k : ℕ) → k < 8 → P k
at_eight P first last zero lt = first.0
at_eight P first last (suc zero) lt = first.1.0
at_eight P first last (suc (suc zero)) lt = first.1.1.0
at_eight P first last (suc (suc (suc zero))) lt = first.1.1.1
at_eight P first last (suc (suc (suc (suc zero)))) lt = last.0
at_eight P first last (suc (suc (suc (suc (suc zero))))) lt = last.1.0
at_eight P first last (suc (suc (suc (suc (suc (suc zero)))))) lt = last.1.1.0
at_eight P first last (suc (suc (suc (suc (suc (suc (suc zero))))))) lt = last.1.1.1
at_eight P first last (suc (suc (suc (suc (suc (suc (suc (suc k)))))))) lt = absurd (omega (arith, lt))

-- so are eight cells whose bits together are 0
pub none_of_eight : (cells : List ℕ) → bit_or
    (bit_or (bit_or (bit_or (get_or cells 0 0) (get_or cells 1 0)) (get_or cells 2 0)) (get_or cells 3 0))
    (bit_or (bit_or (bit_or (get_or cells 4 0) (get_or cells 5 0)) (get_or cells 6 0)) (get_or cells 7 0)) ≡ 0
    → (k : ℕ) → k < 8 → get_or cells k 0 ≡ 0
none_of_eight cells none k lt =
    let halves = none_of_two _ _ none in
    let first = none_of_four (get_or cells 0 0) (get_or cells 1 0) (get_or cells 2 0) (get_or cells 3 0) halves.0 in
    let last = none_of_four (get_or cells 4 0) (get_or cells 5 0) (get_or cells 6 0) (get_or cells 7 0) halves.1 in
    at_eight (λ (k : ℕ). get_or cells k 0 ≡ 0) first last k lt
