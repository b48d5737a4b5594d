-- The division by a table.
use Rattle.std.proofs.Common.{◌≡◌, ℕ, zero, suc, ◌+◌, ◌*◌, ◌/◌, ◌%◌, ◌^◌, ◌<◌, ◌==◌, Bool, true, false, if◌then◌else◌, List, [], ◌∷◌, ◌++◌, length, take, map, get_or, slice_index, bit_xor, refl, sym, ap, ap₂, ◌∙◌, arith}
use Rattle.std.specs.List.{range_with_len}
use Rattle.std.proofs.lemmas.List.FromFn.{get_or-map-range_with_len}
use Rattle.std.proofs.lemmas.Nat.{xor_shr, xor_mod, xor_block, xor_comm}
use Rattle.std.specs.Int.Bits.{xor_zero_r, xor_assoc}
use Rattle.std.proofs.lemmas.List.{take_more}
use Rattle.std.proofs.Math.Nat.{pow-suc, mul_assoc}
use Rattle.crc32.specs.Crc.{times_x, times_power, polynomial, remainder}
use Rattle.crc32.specs.declared.table.TheConstants.{TABLE}

table_checked : map (λ i. slice_index TABLE i) (range_with_len 0 2048) ≡ map (λ i. times_power (8 * (i / 256 + 1)) (i % 256)) (range_with_len 0 2048)
unfolding times_power
table_checked = refl

pub in_table : (k b : ℕ) → k < 8 → b < 256 → get_or TABLE (256 * k + b) 0 ≡ times_power (8 * (k + 1)) b
in_table k b h l =
    let n : ℕ = 256 * k + b in
    let inside : 256 * k + b < 2048 = omega arith in
    let row : (256 * k + b) / 256 ≡ k = omega arith in
    let column : (256 * k + b) % 256 ≡ b = omega arith in
    sym (get_or-map-range_with_len (λ i. slice_index TABLE i) 0 2048 (256 * k + b) (256 * k + b) 0 inside (omega arith)) ∙ ap (λ z. get_or z (256 * k + b) 0) table_checked
    ∙ get_or-map-range_with_len (λ i. times_power (8 * (i / 256 + 1)) (i % 256)) 0 2048 (256 * k + b) (256 * k + b) 0 inside (omega arith)
    ∙ ap₂ (λ (m n : ℕ). times_power (8 * (m + 1)) n) row column

-- what a bit that leaves adds
part : ℕ → ℕ
part b = if b == 1 then polynomial else 0

times_x_is : (n : ℕ) → times_x n ≡ bit_xor (n / 2) (part (n % 2))
unfolding part
times_x_is n = one (n % 2 == 1) (n / 2)
  where
    one : (b : Bool) (h : ℕ) → (if b then bit_xor h polynomial else h) ≡ bit_xor h (if b then polynomial else 0)
    one true h = refl
    one false h = sym (xor_zero_r h)

part_xor : (a b : ℕ) → a < 2 → b < 2 → part (bit_xor a b) ≡ bit_xor (part a) (part b)
unfolding part
part_xor zero zero h k = refl
part_xor zero (suc zero) h k = refl
part_xor (suc zero) zero h k = refl
part_xor (suc zero) (suc zero) h k = refl
part_xor zero (suc (suc b)) h k = absurd (omega arith)
part_xor (suc zero) (suc (suc b)) h k = absurd (omega arith)
part_xor (suc (suc a)) b h k = absurd (omega arith)

crossed : (a b p q : ℕ) → bit_xor (bit_xor a b) (bit_xor p q) ≡ bit_xor (bit_xor a p) (bit_xor b q)
crossed a b p q =
    xor_assoc a b (bit_xor p q) ∙ ap (bit_xor a) (sym (xor_assoc b p q) ∙ ap (λ (z : ℕ). bit_xor z q) (xor_comm b p) ∙ xor_assoc p b q) ∙ sym (xor_assoc a p (bit_xor b q))

times_x_xor : (a b : ℕ) → times_x (bit_xor a b) ≡ bit_xor (times_x a) (times_x b)
times_x_xor a b =
    times_x_is (bit_xor a b)
    ∙ ap₂ bit_xor (xor_shr a b 1) (ap part (xor_mod a b 1) ∙ part_xor (a % 2) (b % 2) (omega arith) (omega arith))
    ∙ crossed (a / 2) (b / 2) (part (a % 2)) (part (b % 2))
    ∙ sym (ap₂ bit_xor (times_x_is a) (times_x_is b))

-- the division is linear
pub times_power_xor : (k a b : ℕ) → times_power k (bit_xor a b) ≡ bit_xor (times_power k a) (times_power k b)
unfolding times_power
times_power_xor zero a b = refl
times_power_xor (suc k) a b = ap (times_power k) (times_x_xor a b) ∙ times_power_xor k (times_x a) (times_x b)

-- a multiple of 2^k moves down
pub times_power_high : (k high : ℕ) → times_power k (high * 2 ^ k) ≡ high
unfolding times_power part
times_power_high zero high = omega arith
times_power_high (suc k) high =
    let double : high * 2 ^ suc k ≡ (high * 2 ^ k) * 2 = ap (λ (m : ℕ). high * m) (pow-suc 2 k) ∙ sym (mul_assoc high (2 ^ k) 2) in
    let even : high * 2 ^ suc k % 2 ≡ 0 = omega arith in
    let half : high * 2 ^ suc k / 2 ≡ high * 2 ^ k = omega arith in
    let step : times_x (high * 2 ^ suc k) ≡ high * 2 ^ k = times_x_is (high * 2 ^ suc k) ∙ ap₂ (λ (h b : ℕ). bit_xor h (part b)) half even ∙ xor_zero_r (high * 2 ^ k) in
    ap (times_power k) step ∙ times_power_high k high

-- a number is its lowest byte and the rest
pub halves : (n : ℕ) → bit_xor (n / 256 * 256) (n % 256) ≡ n
halves n =
    ap₂ bit_xor (let e : n / 256 * 256 ≡ n / 256 * 2 ^ 8 + 0 = omega arith in e) (let f : n % 256 ≡ 0 * 2 ^ 8 + n % 256 = omega arith in f)
    ∙ xor_block 8 (n / 256) 0 0 (n % 256) (omega arith) (omega arith)
    ∙ ap (λ (z : ℕ). z * 2 ^ 8 + n % 256) (xor_zero_r (n / 256)) ∙ (let g : n / 256 * 2 ^ 8 + n % 256 ≡ n = omega arith in g)

-- one byte by the table
pub by_table : (n : ℕ) → bit_xor (get_or TABLE (n % 256) 0) (n / 256) ≡ times_power 8 n
by_table n =
    xor_comm (get_or TABLE (n % 256) 0) (n / 256)
    ∙ ap₂ bit_xor (sym (times_power_high 8 (n / 256))) (ap (λ (m : ℕ). get_or TABLE m 0) (let e : n % 256 ≡ 256 * 0 + n % 256 = omega arith in e) ∙ in_table 0 (n % 256) (omega arith) (omega arith))
    ∙ sym (times_power_xor 8 (n / 256 * 256) (n % 256)) ∙ ap (times_power 8) (halves n)

-- the remainder after more bytes
pub remainder-append : (xs ys : List ℕ) (r : ℕ) → remainder r (xs ++ ys) ≡ remainder (remainder r xs) ys
unfolding remainder
remainder-append [] ys r = refl
remainder-append (x ∷ xs) ys r = remainder-append xs ys (times_power 8 (bit_xor r x))

-- the remainder after one byte more of the bytes
pub remainder_more : (r : ℕ) (bytes : List ℕ) (i : ℕ) → i < length bytes → times_power 8 (bit_xor (remainder r (take i bytes)) (get_or bytes i 0)) ≡ remainder r (take (i + 1) bytes)
unfolding remainder
remainder_more r bytes i h = sym (ap (remainder r) (take_more bytes i 0 h) ∙ remainder-append (take i bytes) (get_or bytes i 0 ∷ []) r)

-- the remainder after bytes in two parts
pub remainder_twice : (r : ℕ) (bytes first rest : List ℕ) → first ++ rest ≡ bytes → remainder (remainder r first) rest ≡ remainder r bytes
remainder_twice r bytes first rest e = sym (remainder-append first rest r) ∙ ap (remainder r) e
