-- Eight bytes more, each divided by itself.
use Rattle.std.proofs.Common.{◌≡◌, ℕ, zero, suc, ◌+◌, ◌*◌, ◌/◌, ◌%◌, ◌^◌, ◌<◌, List, [], ◌∷◌, length, get_or, bit_xor, refl, sym, ap, ap₂, ◌∙◌, arith}
use Rattle.std.proofs.lemmas.Nat.{xor_comm}
use Rattle.std.specs.Int.{w32, to_le_bytes}
use Rattle.std.specs.Int.Bits.{xor_zero_r, xor_assoc}
use Rattle.crc32.specs.Crc.{times_x, times_power, remainder}
use Rattle.crc32.proofs.Division.{times_power_xor, times_power_high, halves}

-- times x^k, and then times x^m
times_power-add : (k m r : ℕ) → times_power m (times_power k r) ≡ times_power (k + m) r
unfolding times_power
times_power-add zero m r = ap (λ (n : ℕ). times_power n r) (let e : m ≡ 0 + m = omega arith in e)
times_power-add (suc k) m r = times_power-add k m (times_x r) ∙ ap (λ (n : ℕ). times_power n (times_x r)) (let e : k + m ≡ k + m = refl in e) ∙ more
  where
    more : times_power (k + m) (times_x r) ≡ times_power (suc k + m) r
    more = ap (λ (n : ℕ). times_power n r) (let e : suc (k + m) ≡ suc k + m = omega arith in e)

times_power-none : (r : ℕ) → times_power 0 r ≡ r
unfolding times_power
times_power-none r = refl

times_power-zero : (k : ℕ) → times_power k 0 ≡ 0
unfolding times_power
times_power-zero zero = refl
times_power-zero (suc k) = times_power-zero k

xor_zero_l : (b : ℕ) → bit_xor 0 b ≡ b
xor_zero_l b = xor_comm 0 b ∙ xor_zero_r b

-- a byte more of a remainder is divided with its lowest byte
split : (r b : ℕ) → times_power 8 (bit_xor r b) ≡ bit_xor (times_power 8 (bit_xor (r % 256) b)) (r / 256)
split r b =
    ap (λ (n : ℕ). times_power 8 (bit_xor n b)) (sym (halves r)) ∙ ap (times_power 8) (xor_assoc (r / 256 * 256) (r % 256) b)
    ∙ times_power_xor 8 (r / 256 * 256) (bit_xor (r % 256) b) ∙ ap (λ (n : ℕ). bit_xor n (times_power 8 (bit_xor (r % 256) b))) (times_power_high 8 (r / 256))
    ∙ xor_comm (r / 256) (times_power 8 (bit_xor (r % 256) b))

-- what each byte adds to the remainder
parts : ℕ → List ℕ → ℕ
parts r [] = r
parts r (b ∷ bytes) = bit_xor (times_power (8 * (length bytes + 1)) (bit_xor (r % 256) b)) (parts (r / 256) bytes)

from_eight : (n x : ℕ) → times_power (8 * n) (times_power 8 x) ≡ times_power (8 * (n + 1)) x
from_eight n x = times_power-add 8 (8 * n) x ∙ ap (λ (k : ℕ). times_power k x) (let e : 8 + 8 * n ≡ 8 * (n + 1) = omega arith in e)

parts_on : (bytes : List ℕ) (a r : ℕ) → remainder (bit_xor a r) bytes ≡ bit_xor (times_power (8 * length bytes) a) (parts r bytes)
unfolding remainder parts
parts_on [] a r = ap (λ (z : ℕ). bit_xor z r) (sym (times_power-none a))
parts_on (b ∷ bytes) a r =
    let x : ℕ = times_power 8 (bit_xor (r % 256) b) in
    let step : times_power 8 (bit_xor (bit_xor a r) b) ≡ bit_xor (bit_xor (times_power 8 a) (times_power 8 (bit_xor (r % 256) b))) (r / 256) =
    ap (times_power 8) (xor_assoc a r b) ∙ times_power_xor 8 a (bit_xor r b) ∙ ap (bit_xor (times_power 8 a)) (split r b) ∙ sym (xor_assoc (times_power 8 a) (times_power 8 (bit_xor (r % 256) b)) (r / 256)) in
    ap (λ (z : ℕ). remainder z bytes) step
    ∙ parts_on bytes (bit_xor (times_power 8 a) (times_power 8 (bit_xor (r % 256) b))) (r / 256)
    ∙ ap (λ (z : ℕ). bit_xor z (parts (r / 256) bytes))
    (times_power_xor (8 * length bytes) (times_power 8 a) (times_power 8 (bit_xor (r % 256) b)) ∙ ap₂ bit_xor (from_eight (length bytes) a) (from_eight (length bytes) (bit_xor (r % 256) b)))
    ∙ xor_assoc (times_power (8 * (length bytes + 1)) a) (times_power (8 * (length bytes + 1)) (bit_xor (r % 256) b)) (parts (r / 256) bytes)
    ∙ ap (λ (n : ℕ). bit_xor (times_power (8 * n) a) (bit_xor (times_power (8 * (length bytes + 1)) (bit_xor (r % 256) b)) (parts (r / 256) bytes))) (let e : length bytes + 1 ≡ suc (length bytes) = omega arith in e)

parts_are : (r : ℕ) (bytes : List ℕ) → parts r bytes ≡ remainder r bytes
parts_are r bytes =
    sym (xor_zero_l (parts r bytes)) ∙ ap (λ (z : ℕ). bit_xor z (parts r bytes)) (sym (times_power-zero (8 * length bytes))) ∙ sym (parts_on bytes 0 r) ∙ ap (λ (z : ℕ). remainder z bytes) (xor_zero_l r)

-- four bytes after a remainder that is used up
last_four : (a b c d : ℕ) → parts 0 (a ∷ b ∷ c ∷ d ∷ []) ≡ bit_xor (times_power 32 a) (bit_xor (times_power 24 b) (bit_xor (times_power 16 c) (times_power 8 d)))
unfolding parts
last_four a b c d =
    ap₂ bit_xor (ap (times_power 32) (xor_zero_l a))
    (ap₂ bit_xor (ap (times_power 24) (xor_zero_l b)) (ap₂ bit_xor (ap (times_power 16) (xor_zero_l c)) (ap (λ (z : ℕ). bit_xor (times_power 8 z) 0) (xor_zero_l d) ∙ xor_zero_r (times_power 8 d))))

left_nested : (a b c d e f g h : ℕ) → bit_xor (bit_xor (bit_xor (bit_xor (bit_xor (bit_xor (bit_xor a b) c) d) e) f) g) h ≡ bit_xor a (bit_xor b (bit_xor c (bit_xor d (bit_xor e (bit_xor f (bit_xor g h))))))
left_nested a b c d e f g h = simp xor_assoc

-- the eight entries together
sum_of : (r a b c d e f g h : ℕ) → r < 2 ^ 32
    → bit_xor (times_power 64 (bit_xor (r % 256) a)) (bit_xor (times_power 56 (bit_xor (r / 256 % 256) b)) (bit_xor (times_power 48 (bit_xor (r / 65536 % 256) c)) (bit_xor (times_power 40 (bit_xor (r / 16777216 % 256) d)) (bit_xor (times_power 32 e) (bit_xor (times_power 24 f) (bit_xor (times_power 16 g) (times_power 8 h)))))))
    ≡ remainder r (a ∷ b ∷ c ∷ d ∷ e ∷ f ∷ g ∷ h ∷ [])
unfolding parts
sum_of r a b c d e f g h small =
    let second : r / 65536 % 256 ≡ r / 256 / 256 % 256 = omega arith in
    let third : r / 16777216 % 256 ≡ r / 256 / 256 / 256 % 256 = omega arith in
    let none : 0 ≡ r / 256 / 256 / 256 / 256 = omega arith in
    ap (λ (z : ℕ). bit_xor (times_power 64 (bit_xor (r % 256) a)) (bit_xor (times_power 56 (bit_xor (r / 256 % 256) b)) z))
    (ap₂ bit_xor (ap (λ (z : ℕ). times_power 48 (bit_xor z c)) second) (ap₂ bit_xor (ap (λ (z : ℕ). times_power 40 (bit_xor z d)) third) (sym (last_four e f g h) ∙ ap (λ (z : ℕ). parts z (e ∷ f ∷ g ∷ h ∷ [])) none)))
    ∙ parts_are r (a ∷ b ∷ c ∷ d ∷ e ∷ f ∷ g ∷ h ∷ [])

-- eight bytes are their bytes
eight : (bytes : List ℕ) → length bytes ≡ 8
    → bytes ≡ get_or bytes 0 0 ∷ get_or bytes 1 0 ∷ get_or bytes 2 0 ∷ get_or bytes 3 0 ∷ get_or bytes 4 0 ∷ get_or bytes 5 0 ∷ get_or bytes 6 0 ∷ get_or bytes 7 0 ∷ []
eight (a ∷ b ∷ c ∷ d ∷ e ∷ f ∷ g ∷ h ∷ []) l = refl
eight (a ∷ b ∷ c ∷ d ∷ e ∷ f ∷ g ∷ h ∷ i ∷ rest) l = absurd (omega arith)
eight (a ∷ b ∷ c ∷ d ∷ e ∷ f ∷ g ∷ []) l = absurd (omega arith)
eight (a ∷ b ∷ c ∷ d ∷ e ∷ f ∷ []) l = absurd (omega arith)
eight (a ∷ b ∷ c ∷ d ∷ e ∷ []) l = absurd (omega arith)
eight (a ∷ b ∷ c ∷ d ∷ []) l = absurd (omega arith)
eight (a ∷ b ∷ c ∷ []) l = absurd (omega arith)
eight (a ∷ b ∷ []) l = absurd (omega arith)
eight (a ∷ []) l = absurd (omega arith)
eight [] l = absurd (omega arith)

-- the remainder after eight bytes, from the entries of each byte
pub after_eight : (r : ℕ) (low bytes : List ℕ) (p q s t u v w x : ℕ) → r < 2 ^ 32 → low ≡ to_le_bytes w32 r → length bytes ≡ 8
    → p ≡ times_power 64 (bit_xor (get_or low 0 0) (get_or bytes 0 0)) → q ≡ times_power 56 (bit_xor (get_or low 1 0) (get_or bytes 1 0))
    → s ≡ times_power 48 (bit_xor (get_or low 2 0) (get_or bytes 2 0)) → t ≡ times_power 40 (bit_xor (get_or low 3 0) (get_or bytes 3 0))
    → u ≡ times_power 32 (get_or bytes 4 0) → v ≡ times_power 24 (get_or bytes 5 0) → w ≡ times_power 16 (get_or bytes 6 0) → x ≡ times_power 8 (get_or bytes 7 0)
    → bit_xor (bit_xor (bit_xor (bit_xor (bit_xor (bit_xor (bit_xor p q) s) t) u) v) w) x ≡ remainder r bytes
after_eight r low bytes p q s t u v w x small is size ep eq es et eu ev ew ex =
    let first : get_or low 0 0 ≡ r % 256 = ap (λ (z : List ℕ). get_or z 0 0) is in
    let second : get_or low 1 0 ≡ r / 256 % 256 = ap (λ (z : List ℕ). get_or z 1 0) is in
    let third : get_or low 2 0 ≡ r / 65536 % 256 = ap (λ (z : List ℕ). get_or z 2 0) is in
    let fourth : get_or low 3 0 ≡ r / 16777216 % 256 = ap (λ (z : List ℕ). get_or z 3 0) is in
    left_nested p q s t u v w x
    ∙ ap₂ bit_xor (ep ∙ ap (λ (z : ℕ). times_power 64 (bit_xor z (get_or bytes 0 0))) first)
    (ap₂ bit_xor (eq ∙ ap (λ (z : ℕ). times_power 56 (bit_xor z (get_or bytes 1 0))) second)
    (ap₂ bit_xor (es ∙ ap (λ (z : ℕ). times_power 48 (bit_xor z (get_or bytes 2 0))) third)
    (ap₂ bit_xor (et ∙ ap (λ (z : ℕ). times_power 40 (bit_xor z (get_or bytes 3 0))) fourth) (ap₂ bit_xor eu (ap₂ bit_xor ev (ap₂ bit_xor ew ex))))))
    ∙ sum_of r (get_or bytes 0 0) (get_or bytes 1 0) (get_or bytes 2 0) (get_or bytes 3 0) (get_or bytes 4 0) (get_or bytes 5 0) (get_or bytes 6 0) (get_or bytes 7 0) small
    ∙ ap (remainder r) (sym (eight bytes size))
