-- The symmetries of the sine.
use Rattle.std.proofs.Common.{refl, sym, ap, inl, inr, ◌∙◌, ◌≡◌, ◌≤◌, ◌<◌, ◌+◌, ◌-◌, ◌*◌, ◌/◌, ◌%◌, ℕ, zero, suc, true, false, if◌then◌else◌, nat_le, arith, ℤ, pos, negsuc, neg_ℤ, nat_abs, ◌+ℤ◌, ◌-ℤ◌}
use Rattle.std.proofs.lemmas.Bool.{cases_lt}
use Rattle.std.proofs.lemmas.Bool.Decides.{nat_tests}
use Rattle.std.proofs.lemmas.Int.{ints, int_rem_euclid_is}
use Rattle.std.specs.Int.{int_rem_euclid}
use Rattle.plot_arc.specs.Arcs.{sine_to_90, sine_to_360, sine_of}
use Rattle.plot_arc.specs.Laws.{SineSymmetries}

-- an angle and whole turns, which is not below 0
abbrev from_0 : ℤ → ℕ
from_0 (pos a) = a + a * 360000
from_0 (negsuc a) = suc a * 359999

from_0_is : (t : ℤ) → t +ℤ pos (nat_abs t * 360000) ≡ pos (from_0 t)
from_0_is (pos a) = refl
from_0_is (negsuc a) = omega (arith, ints)

rest_is : (t : ℤ) (k m : ℕ) → t +ℤ pos (k * 360000) ≡ pos m → int_rem_euclid t (pos 360000) ≡ pos (m % 360000)
rest_is t k m e = int_rem_euclid_is t (pos 360000) 360000 k m (omega arith) refl e

at_rest : (t : ℤ) (k m r : ℕ) → t +ℤ pos (k * 360000) ≡ pos m → m % 360000 ≡ r → sine_of t ≡ sine_to_360 r
at_rest t k m r e f = ap (λ (z : ℤ). sine_to_360 (nat_abs z)) (rest_is t k m e) ∙ ap sine_to_360 f

-- the second and the third step of the definition, over any first quarter
abbrev half : (ℕ → ℕ) → ℕ → ℕ
half f t = if nat_le t 90000 then f t else f (180000 - t)

abbrev whole : (ℕ → ℕ) → ℕ → ℤ
whole f t = if nat_le t 180000 then pos (half f t) else neg_ℤ (pos (half f (t - 180000)))

half_mirrored : (f : ℕ → ℕ) (s : ℕ) → s ≤ 180000 → half f (180000 - s) ≡ half f s
half_mirrored f s h = elim (cases_lt s 90000) [
  | inl l ↦ (let a : nat_le s 90000 ≡ true = grind (arith, nat_tests) in
      let b : nat_le (180000 - s) 90000 ≡ false = grind (arith, nat_tests) in
      let e : 180000 - (180000 - s) ≡ s = omega arith in
      rw (a, b) (ap f e))
  | inr l ↦ (let b : nat_le (180000 - s) 90000 ≡ true = grind (arith, nat_tests) in
      elim (cases_lt 90000 s) [
        | inl m ↦ (let a : nat_le s 90000 ≡ false = grind (arith, nat_tests) in rw (a, b) refl)
        | inr m ↦ (let e : 180000 - s ≡ s = omega arith in ap (half f) e)
      ])
]

-- 360 degrees less an angle, and 180 degrees less an angle, as angles below 360 degrees
abbrev opposite : ℕ → ℕ
opposite r = (360000 - r) % 360000

abbrev mirrored : ℕ → ℕ
mirrored r = (540000 - r) % 360000

whole_first : (f : ℕ → ℕ) (t : ℕ) → t ≤ 180000 → whole f t ≡ pos (half f t)
whole_first f t h = let a : nat_le t 180000 ≡ true = grind (arith, nat_tests) in rw a refl

whole_second : (f : ℕ → ℕ) (t : ℕ) → 180000 < t → whole f t ≡ neg_ℤ (pos (half f (t - 180000)))
whole_second f t h = let a : nat_le t 180000 ≡ false = grind (arith, nat_tests) in rw a refl

neg_neg : (z : ℤ) → neg_ℤ (neg_ℤ z) ≡ z
neg_neg z = omega (arith, ints)

whole_opposite : (f : ℕ → ℕ) (r : ℕ) → f 0 ≡ 0 → r < 360000 → whole f (opposite r) ≡ neg_ℤ (whole f r)
whole_opposite f zero z h = rw z refl
whole_opposite f (suc r) z h = elim (cases_lt (suc r) 180000) [
  | inl l ↦ (let e : opposite (suc r) ≡ 360000 - suc r = omega arith in
      let d : 360000 - suc r - 180000 ≡ 180000 - suc r = omega arith in
      ap (whole f) e ∙ whole_second f (360000 - suc r) (omega arith)
      ∙ ap (λ (s : ℕ). neg_ℤ (pos (half f s))) d
      ∙ ap (λ (n : ℕ). neg_ℤ (pos n)) (half_mirrored f (suc r) (omega arith))
      ∙ ap neg_ℤ (sym (whole_first f (suc r) (omega arith))))
  | inr l ↦ elim (cases_lt 180000 (suc r)) [
    | inl m ↦ (let e : opposite (suc r) ≡ 180000 - (suc r - 180000) = omega arith in
        let n = neg_neg (pos (half f (suc r - 180000))) in
        ap (whole f) e ∙ whole_first f (180000 - (suc r - 180000)) (omega arith)
        ∙ ap pos (half_mirrored f (suc r - 180000) (omega arith))
        ∙ sym n
        ∙ ap neg_ℤ (sym (whole_second f (suc r) m)))
    | inr m ↦ (let e : suc r ≡ 180000 = omega arith in rw e (rw z refl))
  ]
]

whole_mirrored : (f : ℕ → ℕ) (r : ℕ) → r < 360000 → whole f (mirrored r) ≡ whole f r
whole_mirrored f r h = elim (cases_lt 180000 r) [
  | inl l ↦ (let e : mirrored r ≡ 540000 - r = omega arith in
      let d : 540000 - r - 180000 ≡ 180000 - (r - 180000) = omega arith in
      ap (whole f) e ∙ whole_second f (540000 - r) (omega arith)
      ∙ ap (λ (s : ℕ). neg_ℤ (pos (half f s))) d
      ∙ ap (λ (n : ℕ). neg_ℤ (pos n)) (half_mirrored f (r - 180000) (omega arith))
      ∙ sym (whole_second f r l))
  | inr l ↦ (let e : mirrored r ≡ 180000 - r = omega arith in
      ap (whole f) e ∙ whole_first f (180000 - r) (omega arith)
      ∙ ap pos (half_mirrored f r l)
      ∙ sym (whole_first f r l))
]

is_whole : (r : ℕ) → sine_to_360 r ≡ whole sine_to_90 r
is_whole r = refl

period : (t : ℤ) → sine_of (t +ℤ pos 360000) ≡ sine_of t
period t =
    let e = from_0_is t in
    let m = from_0 t in
    at_rest (t +ℤ pos 360000) (nat_abs t) (m + 360000) (m % 360000) (omega (arith, ints)) (omega arith)
    ∙ sym (at_rest t (nat_abs t) m (m % 360000) e refl)

odd : (t : ℤ) → sine_of (neg_ℤ t) ≡ neg_ℤ (sine_of t)
odd t =
    let e = from_0_is t in
    let m = from_0 t in
    at_rest (neg_ℤ t) (m / 360000 + 1) (nat_abs t * 360000 + (360000 - m % 360000)) (opposite (m % 360000)) (omega (arith, ints)) (omega arith)
    ∙ whole_opposite sine_to_90 (m % 360000) refl (omega arith)
    ∙ ap neg_ℤ (sym (at_rest t (nat_abs t) m (m % 360000) e refl))

mirror : (t : ℤ) → sine_of (pos 180000 -ℤ t) ≡ sine_of t
mirror t =
    let e = from_0_is t in
    let m = from_0 t in
    at_rest (pos 180000 -ℤ t) (m / 360000 + 1) (nat_abs t * 360000 + (540000 - m % 360000)) (mirrored (m % 360000)) (omega (arith, ints)) (omega arith)
    ∙ whole_mirrored sine_to_90 (m % 360000) (omega arith)
    ∙ sym (at_rest t (nat_abs t) m (m % 360000) e refl)

pub symmetries : SineSymmetries
symmetries = record { period = period; odd = odd; mirror = mirror }
