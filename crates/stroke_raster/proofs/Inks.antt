-- Runs of pixels as the bits of bytes.
use Rattle.std.proofs.Common.{◌≡◌, ℕ, zero, suc, ◌+◌, ◌-◌, ◌*◌, ◌/◌, ◌%◌, ◌<◌, ◌≤◌, ◌^◌, ◌≢◌, arith, refl, sym, ap, ◌∙◌, inl, inr, max, min, length, get_or, List, slice_set, bit_or, cond, Bool, true, false}
use Rattle.std.specs.Int.{bit_at}
use Rattle.std.proofs.lemmas.Nat.Bits.{bit_at_mask_above, bit_at_mask_below, bit_at_mask_inside, bit_at_or, bit_at-lt}
use Rattle.std.proofs.lemmas.Bool.{cases_eq, cases_lt, cases_Bool}
use Rattle.std.proofs.lemmas.List.{get_or-set_same, get_or-set_other, length-set}
use Rattle.stroke_raster.specs.Inks.{ink, ink_at, IsInked, IsMask, IsReached}

-- a part of a byte's value
pub high_part : (a b : ℕ) → a + b ≡ 8 → 256 / 2 ^ a ≡ 2 ^ b
high_part zero b h = let e : b ≡ 8 = omega (arith, h) in rw e refl
high_part (suc zero) b h = let e : b ≡ 7 = omega (arith, h) in rw e refl
high_part (suc (suc zero)) b h = let e : b ≡ 6 = omega (arith, h) in rw e refl
high_part (suc (suc (suc zero))) b h = let e : b ≡ 5 = omega (arith, h) in rw e refl
high_part (suc (suc (suc (suc zero)))) b h = let e : b ≡ 4 = omega (arith, h) in rw e refl
high_part (suc (suc (suc (suc (suc zero))))) b h = let e : b ≡ 3 = omega (arith, h) in rw e refl
high_part (suc (suc (suc (suc (suc (suc zero)))))) b h = let e : b ≡ 2 = omega (arith, h) in rw e refl
high_part (suc (suc (suc (suc (suc (suc (suc zero))))))) b h = let e : b ≡ 1 = omega (arith, h) in rw e refl
high_part (suc (suc (suc (suc (suc (suc (suc (suc zero)))))))) b h = let e : b ≡ 0 = omega (arith, h) in rw e refl
high_part (suc (suc (suc (suc (suc (suc (suc (suc (suc n))))))))) b h = absurd (omega (arith, h))

-- the bits from place `a` up to place `b`, counted from the highest of eight
pub mask_bits : (low end place a b : ℕ) → a ≡ max low (8 * place) - 8 * place → b ≡ min end (8 * place + 8) - 8 * place → low < 8 * place + 8 → 8 * place < end → low < end
    → IsMask low end place (256 / 2 ^ a - 256 / 2 ^ b)
mask_bits low end place a b ea eb from to order =
    let pa : 256 / 2 ^ a ≡ 2 ^ (8 - a) = high_part a (8 - a) (omega (arith, ea, from)) in
    let pb : 256 / 2 ^ b ≡ 2 ^ (8 - b) = high_part b (8 - b) (omega (arith, eb)) in
    let e : 256 / 2 ^ a - 256 / 2 ^ b ≡ 2 ^ (8 - a) - 2 ^ (8 - b) = rw (pa, pb) refl in
    record {
      before = λ k h u. ap (λ (m : ℕ). bit_at m (7 - k)) e ∙ bit_at_mask_above (8 - b) (8 - a) (7 - k) (omega (arith, ea, u, h));
      inside = λ k h u v. ap (λ (m : ℕ). bit_at m (7 - k)) e ∙ bit_at_mask_inside (8 - b) (8 - a) (7 - k) (omega (arith, eb, u, v, h)) (omega (arith, ea, u, v, h));
      after = λ k h u. ap (λ (m : ℕ). bit_at m (7 - k)) e ∙ bit_at_mask_below (8 - b) (8 - a) (7 - k) (omega (arith, eb, u, h));
    }

-- a byte within the span
pub whole_mask : (low end place : ℕ) → low ≤ 8 * place → 8 * place + 8 ≤ end → IsMask low end place 255
whole_mask low end place from to = mask_bits low end place 0 8 (omega (arith, from)) (omega (arith, to)) (omega (arith, from)) (omega (arith, to)) (omega (arith, from, to))

-- a byte beside the one that was written
beside_byte : (line : List ℕ) (place m i : ℕ) → i / 8 ≢ place → ink (slice_set line place m) i ≡ ink line i
beside_byte line place m i ne = ap (λ (n : ℕ). bit_at n (7 - i % 8)) (get_or-set_other line place (i / 8) m 0 ne)

-- the byte that was written
in_byte : (line : List ℕ) (place m i : ℕ) → i / 8 ≡ place → place < length line → ink (slice_set line place (bit_or (get_or line place 0) m)) i ≡ max (ink line i) (bit_at m (7 - i % 8))
in_byte line place m i e lt =
    ap (λ (p : ℕ). bit_at (get_or (slice_set line place (bit_or (get_or line place 0) m)) p 0) (7 - i % 8)) e
    ∙ ap (λ (n : ℕ). bit_at n (7 - i % 8)) (get_or-set_same line place (bit_or (get_or line place 0) m) 0 lt)
    ∙ bit_at_or (get_or line place 0) m (7 - i % 8)
    ∙ ap (λ (p : ℕ). max (bit_at (get_or line p 0) (7 - i % 8)) (bit_at m (7 - i % 8))) (sym e)

-- one more byte of a run
pub ink_step : (low end place m : ℕ) (old line : List ℕ) → place < length line → low < 8 * place + 8 → 8 * place < end → IsMask low end place m
    → IsInked low (min end (max low (8 * place))) old line → IsInked low (min end (max low (8 * (place + 1)))) old (slice_set line place (bit_or (get_or line place 0) m))
ink_step low end place m old line lt from to mask inv =
    record {
      length = length-set line place _ ∙ inv.length;
      before = λ i u. elim (cases_eq (i / 8) place) [
        | inl e ↦ (let b = mask.before (i % 8) (omega arith) (omega (arith, e, u)) in let s = in_byte line place m i e lt in let o = inv.before i u in omega (arith, b, s, o))
        | inr n ↦ beside_byte line place _ i n ∙ inv.before i u
      ];
      inside = λ i u v. elim (cases_eq (i / 8) place) [
        | inl e ↦ (let b = mask.inside (i % 8) (omega arith) (omega (arith, e, u)) (omega (arith, e, v)) in let s = in_byte line place m i e lt in let o = bit_at-lt (get_or line (i / 8) 0) (7 - i % 8) in omega (arith, b, s, o))
        | inr n ↦ beside_byte line place _ i n ∙ inv.inside i u (omega (arith, n, v, u, from))
      ];
      after = λ i u. elim (cases_eq (i / 8) place) [
        | inl e ↦ (let b = mask.after (i % 8) (omega arith) (omega (arith, e, u, from)) in let s = in_byte line place m i e lt in let o = inv.after i (omega (arith, u, e, from)) in omega (arith, b, s, o))
        | inr n ↦ beside_byte line place _ i n ∙ inv.after i (omega (arith, u, n, from, to))
      ];
    }

-- the end of the run of one pixel, or of none
one_more : (b : Bool) (low end : ℕ) → end ≡ cond b (low + 1) low → (b ≡ true → end ≡ low + 1) × (b ≡ false → end ≡ low)
one_more true low end h = (λ e. h, λ e. cc e)
one_more false low end h = (λ e. cc e, λ e. h)

-- one more pixel asked
pub reached_step : (p : ℕ → Bool) (from n end : ℕ) (old line new : List ℕ) → end ≡ cond (p (from + n)) (from + n + 1) (from + n)
    → IsReached p from n old line → IsInked (from + n) end line new → IsReached p from (n + 1) old new
reached_step p from n end old line new e inv run =
    let o = one_more (p (from + n)) (from + n) end e in
    let low : from + n ≤ end = elim (cases_Bool (p (from + n))) [
      | inl t ↦ omega (arith, o.0 t)
      | inr f ↦ omega (arith, o.1 f)
    ] in
    let high : end ≤ from + n + 1 = elim (cases_Bool (p (from + n))) [
      | inl t ↦ omega (arith, o.0 t)
      | inr f ↦ omega (arith, o.1 f)
    ] in
    record {
      length = run.length ∙ inv.length;
      within = λ i u. elim (cases_lt i n) [
        | inl l ↦ run.before (from + i) (omega (arith, l)) ∙ inv.within i l
        | inr g ↦ (let z : i ≡ n = omega (arith, u, g) in
            elim (cases_Bool (p (from + n))) [
              | inl t ↦ (let x : ink new (from + n) ≡ 1 = run.inside (from + n) (omega arith) (omega (arith, o.0 t)) in rw (z, t) x)
              | inr f ↦ (let x : ink new (from + n) ≡ ink old (from + n) = run.after (from + n) (omega (arith, o.1 f)) ∙ inv.after (from + n) (omega arith) in rw (z, f) x)
            ])
      ];
      before = λ i u. run.before i (omega (arith, u)) ∙ inv.before i u;
      after = λ i u. run.after i (omega (arith, u, high)) ∙ inv.after i (omega (arith, u));
    }

-- the bytes and the bits of a row's pixels
pub byte_at_row : (s r k : ℕ) → (8 * (r * s) + k) / 8 ≡ r * s + k / 8
byte_at_row s r k = omega arith

pub bit_in_row : (s r k : ℕ) → (8 * (r * s) + k) % 8 ≡ k % 8
bit_in_row s r k = omega arith

-- pixel k of a row that begins d bytes after the line
pub ink_as : (bits line : List ℕ) (s r d k : ℕ) → get_or bits (r * s + k / 8) 0 ≡ get_or line (d + k / 8) 0 → ink_at s bits r k ≡ ink line (8 * d + k)
ink_as bits line s r d k e =
    let p : d + k / 8 ≡ (8 * d + k) / 8 = omega arith in
    let q : k % 8 ≡ (8 * d + k) % 8 = omega arith in
    ap (λ (n : ℕ). bit_at (get_or bits n 0) (7 - (8 * (r * s) + k) % 8)) (byte_at_row s r k)
    ∙ ap (λ (n : ℕ). bit_at (get_or bits (r * s + k / 8) 0) (7 - n)) (bit_in_row s r k)
    ∙ ap (λ (n : ℕ). bit_at n (7 - k % 8)) e
    ∙ ap (λ (n : ℕ). bit_at (get_or line n 0) (7 - k % 8)) p
    ∙ ap (λ (n : ℕ). bit_at (get_or line ((8 * d + k) / 8) 0) (7 - n)) q

pub ink_here : (bits line : List ℕ) (s r k : ℕ) → get_or bits (r * s + k / 8) 0 ≡ get_or line (k / 8) 0 → ink_at s bits r k ≡ ink line k
ink_here bits line s r k e =
    let z : k / 8 ≡ 0 + k / 8 = omega arith in
    let w : 8 * 0 + k ≡ k = omega arith in
    ink_as bits line s r 0 k (e ∙ ap (λ (n : ℕ). get_or line n 0) z) ∙ ap (λ (n : ℕ). ink line n) w

pub ink_same : (old new : List ℕ) (s r k : ℕ) → get_or new (r * s + k / 8) 0 ≡ get_or old (r * s + k / 8) 0 → ink_at s new r k ≡ ink_at s old r k
ink_same old new s r k e =
    ap (λ (n : ℕ). bit_at (get_or new n 0) (7 - (8 * (r * s) + k) % 8)) (byte_at_row s r k)
    ∙ ap (λ (n : ℕ). bit_at n (7 - (8 * (r * s) + k) % 8)) e
    ∙ sym (ap (λ (n : ℕ). bit_at (get_or old n 0) (7 - (8 * (r * s) + k) % 8)) (byte_at_row s r k))

-- before the first byte of a run
pub ink_none : (low end : ℕ) (line : List ℕ) → low ≤ end → IsInked low (min end (max low (8 * (low / 8)))) line line
ink_none low end line order = record {
  length = refl;
  before = λ i u. refl;
  inside = λ i u v. absurd (omega (arith, u, v));
  after = λ i u. refl;
}

-- after the last
pub ink_all : (low e end : ℕ) (old new : List ℕ) → e ≡ end → IsInked low e old new → IsInked low end old new
ink_all low e end old new z h = rw z at h
