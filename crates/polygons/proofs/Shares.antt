-- A share of a distance is between 0 and the distance.
use Rattle.std.proofs.Common.{◌≡◌, ℕ, ◌+◌, ◌-◌, ◌*◌, ◌^◌, ◌<◌, ◌≤◌, ◌⊎◌, zero, suc, inl, inr, refl, ap, sym, ◌∙◌, arith, to_z, of_z, FitsSigned, ◌<ℤ◌, ℤ, pos, negsuc, neg_ℤ, nat_abs, ◌+ℤ◌, ◌-ℤ◌, ◌*ℤ◌, ◌≤ℤ◌}
use mir.Syntax.{w64, w128}
use Rattle.std.proofs.lemmas.Int.{ints, to_z-of_z, fits_signed_from_abs}
use Rattle.std.specs.Int.{int_div_euclid}
use Rattle.std.proofs.Math.Nat.{mul-le-mul_left, mul-le-mul_right}
use Rattle.exact.specs.Fraction.{round, quotient}
use Rattle.exact.proofs.Fit.{product_within}
use Rattle.exact.proofs.Ring.{mul_assoc_z, mul_comm_z, mul_left_comm_z, mul-neg_z}
use Rattle.exact.proofs.Rounding.{floor_is, le_scale, le_unscale, same_lem}
use Rattle.exact.proofs.Between.{at_most, at_least}
use Rattle.exact.specs.declared.spot.Spot.{Spot}
use Rattle.polygons.specs.Fills.{place_after, share_of_distance}
use Rattle.polygons.specs.Climbs.{IsPart}

fall_in : (t u : ℕ) (d least : ℤ) → least ≤ℤ pos 0 → least ≤ℤ d → (pos (t + u) *ℤ least) ≤ℤ (d *ℤ pos t)
fall_in t u d least a p =
    let low = le_scale t least d p in
    let rest = le_scale u least (pos 0) a in
    let e = mul_comm_z d (pos t) in
    omega (arith, ints)

rise_in : (t u : ℕ) (d most : ℤ) → pos 0 ≤ℤ most → d ≤ℤ most → (d *ℤ pos t) ≤ℤ (pos (t + u) *ℤ most)
rise_in t u d most b q =
    let high = le_scale t d most q in
    let rest = le_scale u (pos 0) most b in
    let e = mul_comm_z d (pos t) in
    omega (arith, ints)

-- a share lies between two numbers
record IsIn (least most z : ℤ) : Type 0 where
  low : least ≤ℤ z
  high : z ≤ℤ most

-- so does a share of a distance d if both d and 0 do
share_in : (least d most : ℤ) (t long : ℕ) → 0 < long → t ≤ long → least ≤ℤ pos 0 → pos 0 ≤ℤ most → least ≤ℤ d → d ≤ℤ most → IsIn least most (share_of_distance d (pos t) (pos long))
share_in least d most t long h k a b p q =
    let e : t + (long - t) ≡ long = omega arith in
    let low = rw e at (fall_in t (long - t) d least a p) in
    let high = rw e at (rise_in t (long - t) d most b q) in
    record { low = at_least long (d *ℤ pos t) least h low; high = at_most long (d *ℤ pos t) most h high }

share_up : (least d most t : ℤ) (n : ℕ) → 0 < n → pos 0 ≤ℤ t → t ≤ℤ pos n → least ≤ℤ pos 0 → pos 0 ≤ℤ most → least ≤ℤ d → d ≤ℤ most → IsIn least most (share_of_distance d t (pos n))
share_up least d most (pos m) n h k l a b p q = share_in least d most m n h (omega (arith, ints)) a b p q
share_up least d most (negsuc m) n h k l a b p q = absurd (omega (arith, ints))

-- both negative
flipped : (d t : ℤ) (n : ℕ) → share_of_distance d t (negsuc n) ≡ share_of_distance d (neg_ℤ t) (pos (suc n))
flipped d t n = ap (λ (z : ℤ). round (quotient z (pos (suc n)))) (sym (mul-neg_z d t))

-- t is between 0 and u
abbrev pub IsOnWay : ℤ → ℤ → Type 0
IsOnWay t u = ((pos 0 ≤ℤ t) × (t ≤ℤ u)) ⊎ ((u ≤ℤ t) × (t ≤ℤ pos 0))

share_by : (least d most t u : ℤ) → IsOnWay t u → 0 < nat_abs u → least ≤ℤ pos 0 → pos 0 ≤ℤ most → least ≤ℤ d → d ≤ℤ most
    → IsIn least most (share_of_distance d t u)
share_by least d most t (pos n) way z a b p q =
    elim (way) [
      | inl l ↦ share_up least d most t n (omega (arith, ints)) l.0 l.1 a b p q
      | inr r ↦ absurd (omega (arith, ints, r.0, r.1))
    ]
share_by least d most t (negsuc n) way z a b p q =
    elim (way) [
      | inl l ↦ absurd (omega (arith, ints, l.0, l.1))
      | inr r ↦ rw (flipped d t n) (share_up least d most (neg_ℤ t) (suc n) (omega arith) (omega (arith, ints, r.1)) (omega (arith, ints, r.0)) a b p q)
    ]

-- a place on the way is between its ends
pub moved_between : (a b t u least most : ℤ) → IsOnWay t u → 0 < nat_abs u → least ≤ℤ a → a ≤ℤ most → least ≤ℤ b → b ≤ℤ most
    → (least ≤ℤ (a +ℤ share_of_distance (b -ℤ a) t u)) × ((a +ℤ share_of_distance (b -ℤ a) t u) ≤ℤ most)
moved_between a b t u least most way z la am lb bm =
    let r = share_by (least -ℤ a) (b -ℤ a) (most -ℤ a) t u way z
    (omega (arith, ints)) (omega (arith, ints)) (omega (arith, ints)) (omega (arith, ints)) in
    let l = r.low in
    let g = r.high in
    (omega (arith, ints, l), omega (arith, ints, g))

-- and in the range of places
pub moved_within : (a b t u : ℤ) (m : ℕ) → IsPart t u → nat_abs a ≤ m → nat_abs b ≤ m → nat_abs (a +ℤ share_of_distance (b -ℤ a) t u) ≤ m
moved_within a b t u m part h k =
    let r = moved_between a b t u (neg_ℤ (pos m)) (pos m) part.between part.not_zero
    (omega (arith, ints)) (omega (arith, ints)) (omega (arith, ints)) (omega (arith, ints)) in
    let l = r.0 in
    let g = r.1 in
    omega (arith, ints, l, g)

pub share_within : (a b t u : ℤ) → IsPart t u → nat_abs a ≤ 2 ^ 27 → nat_abs b ≤ 2 ^ 27 → nat_abs (share_of_distance (b -ℤ a) t u) ≤ 2 ^ 28
share_within a b t u part h k =
    let r = moved_within a b t u (2 ^ 27) part h k in
    omega (arith, ints, r)

-- t is no greater than u
pub part_within : (t u : ℤ) → IsPart t u → nat_abs t ≤ 2 ^ 62
part_within t u part =
    let m = part.most in
    elim (part.between) [
      | inl l ↦ omega (arith, ints, l.0, l.1, m)
      | inr r ↦ omega (arith, ints, r.0, r.1, m)
    ]

pub share_product : (a b t u : ℤ) → IsPart t u → nat_abs a ≤ 2 ^ 27 → nat_abs b ≤ 2 ^ 27 → nat_abs ((b -ℤ a) *ℤ t) ≤ 2 ^ 28 * 2 ^ 62
share_product a b t u part h k = product_within (b -ℤ a) t (2 ^ 28) (2 ^ 62) (omega (arith, ints)) (part_within t u part)

-- a part by numbers that are k times as great
scaled_up : (k : ℕ) (d t : ℤ) (n : ℕ) → 0 < k → 0 < n → share_of_distance d (pos k *ℤ t) (pos (k * n)) ≡ share_of_distance d t (pos n)
scaled_up k d t n h g =
    let x = d *ℤ t in
    same_lem (quotient (d *ℤ (pos k *ℤ t)) (pos (k * n))) (quotient x (pos n)) (omega (arith, mul-le-mul_left k g)) g
    (ap (λ (z : ℤ). z *ℤ pos n) (mul_left_comm_z d (pos k) t) ∙ mul_comm_z (pos k *ℤ x) (pos n) ∙ mul_left_comm_z (pos n) (pos k) x
    ∙ sym (mul_assoc_z (pos k) (pos n) x) ∙ sym (mul_comm_z x (pos (k * n))))

no_longer : (k : ℕ) (q u : ℤ) → 0 < k → pos k *ℤ q ≡ u → nat_abs q ≤ nat_abs u
no_longer k (pos n) u h f = let s = mul-le-mul_right n h in omega (arith, ints)
no_longer k (negsuc n) u h f = let s = mul-le-mul_right (suc n) h in omega (arith, ints)

pub not_zero : (k : ℕ) (q u : ℤ) → pos k *ℤ q ≡ u → 0 < nat_abs u → 0 < nat_abs q
not_zero k (pos zero) u f g = absurd (omega (arith, ints, f, g))
not_zero k (pos (suc n)) u f g = omega arith
not_zero k (negsuc n) u f g = omega arith

-- a part t / u is also p / q, if t is k * p and u is k * q
pub shorter_part : (k : ℕ) (t u p q : ℤ) → 0 < k → pos k *ℤ p ≡ t → pos k *ℤ q ≡ u → IsPart t u → IsPart p q
shorter_part k t u p q h e f part = record {
  between = elim (part.between) [
    | inl l ↦ inl (le_unscale k (pos 0) p h (omega (arith, ints, l.0, e)), le_unscale k p q h (omega (arith, ints, l.1, e, f)))
    | inr r ↦ inr (le_unscale k q p h (omega (arith, ints, r.0, e, f)), le_unscale k p (pos 0) h (omega (arith, ints, r.1, e)))
  ];
  not_zero = not_zero k q u f part.not_zero;
  most = omega (arith, no_longer k q u h f, part.most);
}

-- and its shares are the same
share_up_by : (k : ℕ) (d t u p q : ℤ) → 0 < k → pos k *ℤ p ≡ t → pos k *ℤ q ≡ u → pos 0 <ℤ q → share_of_distance d p q ≡ share_of_distance d t u
share_up_by k d t u p (pos n) h e f g = rw (sym e, sym f) (sym (scaled_up k d p n h (omega (arith, ints))))
share_up_by k d t u p (negsuc n) h e f g = absurd (omega (arith, ints))

below_zero : (d t u : ℤ) → u <ℤ pos 0 → share_of_distance d t u ≡ share_of_distance d (neg_ℤ t) (neg_ℤ u)
below_zero d t (pos n) h = absurd (omega (arith, ints))
below_zero d t (negsuc n) h = flipped d t n

pub same_share : (k : ℕ) (d t u p q : ℤ) → 0 < k → pos k *ℤ p ≡ t → pos k *ℤ q ≡ u → 0 < nat_abs q → share_of_distance d p q ≡ share_of_distance d t u
same_share k d t u p (pos n) h e f g = share_up_by k d t u p (pos n) h e f (omega (arith, ints))
same_share k d t u p (negsuc n) h e f g =
    let b : u <ℤ pos 0 = sign u f in
    flipped d p n ∙ share_up_by k d (neg_ℤ t) (neg_ℤ u) (neg_ℤ p) (pos (suc n)) h (mul-neg_z (pos k) p ∙ ap neg_ℤ e) (mul-neg_z (pos k) (negsuc n) ∙ ap neg_ℤ f) (omega (arith, ints)) ∙ sym (below_zero d t u b)
  where
    sign : (u : ℤ) → pos k *ℤ negsuc n ≡ u → u <ℤ pos 0
    sign u f = let s = mul-le-mul_right (suc n) h in omega (arith, ints)

-- a is 10^7 times q, which code reads as v
pub record IsWhole (a q v : ℤ) : Type 0 where
  pub product : pos (10 ^ 7) *ℤ q ≡ a
  pub read : to_z w128 (of_z w128 v) ≡ q

-- as code finds it
pub is_whole : (a q v : ℤ) → nat_abs a ≤ 2 ^ 62 → q ≡ int_div_euclid (to_z w64 (of_z w64 a)) (pos (10 ^ 7))
    → of_z w64 (pos (10 ^ 7) *ℤ to_z w64 (of_z w64 q)) ≡ of_z w64 a → v ≡ to_z w64 (of_z w64 q) → IsWhole a q v
is_whole a q v m e h j =
    let fa : FitsSigned w64 a = fits_signed_from_abs w64 a (omega (arith, m)) in
    let same : q ≡ int_div_euclid a (pos (10 ^ 7)) = simp to_z-of_z at e in
    let f = floor_is a (10 ^ 7) (omega arith) in
    let low : (pos (10 ^ 7) *ℤ q) ≤ℤ a = rw same f.0 in
    let high : a <ℤ (pos (10 ^ 7) *ℤ q +ℤ pos (10 ^ 7)) = rw same f.1 in
    let fq : FitsSigned w64 q = fits_signed_from_abs w64 q (omega (arith, ints, low, high, m)) in
    let fp : FitsSigned w64 (pos (10 ^ 7) *ℤ q) = fits_signed_from_abs w64 (pos (10 ^ 7) *ℤ q) (omega (arith, ints, low, high, m)) in
    let wide : FitsSigned w128 q = fits_signed_from_abs w128 q (omega (arith, ints, low, high, m)) in
    let v_is : v ≡ q = j ∙ to_z-of_z w64 q fq in
    record { product = simp to_z-of_z at (ap (to_z w64) h); read = rw v_is (to_z-of_z w128 q wide) }

-- a part as it is read back from its bits
pub record IsRead (t u : ℤ) : Type 0 where
  pub first : to_z w64 (of_z w64 (to_z w128 (of_z w128 t))) ≡ t
  pub second : to_z w64 (of_z w64 (to_z w128 (of_z w128 u))) ≡ u
  pub wide_first : to_z w128 (of_z w128 t) ≡ t
  pub wide_second : to_z w128 (of_z w128 u) ≡ u

pub part_read : (t u : ℤ) → IsPart t u → IsRead t u
part_read t u part =
    let m = part_within t u part in
    record { first = back t m; second = back u part.most; wide_first = wide_back t m; wide_second = wide_back u part.most }
  where
    back : (z : ℤ) → nat_abs z ≤ 2 ^ 62 → to_z w64 (of_z w64 (to_z w128 (of_z w128 z))) ≡ z
    back z m =
        let narrow : FitsSigned w64 z = fits_signed_from_abs w64 z (omega (arith, m)) in
        let wide : FitsSigned w128 z = fits_signed_from_abs w128 z (omega (arith, m)) in
        simp to_z-of_z

    wide_back : (z : ℤ) → nat_abs z ≤ 2 ^ 62 → to_z w128 (of_z w128 z) ≡ z
    wide_back z m = to_z-of_z w128 z (fits_signed_from_abs w128 z (omega (arith, m)))

-- parts with the same shares lead to the same place
pub same_place : (a b : Spot) (t u p q : ℤ) → ((d : ℤ) → share_of_distance d p q ≡ share_of_distance d t u) → place_after a b p q ≡ place_after a b t u
same_place a b t u p q same = rw (same (b.x -ℤ a.x), same (b.y -ℤ a.y)) refl
