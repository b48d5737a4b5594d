-- No direction of an arc is (0, 0).
use Rattle.std.proofs.Common.{◌≡◌, Bool, true, false, inl, inr, ℕ, zero, suc, ◌<◌, ◌∷◌}
use Rattle.std.proofs.Common.{int_le, int_lt, int_eq, IfSome, arith, ℤ, pos, nat_abs, ◌-ℤ◌, ◌≤ℤ◌, ◌<ℤ◌}
use Rattle.std.specs.List.{All}
use Rattle.std.proofs.lemmas.Bool.{cases_Bool, cases_lt}
use Rattle.std.proofs.lemmas.Bool.Decides.{Decides-int_eq}
use Rattle.std.proofs.lemmas.Int.{ints}
use Rattle.std.proofs.lemmas.List.Elements.{All-append, All-cons, All-nil}
use Rattle.exact.specs.Spots.{is_same_spot}
use Rattle.exact.specs.declared.spot.Spot.{Spot}
use Rattle.curves.specs.Arcs.{centre_of, circle_by, whole_circle, circle_through, between, middle}
use Rattle.curves.specs.Bounds.{IsNotZero}
use Rattle.curves.specs.Vectors.{way, sum_of, dot, cross, turned_against, unit_of}
use Rattle.curves.proofs.Centres.{centre_above}
use Rattle.curves.proofs.Units.{unit_above}
use Rattle.curves.proofs.VectorLemmas.{sum_above, way_above, turned_above}

unit_of_above : (v : Spot) → IsNotZero v → IsNotZero (unit_of v)
unit_of_above v h = unit_above v.x v.y h

pub le_from_test : (z : ℤ) → int_le (pos 0) z ≡ true → pos 0 ≤ℤ z
le_from_test z e = omega (arith, ints)

pub lt_from_test : (z : ℤ) → int_le (pos 0) z ≡ false → z <ℤ pos 0
lt_from_test z e = omega (arith, ints)

middle_above : (clockwise : Bool) (p q : Spot) → IsNotZero p → IsNotZero (middle clockwise p q)
unfolding middle
middle_above clockwise p q h = elim (cases_Bool (int_le (pos 0) (dot p q))) [
  | inl e ↦ rw e (unit_of_above (sum_of p q) (sum_above p q h (le_from_test (dot p q) e)))
  | inr e ↦ (let w = way_above p q (lt_from_test (dot p q) e) in
      rw e (unit_of_above (turned_against clockwise (way p q)) (turned_above clockwise (way p q) w)))
]

pub between_above : (clockwise : Bool) (k : ℕ) (p q : Spot) → IsNotZero p → All IsNotZero (between clockwise k p q)
unfolding between
between_above clockwise zero p q h = All-nil IsNotZero
between_above clockwise (suc k) p q h =
    let m = middle clockwise p q in
    let n = middle_above clockwise p q h in
    All-append IsNotZero (between clockwise k p m) (m ∷ between clockwise k m q) (between_above clockwise k p m h)
    (All-cons IsNotZero m (between clockwise k m q) n (between_above clockwise k m q n))

-- two numbers that a test tells apart
apart : (y z : ℤ) → int_eq y z ≡ false → 0 < nat_abs (y -ℤ z)
apart y z e = elim (cases_lt 0 (nat_abs (y -ℤ z))) [
  | inl l ↦ l
  | inr l ↦ (let d = Decides-int_eq y z in let f : y ≡ z = omega (arith, ints) in let g = d.1 f in cc)
]

pub above_from_test : (z : ℤ) → int_eq z (pos 0) ≡ false → 0 < nat_abs z
above_from_test z e = let x = apart z (pos 0) e in omega (arith, ints, x)

pub spots_apart : (a b : Spot) → is_same_spot b a ≡ false → IsNotZero (way a b)
spots_apart a b e = elim (cases_Bool (int_eq b.x a.x)) [
  | inl f ↦ (let g = rw f at e in let y = apart b.y a.y g in omega (arith, y))
  | inr f ↦ (let x = apart b.x a.x f in omega (arith, x))
]

whole_above : (a b : Spot) → IsNotZero b → IsNotZero (whole_circle a b).first
unfolding whole_circle
whole_above a b h = unit_of_above (turned_against false b) (turned_above false b h)

by_above : (a b c : Spot) → 0 < nat_abs (cross b c) → IsNotZero (circle_by a b c).first
unfolding circle_by
by_above a b c h =
    unit_of_above (turned_against (int_lt (cross b c) (pos 0)) (centre_of b c))
    (turned_above (int_lt (cross b c) (pos 0)) (centre_of b c) (centre_above b c h))

-- the first direction of an arc
pub through_above : (a b c : Spot) → IfSome (circle_through a b c) (λ circle. IsNotZero circle.first)
through_above a b c = elim (cases_Bool (is_same_spot c a)) [
  | inl e ↦ elim (cases_Bool (is_same_spot b a)) [
    | inl f ↦ rw (e, f) tt
    | inr f ↦ rw (e, f) (whole_above a (way a b) (spots_apart a b f))
  ]
  | inr e ↦ elim (cases_Bool (int_eq (cross (way a b) (way a c)) (pos 0))) [
    | inl f ↦ rw (e, f) tt
    | inr f ↦ (let x = apart (cross (way a b) (way a c)) (pos 0) f in
        rw (e, f) (by_above a (way a b) (way a c) (omega (arith, ints, x))))
  ]
]
