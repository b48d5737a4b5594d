-- The laws of arcs.
use Rattle.std.proofs.Common.{◌≡◌, ◌⊎◌, inl, inr, Bool, ℕ, zero, suc, ◌+◌, ◌*◌, ◌^◌, ◌<◌, [], ◌∷◌, ◌++◌, map, length, Option, Some, None, ap, ap₂, sym, refl, ◌∙◌, arith, length-append}
use Rattle.std.proofs.Common.{ℤ, pos, ◌+ℤ◌, ◌-ℤ◌, ◌*ℤ◌}
use Rattle.std.proofs.lemmas.Bool.{cases_Bool}
use Rattle.std.proofs.lemmas.Int.{ints}
use Rattle.std.proofs.lemmas.List.{length-map}
use Rattle.std.specs.List.{All}
use Rattle.std.proofs.lemmas.List.Elements.{All-weaker}
use Rattle.std.proofs.lemmas.Option.{IfSome_then}
use Rattle.std.proofs.Math.Nat.{pow-suc}
use Rattle.exact.proofs.Ring.{mul_assoc_z, mul_left_comm_z, mul_mul_comm_z, add-mul_z}
use Rattle.exact.proofs.Rounding.{meets_lem}
use Rattle.exact.specs.Fraction.{Fraction, round}
use Rattle.exact.specs.Rounding.{IsRounded}
use Rattle.exact.specs.declared.spot.Spot.{Spot}
use Rattle.directions.specs.Directions.{square_of}
use Rattle.curves.specs.Arcs.{between, middle, place_at, is_far, circle_through, places_before}
use Rattle.curves.specs.Bounds.{IsNotZero}
use Rattle.curves.specs.Laws.{reach_x, reach_y, IsPlaceOn, IsOnCircle, ArcPlacesAreOnCircle, ArcsEndAtLast}
use Rattle.curves.specs.Vectors.{dot}
use Rattle.curves.specs.declared.circle.Circle.{Circle}
use Rattle.curves.proofs.Aboves.{between_above, through_above}
use Rattle.curves.proofs.VectorLemmas.{dot_self, square_above}

-- the square of a vector that is a multiple of d
squares_is : (dx dy s : ℤ) → (dx *ℤ s) *ℤ (dx *ℤ s) +ℤ (dy *ℤ s) *ℤ (dy *ℤ s) ≡ (dx *ℤ dx +ℤ dy *ℤ dy) *ℤ (s *ℤ s)
squares_is dx dy s =
    ap₂ (λ (x y : ℤ). x +ℤ y) (mul_mul_comm_z dx s dx s) (mul_mul_comm_z dy s dy s)
    ∙ sym (add-mul_z (dx *ℤ dx) (dy *ℤ dy) (s *ℤ s))

-- its dot product with the way to the centre
along_is : (vx vy dx dy s : ℤ) → vx *ℤ (dx *ℤ s) +ℤ vy *ℤ (dy *ℤ s) ≡ (vx *ℤ dx +ℤ vy *ℤ dy) *ℤ s
along_is vx vy dx dy s =
    ap₂ (λ (x y : ℤ). x +ℤ y) (sym (mul_assoc_z vx dx s)) (sym (mul_assoc_z vy dy s))
    ∙ sym (add-mul_z (vx *ℤ dx) (vy *ℤ dy) s)

five_hundred : (z : ℤ) → pos 256 *ℤ (pos 2 *ℤ z) ≡ pos 512 *ℤ z
five_hundred z = omega (arith, ints)

multiples_are : (q : ℕ) (w : ℤ) → pos 256 *ℤ (pos q *ℤ (pos 2 *ℤ w)) ≡ pos (2 * (256 * q)) *ℤ w
multiples_are q w =
    let e : 512 * q ≡ 2 * (256 * q) = omega arith in
    ap (λ (z : ℤ). pos 256 *ℤ z) (mul_left_comm_z (pos q) (pos 2) w)
    ∙ five_hundred (pos q *ℤ w)
    ∙ sym (mul_assoc_z (pos 512) (pos q) w)
    ∙ ap (λ (n : ℕ). pos n *ℤ w) e

on_circle : (circle : Circle) (d : Spot) → IsOnCircle circle (256 * square_of d) (reach_x circle d).over (reach_y circle d).over
on_circle circle d =
    let q : ℕ = square_of d in
    let s : ℤ = pos 2 *ℤ dot circle.centre d in
    let w : ℤ = dot circle.centre d *ℤ s in
    ap (λ (z : ℤ). pos 256 *ℤ z) (squares_is d.x d.y s)
    ∙ ap₂ (λ (x y : ℤ). pos 256 *ℤ (x *ℤ y)) (dot_self d) (mul_assoc_z (pos 2) (dot circle.centre d) s)
    ∙ multiples_are q w
    ∙ ap (λ (z : ℤ). pos (2 * (256 * q)) *ℤ z) (sym (along_is circle.centre.x circle.centre.y d.x d.y s))

way_back : (a z : ℤ) → (a +ℤ z) -ℤ a ≡ z
way_back a z = omega (arith, ints)

from_start : (a : ℤ) (f : Fraction) → 0 < f.under → IsRounded f ((a +ℤ round f) -ℤ a)
from_start a f h = rw (way_back a (round f)) (meets_lem f h)

each_place : (circle : Circle) (d : Spot) → IsNotZero d → IsPlaceOn circle d
unfolding place_at
each_place circle d h =
    let s = square_above d h in
    let u : 0 < 256 * square_of d = omega (arith, s) in
    record {
      on_circle = on_circle circle d;
      x = from_start circle.start.x (reach_x circle d) u;
      y = from_start circle.start.y (reach_y circle d) u;
    }

all_places : (circle : Circle) → IsNotZero circle.first
    → All (IsPlaceOn circle) (between circle.clockwise 6 circle.first circle.last)
all_places circle h =
    All-weaker IsNotZero (IsPlaceOn circle) (each_place circle) (between circle.clockwise 6 circle.first circle.last)
    (between_above circle.clockwise 6 circle.first circle.last h)

pub arc_places_are_on_circle_lem : ArcPlacesAreOnCircle
arc_places_are_on_circle_lem = record {
  each = each_place;
  all = λ a b c. IfSome_then (circle_through a b c) {P = λ circle. IsNotZero circle.first}
      {Q = λ circle. All (IsPlaceOn circle) (between circle.clockwise 6 circle.first circle.last)}
      (through_above a b c) all_places;
}

-- k middles between all neighbours make 2^k - 1 directions
length-between : (clockwise : Bool) (k : ℕ) (p q : Spot) → length (between clockwise k p q) + 1 ≡ 2 ^ k
unfolding between
length-between clockwise zero p q = refl
length-between clockwise (suc k) p q =
    let m = middle clockwise p q in
    let e = length-append (between clockwise k p m) (m ∷ between clockwise k m q) in
    let f = length-between clockwise k p m in
    let g = length-between clockwise k m q in
    let h = pow-suc 2 k in
    omega (arith, e, f, g, h)

count_lem : (b c : Spot) (o : Option Circle) → let n : ℕ = length (places_before b o ++ (c ∷ [])) in (n ≡ 1) ⊎ ((n ≡ 2) ⊎ (n ≡ 64))
count_lem b c None = inl refl
count_lem b c (Some circle) = elim (cases_Bool (is_far circle)) [
  | inl e ↦ rw e (inr (inl refl))
  | inr e ↦ (let ds = between circle.clockwise 6 circle.first circle.last in
      let f = length-append (map (place_at circle) ds) (c ∷ []) in
      let g = length-map ds (place_at circle) in
      let h = length-between circle.clockwise 6 circle.first circle.last in
      rw e (inr (inr (omega (arith, f, g, h)))))
]

pub arcs_end_at_last_lem : ArcsEndAtLast
arcs_end_at_last_lem = record {
  ends = λ a b c. record { before = places_before b (circle_through a b c); is = refl };
  count = λ a b c. count_lem b c (circle_through a b c);
}
