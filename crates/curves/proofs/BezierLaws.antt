-- The laws of Bezier curves.
use Rattle.std.proofs.Common.{◌≡◌, ℕ, zero, suc, ◌+◌, ◌-◌, ◌*◌, ◌<◌, ◌≤◌, [], ◌∷◌, ◌++◌, map, ap, ap₂, ◌∙◌, arith}
use Rattle.std.proofs.Common.{ℤ, pos, ◌+ℤ◌, ◌*ℤ◌}
use Rattle.std.specs.List.{range_with_len}
use Rattle.std.proofs.lemmas.Bool.Decides.{nat_tests}
use Rattle.std.proofs.lemmas.Int.{ints}
use Rattle.std.proofs.lemmas.List.FromFn.{map-range_with_len_more}
use Rattle.std.proofs.lemmas.Nat.{mul-le}
use Rattle.exact.proofs.Between.{exactly}
use Rattle.exact.proofs.Rounding.{meets_lem}
use Rattle.exact.specs.declared.spot.Spot.{Spot}
use Rattle.curves.specs.Beziers.{greatest_bend, chords_of_bend, weighed, curve_coordinate, curve_place}
use Rattle.curves.specs.Laws.{reach, BezierPlacesAreRounded, EndsAt, BeziersEndAtLast}

cube_above : (n : ℕ) → 0 < n → 0 < n * n * n
cube_above n h =
    let p : 1 * 1 ≤ n * n = mul-le 1 1 n n h h in
    let q : 1 * 1 ≤ n * n * n = mul-le 1 1 (n * n) n (omega arith) h in
    omega (arith, q)

pub bezier_places_are_rounded_lem : BezierPlacesAreRounded
unfolding curve_place
bezier_places_are_rounded_lem = record {
  x = λ n k p0 p1 p2 p3 h. meets_lem (reach n k p0.x p1.x p2.x p3.x) (cube_above n h);
  y = λ n k p0 p1 p2 p3 h. meets_lem (reach n k p0.y p1.y p2.y p3.y) (cube_above n h);
}

only_last : (u v : ℕ) (a b c z : ℤ) → u ≡ 0 → v ≡ 0 → pos 0 *ℤ a +ℤ pos u *ℤ b +ℤ pos v *ℤ c +ℤ z ≡ z
only_last u v a b c z e f = rw (e, f) (omega (arith, ints))

-- after all parts only the last place has a weight
last_weight : (n : ℕ) (a b c d : ℤ) → weighed 0 n a b c d ≡ pos (n * n * n) *ℤ d
last_weight n a b c d = only_last (3 * 0 * 0 * n) (3 * 0 * n * n) a b c (pos (n * n * n) *ℤ d) (omega arith) (omega arith)

last_coordinate : (n : ℕ) (a b c d : ℤ) → 0 < n → curve_coordinate n n a b c d ≡ d
last_coordinate n a b c d h =
    let e : n - n ≡ 0 = omega arith in
    rw e (exactly (n * n * n) (weighed 0 n a b c d) d (cube_above n h) (last_weight n a b c d))

abbrev spot : ℤ → ℤ → Spot
spot x y = record { x = x; y = y }

last_place : (n : ℕ) (p0 p1 p2 p3 : Spot) → 0 < n → curve_place n n p0 p1 p2 p3 ≡ p3
unfolding curve_place
last_place n p0 p1 p2 p3 h =
    ap₂ spot (last_coordinate n p0.x p1.x p2.x p3.x h) (last_coordinate n p0.y p1.y p2.y p3.y h)

ends : (n : ℕ) (p0 p1 p2 p3 : Spot) → 0 < n → EndsAt (map (λ k. curve_place n k p0 p1 p2 p3) (range_with_len 1 n)) p3
ends zero p0 p1 p2 p3 h = absurd (omega arith)
ends (suc m) p0 p1 p2 p3 h =
    let f : ℕ → Spot = λ k. curve_place (suc m) k p0 p1 p2 p3 in
    let e : suc m ≡ m + 1 = omega arith in
    record {
      before = map f (range_with_len 1 m);
      is = ap (λ (n : ℕ). map f (range_with_len 1 n)) e ∙ map-range_with_len_more f 1 m (suc m) (omega arith)
          ∙ ap (λ (s : Spot). map f (range_with_len 1 m) ++ (s ∷ [])) (last_place (suc m) p0 p1 p2 p3 h);
    }

chords_above : (bend : ℕ) → 0 < chords_of_bend bend
unfolding chords_of_bend
chords_above bend = grind (arith, nat_tests)

pub beziers_end_at_last_lem : BeziersEndAtLast
beziers_end_at_last_lem p0 p1 p2 p3 =
    let n : ℕ = chords_of_bend (greatest_bend p0 p1 p2 p3) in
    let h : 0 < n = chords_above (greatest_bend p0 p1 p2 p3) in
    ends n p0 p1 p2 p3 h
