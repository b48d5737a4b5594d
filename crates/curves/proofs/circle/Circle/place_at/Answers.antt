use Rattle.std.proofs.Common.{◌≡◌, ◌*◌, ◌^◌, ◌≤◌, ◌<◌, ap, ap₂, refl, ◌∙◌, arith, ℤ, pos, nat_abs, ◌+ℤ◌, ◌*ℤ◌, FitsSigned}
use mir.Syntax.{w128}
use Rattle.directions.specs.Bounds.{IsWithin}
use Rattle.directions.specs.Directions.{square_of}
use Rattle.exact.proofs.Fit.{back_128}
use Rattle.exact.specs.Fraction.{round, quotient}
use Rattle.exact.specs.declared.spot.Spot.{Spot}
use Rattle.curves.specs.Arcs.{place_at}
use Rattle.curves.specs.Bounds.{IsNotZero}
use Rattle.curves.specs.Vectors.{dot}
use Rattle.curves.specs.declared.circle.Circle.{Circle}
use Rattle.curves.proofs.Places.{near_x, near_y}
use Rattle.curves.proofs.Products.{multiple, t}
use Rattle.curves.proofs.VectorLemmas.{dot_within, square_within, square_above}
use Rattle.curves.proofs.circle.Circle.place_at.Goals as goal

-- the numbers that the place is computed from
record IsKnown (v d : Spot) (l s : ℤ) : Type 0 where
  along : t (pos 2 *ℤ t l) ≡ pos 2 *ℤ dot v d
  along_in : nat_abs (pos 2 *ℤ dot v d) ≤ 2 ^ 72
  along_fits : FitsSigned w128 (pos 2 *ℤ t l)
  under : t (pos 256 *ℤ t s) ≡ pos (256 * square_of d)
  under_in : 256 * square_of d ≤ 2 ^ 70
  x : t d.x ≡ d.x
  y : t d.y ≡ d.y

known : (v d : Spot) (l s : ℤ) → IsWithin (2 ^ 40) v → IsWithin (2 ^ 30) d → l ≡ dot v d → s ≡ pos (square_of d) → IsKnown v d l s
known v d l s p q e f =
    let m = dot_within v d (2 ^ 40) (2 ^ 30) p q in
    let n : nat_abs l ≤ 2 ^ 71 = rw e m in
    let a = multiple 2 (2 ^ 71) l (omega arith) n (omega arith) in
    let i : square_of d ≤ 2 ^ 61 = square_within d (2 ^ 30) q in
    let j : nat_abs s ≤ 2 ^ 61 = rw f i in
    let b = multiple 256 (2 ^ 61) s (omega arith) j (omega arith) in
    let g : nat_abs (pos 2 *ℤ l) ≤ 2 ^ 72 = omega (arith, a.size, n) in
    record {
      along = a.back ∙ ap (λ (z : ℤ). pos 2 *ℤ z) e;
      along_in = rw e at g;
      along_fits = a.fits;
      under = b.back ∙ ap (λ (z : ℤ). pos 256 *ℤ z) f;
      under_in = omega (arith, i);
      x = back_128 d.x (omega (arith, q.x_in));
      y = back_128 d.y (omega (arith, q.y_in));
    }

pub overflow_mul-along : goal.overflow_mul-along
overflow_mul-along c =
    let n : nat_abs c.dot-along.result ≤ 2 ^ 71 = rw c.dot-along.ensures (dot_within c.args.self.now.centre c.vector_of-d.result (2 ^ 40) (2 ^ 30) c.requires.centre_in c.vector_of-d.ensures.within) in
    let a = multiple 2 (2 ^ 71) c.dot-along.result (omega arith) n (omega arith) in
    a.fits

pub moved-requires-clause-along_in : goal.moved-requires-clause-along_in
moved-requires-clause-along_in c =
    let k = known c.args.self.now.centre c.vector_of-d.result c.dot-along.result c.square-under.result c.requires.centre_in c.vector_of-d.ensures.within c.dot-along.ensures c.square-under.ensures in
    rw k.along k.along_in

pub moved-requires-clause-under_in : goal.moved-requires-clause-under_in
moved-requires-clause-under_in c =
    let k = known c.args.self.now.centre c.vector_of-d.result c.dot-along.result c.square-under.result c.requires.centre_in c.vector_of-d.ensures.within c.dot-along.ensures c.square-under.ensures in
    rw k.under k.under_in

-- the divisor is above 0
above : (d e : Spot) → d ≡ e → IsNotZero e → 0 < 256 * square_of d
above d e p h = let s = square_above d (rw p h) in omega (arith, s)

pub moved-requires-clause-under_above : goal.moved-requires-clause-under_above
moved-requires-clause-under_above c =
    let k = known c.args.self.now.centre c.vector_of-d.result c.dot-along.result c.square-under.result c.requires.centre_in c.vector_of-d.ensures.within c.dot-along.ensures c.square-under.ensures in
    rw k.under (above c.vector_of-d.result c.args.direction c.vector_of-d.ensures.value c.requires.above)

pub moved-requires-clause-near : goal.moved-requires-clause-near
moved-requires-clause-near c =
    let k = known c.args.self.now.centre c.vector_of-d.result c.dot-along.result c.square-under.result c.requires.centre_in c.vector_of-d.ensures.within c.dot-along.ensures c.square-under.ensures in
    rw (k.along, k.under, k.x) (near_x c.args.self.now.centre c.vector_of-d.result c.requires.centre_in)

pub moved-requires-2-clause-along_in : goal.moved-requires-2-clause-along_in
moved-requires-2-clause-along_in c =
    let k = known c.args.self.now.centre c.vector_of-d.result c.dot-along.result c.square-under.result c.requires.centre_in c.vector_of-d.ensures.within c.dot-along.ensures c.square-under.ensures in
    rw k.along k.along_in

pub moved-requires-2-clause-under_in : goal.moved-requires-2-clause-under_in
moved-requires-2-clause-under_in c =
    let k = known c.args.self.now.centre c.vector_of-d.result c.dot-along.result c.square-under.result c.requires.centre_in c.vector_of-d.ensures.within c.dot-along.ensures c.square-under.ensures in
    rw k.under k.under_in

pub moved-requires-2-clause-under_above : goal.moved-requires-2-clause-under_above
moved-requires-2-clause-under_above c =
    let k = known c.args.self.now.centre c.vector_of-d.result c.dot-along.result c.square-under.result c.requires.centre_in c.vector_of-d.ensures.within c.dot-along.ensures c.square-under.ensures in
    rw k.under (above c.vector_of-d.result c.args.direction c.vector_of-d.ensures.value c.requires.above)

pub moved-requires-2-clause-near : goal.moved-requires-2-clause-near
moved-requires-2-clause-near c =
    let k = known c.args.self.now.centre c.vector_of-d.result c.dot-along.result c.square-under.result c.requires.centre_in c.vector_of-d.ensures.within c.dot-along.ensures c.square-under.ensures in
    rw (k.along, k.under, k.y) (near_y c.args.self.now.centre c.vector_of-d.result c.requires.centre_in)

abbrev vector : ℤ → ℤ → Spot
vector x y = record { x = x; y = y }

place_is : (circle : Circle) (d : Spot)
    → vector (circle.start.x +ℤ round (quotient (d.x *ℤ (pos 2 *ℤ dot circle.centre d)) (pos (256 * square_of d))))
    (circle.start.y +ℤ round (quotient (d.y *ℤ (pos 2 *ℤ dot circle.centre d)) (pos (256 * square_of d))))
    ≡ place_at circle d
unfolding place_at
place_is circle d = refl

pub returns-clause-value : goal.returns-clause-value
returns-clause-value c =
    let circle = c.args.self.now in
    let d = c.vector_of-d.result in
    let k = known circle.centre d c.dot-along.result c.square-under.result c.requires.centre_in c.vector_of-d.ensures.within c.dot-along.ensures c.square-under.ensures in
    let sx = back_128 circle.start.x (omega (arith, c.requires.start_in.x_in)) in
    let sy = back_128 circle.start.y (omega (arith, c.requires.start_in.y_in)) in
    let x = rw (k.along, k.under, k.x, sx) at c.moved.ensures.value in
    let y = rw (k.along, k.under, k.y, sy) at c.moved-2.ensures.value in
    ap₂ vector
    (back_128 c.moved.result (omega (arith, c.moved.ensures.most)) ∙ x)
    (back_128 c.moved-2.result (omega (arith, c.moved-2.ensures.most)) ∙ y)
    ∙ place_is circle d
    ∙ ap (place_at circle) c.vector_of-d.ensures.value
