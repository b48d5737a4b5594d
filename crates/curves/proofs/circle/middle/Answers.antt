use Rattle.std.proofs.Common.{◌≡◌, Bool, true, false, int_le, ◌*◌, ◌^◌, ◌≤◌, ◌∙◌, ap, ap₂, refl, arith, ℤ, pos, nat_abs, ◌≤ℤ◌, FitsSigned}
use mir.Syntax.{w128}
use Rattle.std.proofs.lemmas.Int.{ints, to_z-of_z, fits_signed_from_abs}
use Rattle.directions.specs.Bounds.{IsWithin}
use Rattle.exact.specs.declared.spot.Spot.{Spot}
use Rattle.curves.specs.Arcs.{middle}
use Rattle.curves.specs.Bounds.{IsNotZero}
use Rattle.curves.specs.Vectors.{way, dot, sum_of, turned_against, unit_of}
use Rattle.curves.proofs.Products.{read_sum, t}
use Rattle.curves.proofs.VectorLemmas.{sum_above, dot_within, turned_within}
use Rattle.curves.proofs.circle.middle.Goals as goal

-- the dot product, read back
dot_back : (p q : Spot) (d : ℤ) → IsWithin (2 ^ 30) p → IsWithin (2 ^ 30) q → d ≡ dot p q → t d ≡ dot p q
dot_back p q d h k e =
    let m : nat_abs d ≤ 2 * (2 ^ 30 * 2 ^ 30) = rw e (dot_within p q (2 ^ 30) (2 ^ 30) h k) in
    let f : FitsSigned w128 d = fits_signed_from_abs w128 d (omega (arith, m)) in
    to_z-of_z w128 d f ∙ e

middle_near : (clockwise : Bool) (p q : Spot) → int_le (pos 0) (dot p q) ≡ true → unit_of (sum_of p q) ≡ middle clockwise p q
unfolding middle
middle_near clockwise p q e = rw e refl

is_near : (clockwise : Bool) (p q r s v : Spot) → int_le (pos 0) (dot p q) ≡ true → v ≡ unit_of (sum_of p q) → p ≡ r → q ≡ s → v ≡ middle clockwise r s
is_near clockwise p q r s v e f g h = f ∙ middle_near clockwise p q e ∙ ap₂ (middle clockwise) g h

middle_wide : (clockwise : Bool) (p q : Spot) → int_le (pos 0) (dot p q) ≡ false → unit_of (turned_against clockwise (way p q)) ≡ middle clockwise p q
unfolding middle
middle_wide clockwise p q e = rw e refl

way_within : (p q : Spot) → IsWithin (2 ^ 30) p → IsWithin (2 ^ 30) q → IsWithin (2 ^ 120) (way p q)
way_within p q h k =
    let hx = h.x_in in
    let hy = h.y_in in
    let kx = k.x_in in
    let ky = k.y_in in
    record { x_in = omega (arith, ints); y_in = omega (arith, ints) }

pub unit_of-requires-clause-not_zero : goal.unit_of-requires-clause-not_zero
unit_of-requires-clause-not_zero c =
    let p = c.vector_of-p.result in
    let q = c.vector_of-q.result in
    let h = c.vector_of-p.ensures.within in
    let k = c.vector_of-q.ensures.within in
    let n : IsNotZero p = rw c.vector_of-p.ensures.value c.requires in
    let b = dot_back p q c.dot.result h k c.dot.ensures in
    let e = rw b at c.if-dot-ge0.true in
    let d : pos 0 ≤ℤ dot p q = omega (arith, ints, e) in
    let x = read_sum p.x q.x (omega (arith, h.x_in)) (omega (arith, k.x_in)) in
    let y = read_sum p.y q.y (omega (arith, h.y_in)) (omega (arith, k.y_in)) in
    rw (x, y) (sum_above p q n d)

pub unit_of-requires-else-dot-ge0-clause-v_in : goal.unit_of-requires-else-dot-ge0-clause-v_in
unit_of-requires-else-dot-ge0-clause-v_in c =
    let p = c.vector_of-p.result in
    let q = c.vector_of-q.result in
    let w = way_within p q c.vector_of-p.ensures.within c.vector_of-q.ensures.within in
    rw (c.turned_against.ensures, c.way.ensures) (turned_within c.args.clockwise (way p q) (2 ^ 120) w)

pub returns-then-dot-ge0-clause-value : goal.returns-then-dot-ge0-clause-value
returns-then-dot-ge0-clause-value c =
    let p = c.vector_of-p.result in
    let q = c.vector_of-q.result in
    let h = c.vector_of-p.ensures.within in
    let k = c.vector_of-q.ensures.within in
    let b = dot_back p q c.dot.result h k c.dot.ensures in
    let e = rw b at c.if-dot-ge0.true in
    let x = read_sum p.x q.x (omega (arith, h.x_in)) (omega (arith, k.x_in)) in
    let y = read_sum p.y q.y (omega (arith, h.y_in)) (omega (arith, k.y_in)) in
    let f = rw (x, y) at c.unit_of.ensures.value in
    is_near c.args.clockwise p q c.args.p c.args.q c.unit_of.result e f c.vector_of-p.ensures.value c.vector_of-q.ensures.value

pub returns-else-dot-ge0-clause-value : goal.returns-else-dot-ge0-clause-value
returns-else-dot-ge0-clause-value c =
    let p = c.vector_of-p.result in
    let q = c.vector_of-q.result in
    let b = dot_back p q c.dot.result c.vector_of-p.ensures.within c.vector_of-q.ensures.within c.dot.ensures in
    let e = rw b at c.if-dot-ge0.false in
    c.unit_of-else-dot-ge0.ensures.value ∙ ap unit_of (c.turned_against.ensures ∙ ap (turned_against c.args.clockwise) c.way.ensures)
    ∙ middle_wide c.args.clockwise p q e
    ∙ ap₂ (middle c.args.clockwise) c.vector_of-p.ensures.value c.vector_of-q.ensures.value
