use Rattle.std.proofs.Common.{rules, ◌≡◌, ◌≤◌, ◌^◌, ℤ, ◌∙◌, ap, pos, nat_abs, ◌-ℤ◌, ◌*ℤ◌, ◌<ℤ◌, FitsSigned, arith, to_z, of_z}
use mir.Syntax.{w128}
use Rattle.std.proofs.lemmas.Int.{ints, to_z-of_z}
use Rattle.exact.specs.Fraction.{round}
use Rattle.exact.proofs.Fit.{product_within}
use Rattle.plot_frame.specs.Bounds.{IsLine}
use Rattle.plot_frame.specs.declared.axis.Axis.{Axis}
use Rattle.plot_frame.proofs.Near.{near_by_back}
use Rattle.plot_frame.proofs.Turned.{quotient_turned}
use Rattle.plot_frame.proofs.axis.Axis.coordinate.Goals as goal

-- each number on the way is read back from its bits, since it fits them
record AreRead (axis : Axis) (q : ℤ) : Type 0 where
  place : to_z w128 (of_z w128 q) ≡ q
  slope : to_z w128 (of_z w128 axis.slope) ≡ axis.slope
  offset : to_z w128 (of_z w128 axis.offset) ≡ axis.offset
  under : to_z w128 (of_z w128 axis.under) ≡ axis.under
  product : to_z w128 (of_z w128 (q *ℤ axis.under)) ≡ q *ℤ axis.under
  over : to_z w128 (of_z w128 (q *ℤ axis.under -ℤ axis.offset)) ≡ q *ℤ axis.under -ℤ axis.offset
  turned_over : to_z w128 (of_z w128 (pos 0 -ℤ (q *ℤ axis.under -ℤ axis.offset))) ≡ pos 0 -ℤ (q *ℤ axis.under -ℤ axis.offset)
  turned_slope : to_z w128 (of_z w128 (pos 0 -ℤ axis.slope)) ≡ pos 0 -ℤ axis.slope
  small : nat_abs (q *ℤ axis.under -ℤ axis.offset) ≤ 2 ^ 105

are_read : (axis : Axis) (q : ℤ) → IsLine axis → nat_abs q ≤ 2 ^ 28 → AreRead axis q
are_read axis q l near =
    let p = product_within q axis.under _ _ near l.under_in in
    let over = q *ℤ axis.under -ℤ axis.offset in
    let small : nat_abs over ≤ 2 ^ 105 = omega (arith, ints) in
    record {
      place = to_z-of_z w128 q (omega (arith, ints));
      slope = to_z-of_z w128 axis.slope (omega (arith, ints));
      offset = to_z-of_z w128 axis.offset (omega (arith, ints));
      under = to_z-of_z w128 axis.under (omega (arith, ints));
      product = to_z-of_z w128 (q *ℤ axis.under) (omega (arith, ints));
      over = to_z-of_z w128 over (omega (arith, ints));
      turned_over = to_z-of_z w128 (pos 0 -ℤ over) (omega (arith, ints));
      turned_slope = to_z-of_z w128 (pos 0 -ℤ axis.slope) (omega (arith, ints));
      small = small;
    }

pub rounded-requires-clause-a_in : goal.rounded-requires-clause-a_in
rounded-requires-clause-a_in c =
    let k = are_read c.args.self.now c.args.q c.requires.line c.requires.q_in in
    simp (k.place, k.offset, k.under, k.product, k.over, k.turned_over) (omega (arith, ints, k.small))

pub rounded-requires-else-self-lt0-clause-a_in : goal.rounded-requires-else-self-lt0-clause-a_in
rounded-requires-else-self-lt0-clause-a_in c =
    let k = are_read c.args.self.now c.args.q c.requires.line c.requires.q_in in
    simp (k.place, k.offset, k.under, k.product, k.over) (omega (arith, ints, k.small))

pub returns-then-self-lt0 : goal.returns-then-self-lt0
returns-then-self-lt0 c =
    let axis = c.args.self.now in
    let q = c.args.q in
    let k = are_read axis q c.requires.line c.requires.q_in in
    let fits : FitsSigned w128 c.rounded.result = search rules in
    let falls : axis.slope <ℤ pos 0 = omega (arith, ints, k.slope) in
    let turned = simp (k.place, k.slope, k.offset, k.under, k.product, k.over, k.turned_over, k.turned_slope) at c.rounded.ensures in
    let value = turned ∙ ap round (quotient_turned (q *ℤ axis.under -ℤ axis.offset) axis.slope falls) in
    record {
      value = simp to_z-of_z value;
      near = simp to_z-of_z (rw value (near_by_back axis q c.requires.line c.requires.q_in));
    }

pub returns-else-self-lt0 : goal.returns-else-self-lt0
returns-else-self-lt0 c =
    let k = are_read c.args.self.now c.args.q c.requires.line c.requires.q_in in
    let fits : FitsSigned w128 c.rounded-else-self-lt0.result = search rules in
    let value = simp (k.place, k.slope, k.offset, k.under, k.product, k.over) at c.rounded-else-self-lt0.ensures in
    record {
      value = simp to_z-of_z value;
      near = simp to_z-of_z (rw value (near_by_back c.args.self.now c.args.q c.requires.line c.requires.q_in));
    }
