use Rattle.std.proofs.Common.{◌≡◌, ◌^◌, ◌≤◌, ap, arith, nat_abs, ℤ, ◌+ℤ◌, ◌*ℤ◌, FitsSigned}
use mir.Syntax.{w128}
use Rattle.std.proofs.lemmas.Int.{ints, to_z-of_z}
use Rattle.exact.proofs.Fit.{product_within}
use Rattle.exact.specs.Fraction.{round, quotient}
use Rattle.curves.proofs.VectorLemmas.{divided_within}
use Rattle.curves.proofs.circle.moved.Goals as goal
use Rattle.curves.proofs.circle.moved.Goals.{After-divided}

-- how far the coordinate moves
record IsKnown (c : After-divided) : Type 0 where
  value : c.divided.result ≡ round (quotient (c.args.d *ℤ c.args.along) c.args.under)
  most : nat_abs c.divided.result ≤ 2 ^ 34

known : (c : After-divided) → IsKnown c
known c =
    let p = product_within c.args.d c.args.along (2 ^ 30) (2 ^ 72) c.requires.d_in c.requires.along_in in
    let d : FitsSigned w128 c.args.d = c.ranges.d in
    let a : FitsSigned w128 c.args.along = c.ranges.along in
    let u : FitsSigned w128 c.args.under = c.ranges.under in
    let f : FitsSigned w128 (c.args.d *ℤ c.args.along) = omega (arith, ints, p) in
    let e = simp to_z-of_z at c.divided.ensures in
    record { value = e; most = rw e (divided_within (c.args.d *ℤ c.args.along) c.args.under (2 ^ 34) c.requires.under_above c.requires.near) }

pub returns-clause-value : goal.returns-clause-value
returns-clause-value c =
    let k = known c in
    let m = k.most in
    let h = c.requires.start_in in
    let s : FitsSigned w128 c.args.start = c.ranges.start in
    let r : FitsSigned w128 c.divided.result = omega (arith, ints) in
    let f : FitsSigned w128 (c.args.start +ℤ c.divided.result) = omega (arith, ints) in
    simp to_z-of_z (ap (λ (z : ℤ). c.args.start +ℤ z) k.value)

pub returns-clause-most : goal.returns-clause-most
returns-clause-most c =
    let k = known c in
    let m = k.most in
    let h = c.requires.start_in in
    let s : FitsSigned w128 c.args.start = c.ranges.start in
    let r : FitsSigned w128 c.divided.result = omega (arith, ints) in
    let f : FitsSigned w128 (c.args.start +ℤ c.divided.result) = omega (arith, ints) in
    simp to_z-of_z (omega (arith, ints))

pub overflow_mul-d : goal.overflow_mul-d
overflow_mul-d c =
    let p = product_within c.args.d c.args.along (2 ^ 30) (2 ^ 72) c.requires.d_in c.requires.along_in in
    let d : FitsSigned w128 c.args.d = c.ranges.d in
    let a : FitsSigned w128 c.args.along = c.ranges.along in
    simp to_z-of_z (omega (arith, ints, p))

pub divided-requires-clause-a_in : goal.divided-requires-clause-a_in
divided-requires-clause-a_in c =
    let p = product_within c.args.d c.args.along (2 ^ 30) (2 ^ 72) c.requires.d_in c.requires.along_in in
    let d : FitsSigned w128 c.args.d = c.ranges.d in
    let a : FitsSigned w128 c.args.along = c.ranges.along in
    let f : FitsSigned w128 (c.args.d *ℤ c.args.along) = omega (arith, ints, p) in
    simp to_z-of_z (omega (arith, p))

pub overflow_add-result : goal.overflow_add-result
overflow_add-result c =
    let k = known c in
    let m = k.most in
    let h = c.requires.start_in in
    let s : FitsSigned w128 c.args.start = c.ranges.start in
    let r : FitsSigned w128 c.divided.result = omega (arith, ints) in
    simp to_z-of_z (omega (arith, ints))
