use Rattle.std.proofs.Common.{rules, arith, ◌≤◌, ◌^◌, ◌*ℤ◌, nat_abs, pos, FitsSigned}
use mir.Syntax.{w32, w128}
use Rattle.std.proofs.lemmas.Int.{ints, to_z-of_z}
use Rattle.exact.proofs.Fit.{product_within}
use Rattle.stick_font.proofs.Shares.{round_in}
use Rattle.stick_font.proofs.size.long_share.Goals as goal

pub returns-clause-value : goal.returns-clause-value
returns-clause-value c =
    let count = c.args.count in
    let size = c.args.size in
    let h = c.requires.count_in in
    let fs : FitsSigned w32 size = c.ranges.size in
    let fc : FitsSigned w128 count = omega (arith, ints) in
    let fw : FitsSigned w128 size = omega (arith, ints) in
    let p = product_within count size (2 ^ 72) (2 ^ 31) h (omega (arith, ints)) in
    let fp : FitsSigned w128 (count *ℤ size) = omega (arith, ints) in
    let fn : FitsSigned w128 (pos c.args.parts) = omega (arith, ints) in
    let fr : FitsSigned w128 c.rounded.result = search rules in
    let e = simp to_z-of_z at c.from.ensures in
    let r = simp to_z-of_z at (rw (e, c.from-2.ensures) at c.rounded.ensures) in
    simp to_z-of_z r

pub returns-clause-most : goal.returns-clause-most
returns-clause-most c =
    let count = c.args.count in
    let size = c.args.size in
    let h = c.requires.count_in in
    let fs : FitsSigned w32 size = c.ranges.size in
    let fc : FitsSigned w128 count = omega (arith, ints) in
    let fw : FitsSigned w128 size = omega (arith, ints) in
    let p : nat_abs (count *ℤ size) ≤ 2 ^ 103 = product_within count size (2 ^ 72) (2 ^ 31) h (omega (arith, ints)) in
    let fp : FitsSigned w128 (count *ℤ size) = omega (arith, ints) in
    let fn : FitsSigned w128 (pos c.args.parts) = omega (arith, ints) in
    let fr : FitsSigned w128 c.rounded.result = search rules in
    let e = simp to_z-of_z at c.from.ensures in
    let r = simp to_z-of_z at (rw (e, c.from-2.ensures) at c.rounded.ensures) in
    let q = round_in (count *ℤ size) c.args.parts (2 ^ 103) c.requires.parts_in p in
    simp to_z-of_z (rw r (omega (arith, q)))
