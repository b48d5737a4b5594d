use Rattle.std.proofs.Common.{◌≡◌, arith, ap, ℤ, pos, ◌+ℤ◌, ◌-ℤ◌, ◌*ℤ◌, FitsSigned}
use mir.Syntax.{w64, w128}
use Rattle.std.proofs.lemmas.Int.{ints, to_z-of_z}
use Rattle.lettering.proofs.Sizes.{IsBeside, beside_in}
use Rattle.lettering.proofs.corner.beside.Goals as goal
use Rattle.lettering.proofs.corner.beside.Goals.{After-from-2}

half_is : (c : After-from-2) → c.stepped.result ≡ pos 9 *ℤ c.args.step *ℤ (c.args.letters -ℤ pos 1)
half_is c =
    let n = c.requires.letters_in in
    let s : FitsSigned w64 c.args.step = c.ranges.step in
    let l : FitsSigned w64 c.args.letters = c.ranges.letters in
    let f : FitsSigned w128 c.args.letters = omega (arith, ints) in
    let g : FitsSigned w128 (c.args.letters -ℤ pos 1) = omega (arith, ints) in
    let e = simp to_z-of_z at c.from.ensures in
    simp to_z-of_z at (rw e at c.stepped.ensures.value)

half_in : (c : After-from-2) → IsBeside c.args.column c.stepped.result
half_in c =
    let n = c.requires.letters_in in
    let s : FitsSigned w64 c.args.step = c.ranges.step in
    let l : FitsSigned w64 c.args.letters = c.ranges.letters in
    let f : FitsSigned w128 c.args.letters = omega (arith, ints) in
    let g : FitsSigned w128 (c.args.letters -ℤ pos 1) = omega (arith, ints) in
    let e = simp to_z-of_z at c.from.ensures in
    beside_in c.args.column c.args.letters c.stepped.result c.requires.column_in n (simp to_z-of_z at (rw e at c.stepped.ensures.most))

pub overflow_mul-result : goal.overflow_mul-result
overflow_mul-result c =
    let k = half_in (goal.at.overflow_mul-result c).After-from-2 in
    let m = c.requires.column_in in
    let f0 : FitsSigned w128 (pos c.args.column) = omega (arith, ints) in
    let f1 = k.half_fits in
    let f2 = k.sum_fits in
    let f3 = k.fits in
    rw c.from-2.ensures (simp to_z-of_z f3)

pub returns-clause-value : goal.returns-clause-value
returns-clause-value c =
    let k = half_in c in
    let m = c.requires.column_in in
    let f0 : FitsSigned w128 (pos c.args.column) = omega (arith, ints) in
    let f1 = k.half_fits in
    let f2 = k.sum_fits in
    let f3 = k.fits in
    rw c.from-2.ensures (simp to_z-of_z (ap (λ (z : ℤ). pos c.args.column *ℤ (z +ℤ pos 6000000)) (half_is c)))

pub returns-clause-most : goal.returns-clause-most
returns-clause-most c =
    let k = half_in c in
    let m = c.requires.column_in in
    let f0 : FitsSigned w128 (pos c.args.column) = omega (arith, ints) in
    let f1 = k.half_fits in
    let f2 = k.sum_fits in
    let f3 = k.fits in
    let n = k.most in
    rw c.from-2.ensures (simp to_z-of_z n)
