use Rattle.std.proofs.Common.{◌≡◌, ◌≤◌, ◌^◌, ◌+ℤ◌, ◌-ℤ◌, ◌*ℤ◌, pos, nat_abs, FitsSigned, arith, rules, refl}
use mir.Syntax.{w64}
use Rattle.std.proofs.lemmas.Int.{ints, to_z-of_z}
use Rattle.page_fit.proofs.around.reach_from.Goals as goal

pub returns-clause-value : goal.returns-clause-value
returns-clause-value c =
    let g = c.args.greatest in
    let s = c.args.side in
    let m = c.from.result in
    let gn : nat_abs g ≤ 2 ^ 28 = c.requires.greatest in
    let sn : nat_abs s ≤ 2 ^ 40 = c.requires.side in
    let is : m ≡ pos c.args.margin = c.from.ensures in
    let few : c.args.margin ≤ 4294967295 = search rules in
    let fg : FitsSigned w64 g = search rules in
    let fs : FitsSigned w64 s = search rules in
    let fm : FitsSigned w64 m = search rules in
    let fp : FitsSigned w64 (pos 640 *ℤ m) = omega (arith, ints) in
    let ft : FitsSigned w64 (pos 16 *ℤ s) = omega (arith, ints) in
    let fu : FitsSigned w64 (g +ℤ (pos 640 *ℤ m)) = omega (arith, ints) in
    let fd : FitsSigned w64 (g +ℤ (pos 640 *ℤ m) -ℤ (pos 16 *ℤ s)) = omega (arith, ints) in
    simp to_z-of_z (rw is refl)
