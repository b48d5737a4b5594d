use Rattle.std.proofs.Common.{rules, ◌≡◌, ◌∙◌, ◌≤◌, ◌^◌, pos, ◌+ℤ◌, ◌*ℤ◌, nat_abs, to_z, FitsSigned, arith}
use mir.Syntax.{w64}
use Rattle.std.proofs.lemmas.Int.{ints, to_z-of_z, to_z_pos}
use Rattle.exact.proofs.Fit.{product_within}
use Rattle.exact.proofs.Rounding.{round_by}
use Rattle.stick_font.specs.Labels.{share}
use Rattle.stick_font.proofs.Shares.{round_in}
use Rattle.lettering.proofs.share.short_share.Goals as goal

-- the product fits
product : (c : goal.After-div_euclid) → nat_abs (c.args.count *ℤ c.args.size) ≤ 2 ^ 60
product c = product_within c.args.count c.args.size (2 ^ 36) (2 ^ 24) c.requires.count_in c.requires.size_in

-- the quotient is the share
quotient_is : (c : goal.After-div_euclid) → c.div_euclid.result ≡ share c.args.count c.args.size c.args.parts
quotient_is c =
    let count = c.args.count in
    let size = c.args.size in
    let n = pos c.args.parts in
    let above = c.requires.parts_above in
    let most = c.requires.parts_in in
    let fp : FitsSigned w64 count = c.ranges.count in
    let fw : FitsSigned w64 size = c.ranges.size in
    let p = product c in
    let fz : FitsSigned w64 (count *ℤ size) = omega (arith, ints) in
    let ft : FitsSigned w64 (pos 2 *ℤ (count *ℤ size)) = omega (arith, ints) in
    let fn : FitsSigned w64 n = omega (arith, ints) in
    let fd : FitsSigned w64 (pos 2 *ℤ n) = omega (arith, ints) in
    let fo : FitsSigned w64 (pos 2 *ℤ (count *ℤ size) +ℤ n) = omega (arith, ints) in
    let q : to_z w64 c.args.parts ≡ n = to_z_pos w64 c.args.parts (omega arith) in
    let e = simp to_z-of_z at (rw q at c.div_euclid.ensures) in
    e ∙ round_by (count *ℤ size) n (omega (arith, ints))

pub returns-clause-value : goal.returns-clause-value
returns-clause-value c =
    let f : FitsSigned w64 c.div_euclid.result = search rules in
    simp to_z-of_z (quotient_is c)

pub returns-clause-most : goal.returns-clause-most
returns-clause-most c =
    let f : FitsSigned w64 c.div_euclid.result = search rules in
    let r = quotient_is c in
    simp to_z-of_z (rw r (round_in (c.args.count *ℤ c.args.size) c.args.parts (2 ^ 60) c.requires.parts_above (product c)))
