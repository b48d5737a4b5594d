use Rattle.std.proofs.Common.{◌≡◌, rules, arith, ◌*ℤ◌, pos, FitsSigned}
use mir.Syntax.{w64, w128}
use Rattle.std.proofs.lemmas.Int.{ints, to_z-of_z}
use Rattle.stick_font.specs.Labels as labels
use Rattle.lettering.proofs.Sizes.{share_in}
use Rattle.lettering.proofs.share.long_share.Goals as goal
use Rattle.lettering.proofs.share.long_share.Goals.{After-rounded}

is_share : (c : After-rounded) → c.rounded.result ≡ labels.share c.args.count c.args.size c.args.parts
is_share c =
    let count = c.args.count in
    let size = c.args.size in
    let r = c.requires in
    let k = share_in count size c.args.parts r.count_in r.size_in r.parts_above r.enough in
    let m = k.product_in in
    let fs : FitsSigned w64 size = c.ranges.size in
    let fw : FitsSigned w128 size = omega (arith, ints) in
    let fc : FitsSigned w128 count = omega (arith, ints) in
    let fp : FitsSigned w128 (count *ℤ size) = omega (arith, ints, m) in
    let fn : FitsSigned w128 (pos c.args.parts) = omega (arith, ints) in
    let e = simp to_z-of_z at c.from.ensures in
    simp to_z-of_z at (rw (e, c.from-2.ensures) at c.rounded.ensures)

pub returns-clause-value : goal.returns-clause-value
returns-clause-value c =
    let fr : FitsSigned w128 c.rounded.result = search rules in
    simp to_z-of_z (is_share c)

pub returns-clause-most : goal.returns-clause-most
returns-clause-most c =
    let r = c.requires in
    let k = share_in c.args.count c.args.size c.args.parts r.count_in r.size_in r.parts_above r.enough in
    let fr : FitsSigned w128 c.rounded.result = search rules in
    simp to_z-of_z (rw (is_share c) k.most)
