use Rattle.std.proofs.Common.{◌≡◌, ◌≤◌, ◌^◌, arith, nat_abs, FitsSigned}
use mir.Syntax.{w64, w128}
use Rattle.std.proofs.lemmas.Int.{ints, to_z-of_z}
use Rattle.full_settings.specs.Letters as letters
use Rattle.full_settings.proofs.Shares.{share_in}
use Rattle.full_settings.proofs.letters.grains_of_share.Goals as goal
use Rattle.full_settings.proofs.letters.grains_of_share.Goals.{After-rounded}

is_share : (c : After-rounded) → c.rounded.result ≡ letters.grains_of_share c.args.distance c.args.percent
is_share c =
    let k = share_in c.args.distance c.args.percent c.requires.distance_in c.requires.percent_in in
    let sd = c.ranges.distance in
    let sp = c.ranges.percent in
    let fd = k.distance_fits in
    let fp = k.percent_fits in
    let ff = k.first_fits in
    let fm = k.product_fits in
    let e = simp to_z-of_z at c.from.ensures in
    let f = simp to_z-of_z at c.from-2.ensures in
    simp to_z-of_z at (rw (e, f) at c.rounded.ensures)

size_in : (c : After-rounded) → nat_abs c.rounded.result ≤ 2 ^ 40
size_in c =
    let k = share_in c.args.distance c.args.percent c.requires.distance_in c.requires.percent_in in
    rw (is_share c) k.most

pub overflow_cast-result : goal.overflow_cast-result
overflow_cast-result c =
    let n = size_in c in
    let f : FitsSigned w128 c.rounded.result = omega (arith, ints, n) in
    simp to_z-of_z (omega (arith, ints, n))

pub returns-clause-value : goal.returns-clause-value
returns-clause-value c =
    let n = size_in c in
    let f : FitsSigned w128 c.rounded.result = omega (arith, ints, n) in
    let g : FitsSigned w64 c.rounded.result = omega (arith, ints, n) in
    simp to_z-of_z (is_share c)

pub returns-clause-most : goal.returns-clause-most
returns-clause-most c =
    let n = size_in c in
    let f : FitsSigned w128 c.rounded.result = omega (arith, ints, n) in
    let g : FitsSigned w64 c.rounded.result = omega (arith, ints, n) in
    simp to_z-of_z n
