use Rattle.std.proofs.Common.{◌≡◌, ◌≤◌, ap₂, arith, ℤ, pos, nat_abs, ◌-ℤ◌, ◌*ℤ◌, FitsSigned}
use mir.Syntax.{w64, w128}
use Rattle.std.proofs.lemmas.Int.{ints, to_z-of_z}
use Rattle.exact.specs.Fraction.{round, quotient}
use Rattle.full_settings.proofs.Shares.{page_part_in}
use Rattle.full_settings.proofs.page_points.side_part.Goals as goal
use Rattle.full_settings.proofs.page_points.side_part.Goals.{After-rounded, After-from-3}

is_part : (c : After-from-3) → c.rounded.result ≡ round (quotient (c.args.percent *ℤ pos c.args.side) (pos 100000000))
is_part c =
    let k = page_part_in c.args.percent c.args.side c.requires.percent_in c.requires.side_in in
    let sp = c.ranges.percent in
    let h = c.requires.side_in in
    let fp = k.percent_fits in
    let fm = k.product_fits in
    let fs : FitsSigned w128 (pos c.args.side) = omega (arith, ints, h) in
    let e = simp to_z-of_z at c.from.ensures in
    simp to_z-of_z at (rw (e, c.from-2.ensures) at c.rounded.ensures)

part_in : (c : After-from-3) → nat_abs c.rounded.result ≤ 5242880
part_in c =
    let k = page_part_in c.args.percent c.args.side c.requires.percent_in c.requires.side_in in
    rw (is_part c) k.most

-- the part, and the page's corner, in their types
record AreNumbers (c : After-from-3) : Type 0 where
  part_fits_128 : FitsSigned w128 c.rounded.result
  part_fits : FitsSigned w64 c.rounded.result
  corner_fits : FitsSigned w64 c.from-3.result
  difference_fits : FitsSigned w64 (c.rounded.result -ℤ c.from-3.result)
  most : nat_abs (c.rounded.result -ℤ c.from-3.result) ≤ 8388608

numbers : (c : After-from-3) → AreNumbers c
numbers c =
    let n = part_in c in
    let h = c.requires.before_in in
    let e = c.from-3.ensures in
    record {
      part_fits_128 = omega (arith, ints, n);
      part_fits = omega (arith, ints, n);
      corner_fits = omega (arith, ints, h, e);
      difference_fits = omega (arith, ints, n, h, e);
      most = omega (arith, ints, n, h, e);
    }

pub returns-clause-value : goal.returns-clause-value
returns-clause-value c =
    let k = numbers c in
    let a = k.part_fits_128 in
    let b = k.part_fits in
    let d = k.corner_fits in
    let f = k.difference_fits in
    simp to_z-of_z (ap₂ (λ (x y : ℤ). x -ℤ y) (is_part c) c.from-3.ensures)

pub returns-clause-most : goal.returns-clause-most
returns-clause-most c =
    let k = numbers c in
    let a = k.part_fits_128 in
    let b = k.part_fits in
    let d = k.corner_fits in
    let f = k.difference_fits in
    simp to_z-of_z k.most
