use Rattle.std.proofs.Common.{◌≡◌, ◌*◌, ◌^◌, ◌≤◌, arith, nat_abs, pos, ◌*ℤ◌, ap, ap₂, FitsSigned, ℕ}
use mir.Syntax.{w64}
use Rattle.std.proofs.lemmas.Int.{ints, to_z-of_z}
use Rattle.exact.proofs.Fit.{product_within}
use Rattle.stroke_raster.proofs.slope.slope_by.Goals as goal

pub returns : goal.returns
returns c =
    let a : nat_abs c.from.result ≤ 2 ^ 24 = rw c.from.ensures c.requires.width_in in
    let b : nat_abs c.from-2.result ≤ 2 ^ 30 = rw c.from-2.ensures c.requires.length_in in
    let p = product_within c.from.result c.from-2.result (2 ^ 24) (2 ^ 30) a b in
    let f : FitsSigned w64 c.from.result = omega (arith, ints, a) in
    let g : FitsSigned w64 c.from-2.result = omega (arith, ints, b) in
    let h : FitsSigned w64 (c.from.result *ℤ c.from-2.result) = omega (arith, ints, p) in
    let fy : FitsSigned w64 c.args.course.y = omega (arith, ints, c.requires.course_in.y) in
    let n = simp to_z-of_z at c.unsigned_abs.ensures.value in
    let m : c.from.result *ℤ c.from-2.result ≡ pos (c.args.width * c.args.length) = ap₂ ◌*ℤ◌ c.from.ensures c.from-2.ensures in
    let e = ap (λ (z : ℕ). 32512 * z) n in
    record {
      enough = c.requires.enough;
      most = simp to_z-of_z m;
      most_in = simp to_z-of_z (omega (arith, p));
      step = e;
      inverse = rw e c.requires.inverse;
    }
