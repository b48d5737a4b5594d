use Rattle.std.proofs.Common.{◌-ℤ◌, ◌*ℤ◌, FitsSigned, arith}
use mir.Syntax.{w64}
use Rattle.std.proofs.lemmas.Int.{ints, to_z-of_z}
use Rattle.exact.proofs.Fit.{product_within}
use Rattle.stroke_raster.proofs.ShortLemmas.{moved_over}
use Rattle.stroke_raster.proofs.scan.is_within.Goals as goal

pub returns : goal.returns
returns c =
    let p = product_within c.args.w.x c.args.w.x _ _ c.requires.w_in.x c.requires.w_in.x in
    let q = product_within c.args.w.y c.args.w.y _ _ c.requires.w_in.y c.requires.w_in.y in
    let fx : FitsSigned w64 c.args.w.x = omega (arith, ints, c.requires.w_in.x) in
    let fy : FitsSigned w64 c.args.w.y = omega (arith, ints, c.requires.w_in.y) in
    let fr : FitsSigned w64 c.args.reach = omega (arith, ints, c.requires.reach_in) in
    let fxx : FitsSigned w64 (c.args.w.x *ℤ c.args.w.x) = omega (arith, ints, p) in
    let fyy : FitsSigned w64 (c.args.w.y *ℤ c.args.w.y) = omega (arith, ints, q) in
    let fd : FitsSigned w64 (c.args.reach -ℤ c.args.w.y *ℤ c.args.w.y) = omega (arith, ints, q, c.requires.reach_in) in
    simp to_z-of_z (moved_over (c.args.w.x *ℤ c.args.w.x) (c.args.w.y *ℤ c.args.w.y) c.args.reach)
