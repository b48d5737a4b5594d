use Rattle.std.proofs.Common.{◌≡◌, ◌^◌, ◌≤◌, ap, arith, ℤ, pos, neg_ℤ, nat_abs, ◌-ℤ◌, FitsSigned}
use mir.Syntax.{w128, w32}
use Rattle.std.proofs.lemmas.Int.{ints, to_z-of_z, fits_signed_from_abs}
use Rattle.polygons.proofs.Floors.{IsBelow, below_read}
use Rattle.polygons.proofs.ruling.Ruling.line_from.Goals as goal
use Rattle.polygons.proofs.ruling.Ruling.line_from.Goals.{After-div_euclid-below}

known : (c : After-div_euclid-below) → IsBelow c.args.self.now.lines c.args.height c.div_euclid-below.result
known c =
    below_read c.args.self.now.lines c.args.height c.from.result c.line_distance.result c.div_euclid-below.result c.requires
    c.line_distance.ensures.least c.line_distance.ensures.most c.from.ensures c.line_distance.ensures.value c.div_euclid-below.ensures

pub overflow_cast-result : goal.overflow_cast-result
overflow_cast-result c =
    let k = known c in
    let m = k.within in
    let f : FitsSigned w128 c.div_euclid-below.result = fits_signed_from_abs w128 c.div_euclid-below.result (omega arith) in
    simp to_z-of_z (fits_signed_from_abs w32 c.div_euclid-below.result (omega arith))

negated : (b : ℤ) → nat_abs b ≤ 2 ^ 25 → nat_abs (pos 0 -ℤ b) ≤ 2 ^ 25
negated b h = omega (arith, ints)

minus : (b : ℤ) → pos 0 -ℤ b ≡ neg_ℤ b
minus b = omega (arith, ints)

pub overflow_sub-result : goal.overflow_sub-result
overflow_sub-result c =
    let k = known c in
    let m = k.within in
    let f : FitsSigned w128 c.div_euclid-below.result = fits_signed_from_abs w128 c.div_euclid-below.result (omega arith) in
    let g : FitsSigned w32 c.div_euclid-below.result = fits_signed_from_abs w32 c.div_euclid-below.result (omega arith) in
    simp to_z-of_z (fits_signed_from_abs w32 (pos 0 -ℤ c.div_euclid-below.result) (omega (arith, negated c.div_euclid-below.result m)))

pub returns-clause-value : goal.returns-clause-value
returns-clause-value c =
    let k = known c in
    let m = k.within in
    let f : FitsSigned w128 c.div_euclid-below.result = fits_signed_from_abs w128 c.div_euclid-below.result (omega arith) in
    let g : FitsSigned w32 c.div_euclid-below.result = fits_signed_from_abs w32 c.div_euclid-below.result (omega arith) in
    let h : FitsSigned w32 (pos 0 -ℤ c.div_euclid-below.result) = fits_signed_from_abs w32 (pos 0 -ℤ c.div_euclid-below.result) (omega (arith, negated c.div_euclid-below.result m)) in
    simp to_z-of_z (rw (minus c.div_euclid-below.result) (ap neg_ℤ k.is))

pub returns-clause-most : goal.returns-clause-most
returns-clause-most c =
    let k = known c in
    let m = k.within in
    let f : FitsSigned w128 c.div_euclid-below.result = fits_signed_from_abs w128 c.div_euclid-below.result (omega arith) in
    let g : FitsSigned w32 c.div_euclid-below.result = fits_signed_from_abs w32 c.div_euclid-below.result (omega arith) in
    let h : FitsSigned w32 (pos 0 -ℤ c.div_euclid-below.result) = fits_signed_from_abs w32 (pos 0 -ℤ c.div_euclid-below.result) (omega (arith, negated c.div_euclid-below.result m)) in
    simp to_z-of_z (negated c.div_euclid-below.result m)
