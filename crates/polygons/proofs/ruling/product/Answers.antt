use Rattle.std.proofs.Common.{◌^◌, ◌*ℤ◌, refl, FitsSigned, arith}
use mir.Syntax.{w64}
use Rattle.std.proofs.lemmas.Int.{ints, to_z-of_z}
use Rattle.exact.proofs.Fit.{product_within}
use Rattle.polygons.proofs.ruling.product.Goals as goal

pub overflow_mul-result : goal.overflow_mul-result
overflow_mul-result c =
    let a = c.ranges.sine in
    let b = c.ranges.distance in
    let m = product_within c.args.sine c.args.distance (10 ^ 7) (2 ^ 28) c.requires.sine_in c.requires.distance_in in
    simp to_z-of_z (omega (arith, ints, m))

pub returns-clause-value : goal.returns-clause-value
returns-clause-value c =
    let a = c.ranges.sine in
    let b = c.ranges.distance in
    let m = product_within c.args.sine c.args.distance (10 ^ 7) (2 ^ 28) c.requires.sine_in c.requires.distance_in in
    let f : FitsSigned w64 (c.args.sine *ℤ c.args.distance) = omega (arith, ints, m) in
    simp to_z-of_z refl

pub returns-clause-most : goal.returns-clause-most
returns-clause-most c =
    let a = c.ranges.sine in
    let b = c.ranges.distance in
    let m = product_within c.args.sine c.args.distance (10 ^ 7) (2 ^ 28) c.requires.sine_in c.requires.distance_in in
    let f : FitsSigned w64 (c.args.sine *ℤ c.args.distance) = omega (arith, ints, m) in
    simp to_z-of_z m
