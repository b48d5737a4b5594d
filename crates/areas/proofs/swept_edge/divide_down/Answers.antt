use Rattle.std.proofs.Common.{◌-ℤ◌, ◌*ℤ◌, arith, rules, FitsSigned}
use mir.Syntax.{w64}
use Rattle.std.proofs.lemmas.Int.{ints, to_z-of_z}
use Rattle.areas.proofs.SweptEdges.{division}
use Rattle.areas.proofs.swept_edge.divide_down.Goals as goal

pub overflow_mul-result : goal.overflow_mul-result
overflow_mul-result c =
    let fa : FitsSigned w64 c.args.a = search rules in
    let fb : FitsSigned w64 c.args.b = search rules in
    let times = c.div_euclid-times.result in
    let ft : FitsSigned w64 times = search rules in
    let d = division c.args.a c.args.b times c.requires.above (simp to_z-of_z at c.div_euclid-times.ensures) in
    simp to_z-of_z (omega (arith, ints, d.0, d.1, c.requires.within, c.requires.below))

pub overflow_sub-result : goal.overflow_sub-result
overflow_sub-result c =
    let fa : FitsSigned w64 c.args.a = search rules in
    let fb : FitsSigned w64 c.args.b = search rules in
    let times = c.div_euclid-times.result in
    let ft : FitsSigned w64 times = search rules in
    let d = division c.args.a c.args.b times c.requires.above (simp to_z-of_z at c.div_euclid-times.ensures) in
    let fm : FitsSigned w64 (times *ℤ c.args.b) = omega (arith, ints, d.0, d.1, c.requires.within, c.requires.below) in
    simp to_z-of_z (omega (arith, ints, d.0, d.1, c.requires.within, c.requires.below))

pub returns-clause-is : goal.returns-clause-is
returns-clause-is c =
    let fa : FitsSigned w64 c.args.a = search rules in
    let fb : FitsSigned w64 c.args.b = search rules in
    let times = c.div_euclid-times.result in
    let ft : FitsSigned w64 times = search rules in
    let d = division c.args.a c.args.b times c.requires.above (simp to_z-of_z at c.div_euclid-times.ensures) in
    let fm : FitsSigned w64 (times *ℤ c.args.b) = omega (arith, ints, d.0, d.1, c.requires.within, c.requires.below) in
    let fr : FitsSigned w64 (c.args.a -ℤ times *ℤ c.args.b) = omega (arith, ints, d.0, d.1, c.requires.within, c.requires.below) in
    simp to_z-of_z (omega (arith, ints))

pub returns-clause-low : goal.returns-clause-low
returns-clause-low c =
    let fa : FitsSigned w64 c.args.a = search rules in
    let fb : FitsSigned w64 c.args.b = search rules in
    let times = c.div_euclid-times.result in
    let ft : FitsSigned w64 times = search rules in
    let d = division c.args.a c.args.b times c.requires.above (simp to_z-of_z at c.div_euclid-times.ensures) in
    let fm : FitsSigned w64 (times *ℤ c.args.b) = omega (arith, ints, d.0, d.1, c.requires.within, c.requires.below) in
    let fr : FitsSigned w64 (c.args.a -ℤ times *ℤ c.args.b) = omega (arith, ints, d.0, d.1, c.requires.within, c.requires.below) in
    simp to_z-of_z (omega (arith, ints, d.0))

pub returns-clause-high : goal.returns-clause-high
returns-clause-high c =
    let fa : FitsSigned w64 c.args.a = search rules in
    let fb : FitsSigned w64 c.args.b = search rules in
    let times = c.div_euclid-times.result in
    let ft : FitsSigned w64 times = search rules in
    let d = division c.args.a c.args.b times c.requires.above (simp to_z-of_z at c.div_euclid-times.ensures) in
    let fm : FitsSigned w64 (times *ℤ c.args.b) = omega (arith, ints, d.0, d.1, c.requires.within, c.requires.below) in
    let fr : FitsSigned w64 (c.args.a -ℤ times *ℤ c.args.b) = omega (arith, ints, d.0, d.1, c.requires.within, c.requires.below) in
    simp to_z-of_z (omega (arith, ints, d.1))
