use Rattle.std.proofs.Common.{FitsSigned, refl}
use mir.Syntax.{w64}
use Rattle.std.proofs.lemmas.Int.{to_z-of_z}
use Rattle.lettering.proofs.Sizes.{stepped_in}
use Rattle.lettering.proofs.share.stepped.Goals as goal

pub overflow_mul-result-2 : goal.overflow_mul-result-2
overflow_mul-result-2 c =
    let k = stepped_in c.args.parts c.args.step c.args.steps c.requires.parts_in c.requires.step_in c.requires.steps_in in
    let f0 : FitsSigned w64 c.args.step = c.ranges.step in
    let f1 = k.parts_fit in
    let f2 = k.step_fits in
    let f3 = k.steps_fit in
    let f4 = k.first_fits in
    let f5 = k.fits in
    let e = simp to_z-of_z at c.from-2.ensures in
    rw (c.from.ensures, e) (simp to_z-of_z f5)

pub returns-clause-value : goal.returns-clause-value
returns-clause-value c =
    let k = stepped_in c.args.parts c.args.step c.args.steps c.requires.parts_in c.requires.step_in c.requires.steps_in in
    let f0 : FitsSigned w64 c.args.step = c.ranges.step in
    let f1 = k.parts_fit in
    let f2 = k.step_fits in
    let f3 = k.steps_fit in
    let f4 = k.first_fits in
    let f5 = k.fits in
    let e = simp to_z-of_z at c.from-2.ensures in
    rw (c.from.ensures, e) (simp to_z-of_z refl)

pub returns-clause-most : goal.returns-clause-most
returns-clause-most c =
    let k = stepped_in c.args.parts c.args.step c.args.steps c.requires.parts_in c.requires.step_in c.requires.steps_in in
    let f0 : FitsSigned w64 c.args.step = c.ranges.step in
    let f1 = k.parts_fit in
    let f2 = k.step_fits in
    let f3 = k.steps_fit in
    let f4 = k.first_fits in
    let f5 = k.fits in
    let m = k.most in
    let e = simp to_z-of_z at c.from-2.ensures in
    rw (c.from.ensures, e) (simp to_z-of_z m)
