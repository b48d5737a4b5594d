use Rattle.std.proofs.Common.{refl}
use Rattle.std.proofs.lemmas.Int.{to_z-of_z}
use Rattle.lettering.proofs.Sizes.{slanted_in}
use Rattle.lettering.proofs.letter.slanted_parts.Goals as goal

pub returns-clause-value : goal.returns-clause-value
returns-clause-value c =
    let k = slanted_in c.args.steps c.args.slant c.requires.steps_in c.requires.slant_in in
    let f0 = k.steps_fit in
    let f1 = k.up_fits in
    let f2 = k.up_fits_too in
    let f3 = k.slant_fits in
    let f4 = k.slant_fits_too in
    let f5 = k.fits in
    let d = simp to_z-of_z at c.from.ensures in
    let e = simp to_z-of_z at c.from-2.ensures in
    rw (d, e) (simp to_z-of_z refl)

pub returns-clause-most : goal.returns-clause-most
returns-clause-most c =
    let k = slanted_in c.args.steps c.args.slant c.requires.steps_in c.requires.slant_in in
    let f0 = k.steps_fit in
    let f1 = k.up_fits in
    let f2 = k.up_fits_too in
    let f3 = k.slant_fits in
    let f4 = k.slant_fits_too in
    let f5 = k.fits in
    let m = k.most in
    let d = simp to_z-of_z at c.from.ensures in
    let e = simp to_z-of_z at c.from-2.ensures in
    rw (d, e) (simp to_z-of_z m)
