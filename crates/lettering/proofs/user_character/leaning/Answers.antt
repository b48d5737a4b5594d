use Rattle.std.proofs.Common.{refl}
use Rattle.std.proofs.lemmas.Int.{to_z-of_z}
use Rattle.lettering.proofs.Sizes.{leaning_in}
use Rattle.lettering.proofs.user_character.leaning.Goals as goal

pub returns-clause-value : goal.returns-clause-value
returns-clause-value c =
    let k = leaning_in c.args.up c.args.slant c.requires.up_in c.requires.slant_in in
    let f0 = k.up_fits in
    let f1 = k.slant_fits in
    let f2 = k.slant_fits_too in
    let f3 = k.fits in
    let d = simp to_z-of_z at c.from.ensures in
    rw d (simp to_z-of_z refl)

pub returns-clause-most : goal.returns-clause-most
returns-clause-most c =
    let k = leaning_in c.args.up c.args.slant c.requires.up_in c.requires.slant_in in
    let f0 = k.up_fits in
    let f1 = k.slant_fits in
    let f2 = k.slant_fits_too in
    let f3 = k.fits in
    let m = k.most in
    let d = simp to_z-of_z at c.from.ensures in
    rw d (simp to_z-of_z m)
