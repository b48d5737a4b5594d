use Rattle.std.proofs.Common.{rules}
use Rattle.std.proofs.lemmas.Int.{to_z-of_z}
use mir.Syntax.{w64}
use mir.Val.{SFits}
use Rattle.pdf.proofs.Contained.{◌next◌}
use Rattle.pdf.proofs.matrices.put_four.Goals as goal

-- each number is the one that was passed
pub returns : goal.returns
returns g c =
    let fits_a : SFits w64 c.args.a = search rules in
    let fits_b : SFits w64 c.args.b = search rules in
    let fits_c : SFits w64 c.args.c = search rules in
    let fits_d : SFits w64 c.args.d = search rules in
    let first = simp to_z-of_z at c.put_signed_thousandths.ensures.fills in
    let second = simp to_z-of_z at c.put_signed_thousandths-2.ensures.fills in
    let third = simp to_z-of_z at c.put_signed_thousandths-3.ensures.fills in
    let fourth = simp to_z-of_z at c.put_signed_thousandths-4.ensures.fills in
    record { fills = first next c.put.ensures.fills next second next c.put-2.ensures.fills next third next c.put-3.ensures.fills next fourth }
