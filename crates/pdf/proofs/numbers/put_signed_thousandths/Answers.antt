use Rattle.std.proofs.Common.{◌≡◌, nat_abs, ap, rules}
use Rattle.std.proofs.lemmas.Int.{to_z-of_z}
use mir.Syntax.{w64}
use mir.Val.{SFits}
use Rattle.pdf.specs.Numbers.{thousandths}
use Rattle.pdf.proofs.Contained.{fills_as, ◌next◌}
use Rattle.pdf.proofs.numbers.put_signed_thousandths.Goals as goal

-- the number is the one that was passed
pub returns : goal.returns
returns g c =
    let fits : SFits w64 c.args.number = search rules in
    let sign = simp to_z-of_z at c.put_sign.ensures.fills in
    let size : c.unsigned_abs.result ≡ nat_abs c.args.number = search rules in
    record { fills = sign next fills_as c.put_thousandths.ensures.fills (ap thousandths size) }
