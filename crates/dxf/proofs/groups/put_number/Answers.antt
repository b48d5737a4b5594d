use Rattle.std.proofs.Common.{ℕ, ap, rules}
use Rattle.std.specs.Prelude.{int_lt, pos}
use Rattle.std.proofs.lemmas.Int.{to_z-of_z}
use mir.Syntax.{w128}
use mir.Val.{SFits}
use Rattle.pieces.proofs.Texts.{puts_as}
use Rattle.dxf.specs.Groups.{signed_group}
use Rattle.dxf.proofs.groups.put_number.Goals as goal

pub returns : goal.returns
returns g c =
    let fits : SFits w128 c.args.parts = search rules in
    let signed = simp to_z-of_z at c.put_signed.ensures.puts in
    record { puts = puts_as signed (ap (λ (n : ℕ). signed_group c.args.code (int_lt c.args.parts (pos 0)) n) (simp to_z-of_z at c.unsigned_abs.ensures.value)) }
