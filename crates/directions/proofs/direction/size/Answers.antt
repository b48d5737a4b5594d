use Rattle.std.proofs.Common.{ℕ, pos, ◌+◌, ◌/◌, ◌^◌, ◌<◌, ◌∙◌, ap, arith}
use mir.Syntax.{w32}
use Rattle.std.proofs.lemmas.Int.{to_z_pos}
use Rattle.directions.proofs.Lengths.{root_most}
use Rattle.directions.proofs.direction.size.Goals as goal

pub returns-clause-value : goal.returns-clause-value
returns-clause-value c =
    let m = root_most c.args.square c.args.a c.root-root.result c.requires.above c.requires.square_in c.root-root.ensures.square_in in
    let h : (c.root-root.result + 1) / 2 < 2 ^ 31 = omega (arith, m) in
    to_z_pos w32 ((c.root-root.result + 1) / 2) h ∙ ap (λ (s : ℕ). pos ((s + 1) / 2)) c.root-root.ensures.value
