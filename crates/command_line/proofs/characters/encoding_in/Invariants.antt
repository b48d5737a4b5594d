use Rattle.std.proofs.Common.{◌≡◌, drop, map}
use Rattle.command_line.specs.Characters.{encoding_in}
use Rattle.command_line.proofs.characters.encoding_in.Given as goal

-- the rows that are left decide
abbrev pub invariant-loop-known : goal.invariant-loop-known
invariant-loop-known l = encoding_in (map (λ row. (row.0.now, row.1)) (drop l.known-index l.rows)) l.name ≡ encoding_in (map (λ row. (row.0.now, row.1)) l.rows) l.name
