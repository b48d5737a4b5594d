use Rattle.std.proofs.Common.{◌≡◌, drop, map}
use Rattle.command_line.specs.Lines.{kind_in}
use Rattle.command_line.proofs.subcommands.kind_in.Given as goal

-- the rows that are left decide
abbrev pub invariant-loop-subcommand : goal.invariant-loop-subcommand
invariant-loop-subcommand l = kind_in (map (λ row. (row.0.now, row.1)) (drop l.subcommand-index l.rows)) l.name ≡ kind_in (map (λ row. (row.0.now, row.1)) l.rows) l.name
