use Rattle.std.proofs.Common.{◌≡◌, drop, map}
use Rattle.command_line.specs.Papers.{size_in}
use Rattle.command_line.proofs.papers.size_in.Given as goal

-- the rows that are left decide
abbrev pub invariant-loop-paper : goal.invariant-loop-paper
invariant-loop-paper l = size_in (map (λ row. (row.0.now, row.1)) (drop l.paper-index l.rows)) l.name ≡ size_in (map (λ row. (row.0.now, row.1)) l.rows) l.name
