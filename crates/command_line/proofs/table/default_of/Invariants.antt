use Rattle.std.proofs.Common.{◌≡◌, drop, map}
use Rattle.command_line.specs.Options.{default_of}
use Rattle.command_line.proofs.table.default_of.Given as goal

-- the defaults that are left decide
abbrev pub invariant-loop-group : goal.invariant-loop-group
invariant-loop-group l = default_of l.kind (map (λ it. (it.0, it.1.now)) (drop l.group-index l.defaults)) ≡ default_of l.kind (map (λ it. (it.0, it.1.now)) l.defaults)
