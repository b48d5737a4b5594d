use Rattle.std.proofs.Common.{◌≡◌}
use Rattle.line_types.specs.Left.{repeated_left, IsRepeated, steps_left}
use Rattle.line_types.proofs.repeated.Repeated.next.Given as goal

abbrev pub invariant-gaps : goal.invariant-gaps
invariant-gaps l = record { sound : IsRepeated l.self; same : repeated_left l.self ≡ repeated_left l.fn.self }

abbrev pub decreases-gaps : goal.decreases-gaps
decreases-gaps l = steps_left l.self
