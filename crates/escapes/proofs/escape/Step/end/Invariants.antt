use Rattle.std.proofs.Common.{◌≡◌, ◌≤◌, length}
use Rattle.escapes.specs.Views.{all_of}
use Rattle.escapes.proofs.escape.Step.end.Given as goal

abbrev pub invariant-commands : goal.invariant-commands
invariant-commands l = ((all_of l.last).1 ≡ (all_of l.fn.self).1) × (length l.last.rest.now ≤ length l.fn.self.rest.now)

abbrev pub decreases-commands : goal.decreases-commands
decreases-commands l = length l.last.rest.now
