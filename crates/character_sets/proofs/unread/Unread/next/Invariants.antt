use Rattle.std.proofs.Common.{◌≡◌, length}
use Rattle.character_sets.specs.Left.{signs_left}
use Rattle.character_sets.proofs.unread.Unread.next.Given as goal

abbrev pub invariant-bytes : goal.invariant-bytes
invariant-bytes l = signs_left l.self ≡ signs_left l.fn.self

abbrev pub decreases-bytes : goal.decreases-bytes
decreases-bytes l = length l.self.rest.now
