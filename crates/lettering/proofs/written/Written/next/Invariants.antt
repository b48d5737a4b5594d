use Rattle.std.proofs.Common.{◌≡◌, length}
use Rattle.lettering.specs.Left.{IsWritten, written_left}
use Rattle.lettering.proofs.written.Written.next.Given as goal

abbrev pub invariant-letters : goal.invariant-letters
invariant-letters l = record { sound : IsWritten l.self; same : written_left l.self ≡ written_left l.fn.self }

abbrev pub decreases-letters : goal.decreases-letters
decreases-letters l = length l.self.rest
