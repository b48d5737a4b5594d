use Rattle.std.proofs.Common.{◌≡◌, ◌-◌, length}
use Rattle.hpgl_text.specs.declared.terminator.Terminator.{Terminator}
use Rattle.full_text.specs.Left.{left_from}
use Rattle.full_text.proofs.full_items.past_silence.Given as goal

abbrev pub invariant-silent : goal.invariant-silent
invariant-silent l = (terminator : Terminator) → left_from l.plot l.fn.language terminator l.fn.from ≡ left_from l.plot l.fn.language terminator l.at

abbrev pub decreases-silent : goal.decreases-silent
decreases-silent l = length l.plot - l.at
