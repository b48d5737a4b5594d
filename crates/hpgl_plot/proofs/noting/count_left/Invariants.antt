use Rattle.std.proofs.Common.{◌≡◌, ◌+◌, length}
use Rattle.hpgl_plot.proofs.noting.count_left.Given as goal

-- those that were counted, and those that are left, are all
abbrev pub invariant-notes : goal.invariant-notes
invariant-notes l = l.count + length l.rest ≡ length l.fn.notes

abbrev pub decreases-notes : goal.decreases-notes
decreases-notes l = length l.rest
