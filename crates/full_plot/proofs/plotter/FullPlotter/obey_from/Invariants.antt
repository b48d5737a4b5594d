use Rattle.std.proofs.Common.{◌≡◌, map, None}
use Rattle.escapes.specs.Views.{all_of}
use Rattle.full_plot.specs.Commands.{asked_by, obeyed_from}
use Rattle.full_plot.specs.Machine.{seen}
use Rattle.full_plot.proofs.AskedCommands.{asked_next, bytes_next}
use Rattle.full_plot.proofs.plotter.FullPlotter.obey_from.Given as goal

-- the commands that are left come to what all of them come to
abbrev pub invariant-commands : goal.invariant-commands
invariant-commands l =
    obeyed_from l.noted (asked_next l.next) (seen l.self) ≡ obeyed_from None (map asked_by (all_of l.fn.first).0) (seen l.fn.self)

abbrev pub decreases-commands : goal.decreases-commands
decreases-commands l = bytes_next l.next
