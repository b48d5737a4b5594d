use Rattle.std.proofs.Common.{◌≡◌, length}
use Rattle.plot_settings.specs.Meanings.{moves}
use Rattle.full_plot.specs.Items.{as_core}
use Rattle.full_plot.specs.Machine.{seen, run}
use Rattle.full_plot.proofs.plotter.FullPlotter.follow.Given as goal

-- what is left of the moves comes to what all of them come to
abbrev pub invariant-pairs : goal.invariant-pairs
invariant-pairs l = run (seen l.self) (as_core (moves l.rest)) ≡ run (seen l.fn.self) (as_core (moves l.fn.numbers))

abbrev pub decreases-pairs : goal.decreases-pairs
decreases-pairs l = length l.rest
