use Rattle.std.proofs.Common.{◌≡◌, length}
use Rattle.plot_settings.specs.Meanings.{entry_steps}
use Rattle.full_plot.specs.Items.{as_core}
use Rattle.full_plot.specs.Machine.{seen, run}
use Rattle.full_plot.proofs.plotter.FullPlotter.follow_entries.Given as goal

-- what is left of the entries comes to what all of them come to
abbrev pub invariant-entries : goal.invariant-entries
invariant-entries l = run (seen l.self) (as_core (entry_steps l.rest)) ≡ run (seen l.fn.self) (as_core (entry_steps l.fn.entries))

abbrev pub decreases-entries : goal.decreases-entries
decreases-entries l = length l.rest
