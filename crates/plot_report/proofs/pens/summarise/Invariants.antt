use Rattle.std.proofs.Common.{◌-◌, length}
use Rattle.areas.specs.Views.{areas_in}
use Rattle.plot_report.proofs.Walk.{HasPassed}
use Rattle.plot_report.proofs.pens.summarise.Given as goal

-- the shapes before this stroke have been passed
abbrev pub invariant-shapes : goal.invariant-shapes
invariant-shapes l = HasPassed l.of.strokes.now (areas_in l.of.areas) l.at l.summaries

abbrev pub decreases-shapes : goal.decreases-shapes
decreases-shapes l = length l.of.strokes.now - l.at
