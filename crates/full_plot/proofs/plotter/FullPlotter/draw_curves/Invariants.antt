use Rattle.std.proofs.Common.{◌≡◌, length, map}
use Rattle.full_settings.specs.CurveParameters.{curve_points}
use Rattle.full_plot.specs.Machine.{seen, run, Curve}
use Rattle.full_plot.proofs.plotter.FullPlotter.draw_curves.Given as goal

-- what is left of the curves comes to what all of them come to
abbrev pub invariant-curves : goal.invariant-curves
invariant-curves l =
    run (seen l.self) (map (Curve l.is_relative) (curve_points l.rest))
    ≡ run (seen l.fn.self) (map (Curve l.fn.is_relative) (curve_points l.fn.numbers))

abbrev pub decreases-curves : goal.decreases-curves
decreases-curves l = length (curve_points l.rest)
