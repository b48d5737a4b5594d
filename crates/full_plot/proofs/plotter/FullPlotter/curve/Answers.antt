use Rattle.std.proofs.Common.{rules}
use Rattle.full_plot.specs.Machine.{seen}
use Rattle.full_plot.proofs.Curved.{curve_runs}
use Rattle.full_plot.proofs.plotter.FullPlotter.curve.Goals as goal

pub returns : goal.returns
returns c =
    curve_runs (seen c.args.self.now) (seen c.go_over.new.self) c.args.is_relative c.args.points c.in_ok-first.first c.in_ok-second.second c.in_ok-end.end c.as_slice.result.now c.go_over.result
    c.in_ok-first.ensures.value c.in_ok-second.ensures.value c.in_ok-end.ensures.value
    c.in_ok-first.ensures.in_range c.in_ok-second.ensures.in_range c.in_ok-end.ensures.in_range (search rules) c.go_over.ensures
