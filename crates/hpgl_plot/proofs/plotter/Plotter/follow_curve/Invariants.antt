use Rattle.std.proofs.Common.{◌≡◌, ◌<◌}
use Rattle.hpgl_plot.specs.Paths.{curve_point, pen_at}
use Rattle.hpgl_plot.specs.Bounds.{IsInRange}
use Rattle.hpgl_plot.specs.Machine.{seen}
use Rattle.hpgl_plot.proofs.Curves.{Left}
use Rattle.hpgl_plot.proofs.Travels.{IsKept}
use Rattle.hpgl_plot.proofs.plotter.Plotter.follow_curve.Given as goal

-- what is left of the path comes to what all of it comes to, and `end` is the end of the last chord
abbrev pub invariant-loop-k : goal.invariant-loop-k
invariant-loop-k l = record {
  kept : IsKept (seen l.fn.self) (seen l.self);
  place_in : IsInRange l.self.range l.end.place;
  end_is : 0 < l.k → l.end ≡ pen_at l.fn.self.page l.fn.self.state.frame (curve_point l.curve l.k);
  same : Left l.fn.self.page l.fn.self.state.frame l.curve l.draws (seen l.self) l.end.place l.k (seen l.fn.self) l.fn.start;
}
