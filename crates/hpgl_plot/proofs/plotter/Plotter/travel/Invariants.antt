use Rattle.std.proofs.Common.{◌≡◌, ◌∷◌, drop}
use Rattle.hpgl_plot.specs.Bounds.{IsInRange}
use Rattle.hpgl_plot.specs.Machine.{seen, travelled}
use Rattle.hpgl_plot.proofs.plotter.Plotter.travel.Given as goal

-- what is left of the path comes to what all of it comes to
abbrev pub invariant-loop-place : goal.invariant-loop-place
invariant-loop-place l = record {
  from_in : IsInRange l.self.range l.from;
  same : travelled (seen l.self) l.draws (l.from ∷ drop l.place-index l.places) ≡ travelled (seen l.fn.self) l.draws (l.fn.start ∷ l.places);
}
