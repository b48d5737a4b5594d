use Rattle.std.proofs.Common.{◌≡◌, ◌∷◌, drop}
use Rattle.line_types.specs.LineTypes.{line_shape}
use Rattle.hpgl_plot.specs.Bounds.{IsInRange}
use Rattle.full_plot.specs.Machine.{seen}
use Rattle.full_plot.specs.Lines.{drawn_along, shape_in}
use Rattle.full_plot.proofs.plotter.FullPlotter.dash_along.Given as goal

-- the lines that are left come to all of them
abbrev pub invariant-loop-place : goal.invariant-loop-place
invariant-loop-place l = record {
  shape : line_shape l.line_type ≡ shape_in (seen l.self);
  from_in : IsInRange l.self.plotter.range l.from;
  same : drawn_along (seen l.self) l.draws (l.from ∷ drop l.place-index l.places) ≡ drawn_along (seen l.fn.self) l.draws (l.fn.start ∷ l.places);
}
