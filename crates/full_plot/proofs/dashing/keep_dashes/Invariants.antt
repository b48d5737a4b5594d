use Rattle.std.proofs.Common.{◌≡◌, All, length, map}
use Rattle.hpgl_plot.specs.Machine.{seen, with_strokes}
use Rattle.full_plot.specs.Dashing.{dash_of, IsDash}
use Rattle.full_plot.proofs.dashing.keep_dashes.Given as goal

-- the strokes of the dashes that are left come to those of all
abbrev pub invariant-dashes : goal.invariant-dashes
invariant-dashes l = record {
  inside : All IsDash l.rest;
  same : with_strokes (seen l.plotter) l.plotter.state (map (dash_of l.line) l.rest) ≡ with_strokes (seen l.fn.plotter) l.fn.plotter.state (map (dash_of l.line) l.fn.dashes);
}

abbrev pub decreases-dashes : goal.decreases-dashes
decreases-dashes l = length l.rest
