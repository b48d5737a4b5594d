use Rattle.std.proofs.Common.{◌≡◌, length, map, true}
use Rattle.hpgl_plot.specs.Machine.{seen, travelled_all}
use Rattle.hpgl_plot.proofs.Travels.{IsKept}
use Rattle.full_plot.specs.Texts.{line_at}
use Rattle.full_plot.proofs.ink.ink.Given as goal

-- the strokes that are left come to what all of them come to
abbrev pub invariant-strokes : goal.invariant-strokes
invariant-strokes l = record {
  kept : IsKept (seen l.fn.plotter) (seen l.plotter);
  same : travelled_all (seen l.plotter) true (map (line_at l.start) l.rest) ≡ travelled_all (seen l.fn.plotter) true (map (line_at l.start) l.fn.strokes);
}

abbrev pub decreases-strokes : goal.decreases-strokes
decreases-strokes l = length l.rest
