use Rattle.std.proofs.Common.{◌≡◌, length, map}
use Rattle.hpgl_plot.specs.Machine.{seen}
use Rattle.hpgl_plot.proofs.Travels.{IsKept}
use Rattle.full_plot.specs.Bold.{bold_lines}
use Rattle.full_plot.specs.Texts.{line_at}
use Rattle.full_plot.proofs.bold.ink_bold.Given as goal

-- the strokes that are left come to what all of them come to
abbrev pub invariant-strokes : goal.invariant-strokes
invariant-strokes l = record {
  kept : IsKept (seen l.fn.plotter) (seen l.plotter);
  same : bold_lines (seen l.plotter) (map (line_at l.start) l.rest) ≡ bold_lines (seen l.fn.plotter) (map (line_at l.start) l.fn.strokes);
}

abbrev pub decreases-strokes : goal.decreases-strokes
decreases-strokes l = length l.rest
