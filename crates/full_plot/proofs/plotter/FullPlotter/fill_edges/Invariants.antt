use Rattle.std.proofs.Common.{◌≡◌, length}
use Rattle.std.specs.List.{flat_map}
use Rattle.polygons.specs.Fills.{spans}
use Rattle.full_plot.specs.Fills.{over_spans}
use Rattle.full_plot.specs.Machine.{seen}
use Rattle.full_plot.proofs.plotter.FullPlotter.fill_edges.Given as goal

-- the lines that are left come to all of them
abbrev pub invariant-lines : goal.invariant-lines
invariant-lines l =
    over_spans l.ink (seen l.self) (flat_map (λ line. line) l.fill)
    ≡ over_spans l.fn.ink (seen l.fn.self) (spans l.fn.lines l.fn.rule l.fn.edges)

abbrev pub decreases-lines : goal.decreases-lines
decreases-lines l = length l.fill
