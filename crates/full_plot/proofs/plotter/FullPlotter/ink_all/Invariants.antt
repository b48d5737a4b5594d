use Rattle.std.proofs.Common.{◌≡◌, drop, map}
use Rattle.full_plot.specs.Fills.{edge_span, over_spans}
use Rattle.full_plot.specs.declared.fills.Ink.TheVariants.{Width}
use Rattle.full_plot.specs.Machine.{seen}
use Rattle.full_plot.proofs.plotter.FullPlotter.ink_all.Given as goal

-- the edges that are left come to all of them
abbrev pub invariant-loop-edge : goal.invariant-loop-edge
invariant-loop-edge l =
    over_spans (Width 0) (seen l.self) (map edge_span (drop l.edge-index l.edges))
    ≡ over_spans (Width 0) (seen l.fn.self) (map edge_span l.fn.edges)
