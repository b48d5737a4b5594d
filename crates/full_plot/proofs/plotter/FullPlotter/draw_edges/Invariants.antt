use Rattle.std.proofs.Common.{◌≡◌, drop, map}
use Rattle.line_types.specs.LineTypes.{line_shape}
use Rattle.full_plot.specs.Lines.{drawn_in_type, shape_in}
use Rattle.full_plot.specs.Machine.{seen}
use Rattle.full_plot.specs.Polygons.{drawn_edges, edge_line}
use Rattle.full_plot.proofs.plotter.FullPlotter.draw_edges.Given as goal

-- the edges that are left come to all of them
abbrev pub invariant-loop-edge : goal.invariant-loop-edge
invariant-loop-edge l = record {
  state_is : (seen l.self).core.state ≡ (seen l.fn.self).core.state;
  shape : line_shape l.line_type ≡ shape_in (seen l.self);
  same : drawn_in_type (seen l.self) (map (edge_line (seen l.fn.self).core.state) (drawn_edges (drop l.edge-index l.edges)))
      ≡ drawn_in_type (seen l.fn.self) (map (edge_line (seen l.fn.self).core.state) (drawn_edges l.fn.edges));
}
