use Rattle.std.proofs.Common.{◌∙◌, ◌∷◌, [], ap, sym, arith, map}
use Rattle.std.proofs.lemmas.Option.{same_Some}
use Rattle.full_plot.specs.Lines.{drawn_in_type}
use Rattle.full_plot.specs.Machine.{seen}
use Rattle.full_plot.specs.Polygons.{drawn_edges, edge_line}
use Rattle.full_plot.specs.Worlds.{FullWorld}
use Rattle.full_plot.proofs.DrawnLines.{one_edge, same_shape}
use Rattle.full_plot.proofs.plotter.FullPlotter.draw_edges.Goals as goal

pub loop-edge-preserved : goal.loop-edge-preserved
loop-edge-preserved c =
    let w = seen c.loop-edge.self in
    let v = seen c.draw_edge.new.self in
    let e = c.edge-item.result in
    let s = (seen c.args.self.now).core.state in
    let i = c.loop-edge.invariant in
    record {
      state_is = ap (λ (u : FullWorld). u.core.state) (sym (same_Some _ _ c.in_ok-draw_edge.ensures)) ∙ i.state_is;
      shape = i.shape ∙ sym (same_shape w v (map (edge_line w.core.state) (drawn_edges (e ∷ []))) c.in_ok-draw_edge.ensures);
      same = one_edge w v (drawn_in_type (seen c.args.self.now) (map (edge_line s) (drawn_edges c.args.edges.now))) s c.args.edges.now c.loop-edge.edge-index e
          (omega (arith, c.loop-edge-test.true)) c.edge-item.is i.state_is c.in_ok-draw_edge.ensures i.same;
    }
