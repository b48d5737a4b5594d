use Rattle.std.proofs.Common.{rules, ◌≤◌, ◌^◌, sym, subst, ◌*ℤ◌, nat_abs, FitsSigned}
use mir.Syntax.{w64, w128}
use Rattle.std.proofs.lemmas.Int.{to_z-of_z}
use Rattle.plot_frame.proofs.Near.{near_to_place}
use Rattle.exact.specs.declared.spot.Spot.{Spot}
use Rattle.hpgl_plot.specs.Machine.{seen}
use Rattle.hpgl_plot.proofs.Travels.{AreCorners, edge_path_is}
use Rattle.hpgl_plot.proofs.plotter.Plotter.corners.Goals as goal

pub place_of-above-requires-clause-x_near : goal.place_of-above-requires-clause-x_near
place_of-above-requires-clause-x_near c =
    let p = c.args.self.now in
    let a = p.axes.x in
    let f2 : FitsSigned w128 c.target_of-target.result.y = search rules in
    let f3 : FitsSigned w128 p.state.coordinates.x = search rules in
    let e = simp to_z-of_z at c.spot_at-2.ensures in
    let n = near_to_place a p.state.coordinates.x p.sound.framed.lines.x p.sound.x_near in
    subst (λ (u : Spot). nat_abs (a.slope *ℤ u.x) ≤ 2 ^ 118) (sym e) n

pub returns : goal.returns
returns c =
    let w = seen c.args.self.now in
    let s = w.state in
    let t = c.target_of-target.result in
    let f1 : FitsSigned w128 t.x = search rules in
    let f2 : FitsSigned w128 t.y = search rules in
    let f3 : FitsSigned w128 s.coordinates.x = search rules in
    let f4 : FitsSigned w128 s.coordinates.y = search rules in
    let fx : FitsSigned w64 c.args.corner.x = search rules in
    let fy : FitsSigned w64 c.args.corner.y = search rules in
    let a : AreCorners w.page s c.args.is_relative c.args.corner.x c.args.corner.y t c.spot_at.result c.spot_at-2.result c.place_of-beside.result c.place_of-opposite.result c.place_of-above.result = record {
      opposite = simp to_z-of_z at c.target_of-target.ensures.value;
      beside = simp to_z-of_z at c.spot_at.ensures;
      above = simp to_z-of_z at c.spot_at-2.ensures;
      b_is = c.place_of-beside.ensures;
      c_is = c.place_of-opposite.ensures;
      d_is = c.place_of-above.ensures;
    } in
    edge_path_is w.page s c.args.is_relative c.args.corner.x c.args.corner.y t c.spot_at.result c.spot_at-2.result c.place_of-beside.result c.place_of-opposite.result c.place_of-above.result a
