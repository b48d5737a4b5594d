use Rattle.std.proofs.Common.{◌∷◌, Option, refl, subst, sym}
use Rattle.plot_settings.specs.Meanings.{Edge}
use Rattle.hpgl_plot.specs.Paths.{position}
use Rattle.full_plot.specs.Machine.{seen, Runs}
use Rattle.full_plot.specs.Worlds.{FullWorld}
use Rattle.full_plot.proofs.Curved.{edge_is}
use Rattle.full_plot.proofs.plotter.FullPlotter.edge.Goals as goal

pub returns : goal.returns
returns c =
    let w = seen c.args.self.now in
    let s = w.core.state in
    subst (λ (o : Option FullWorld). Runs o (seen c.draw_figure.new.self) c.draw_figure.result)
    (sym (edge_is w (Edge c.args.is_relative c.args.corner.x c.args.corner.y) (s.place ∷ c.corners-corners.result) (position s) c.corners-corners.ensures refl))
    c.draw_figure.ensures
