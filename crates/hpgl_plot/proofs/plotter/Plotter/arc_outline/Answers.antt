use Rattle.std.proofs.Common.{◌∙◌, ◌∷◌, ap, sym, List}
use Rattle.exact.specs.declared.spot.Spot.{Spot}
use Rattle.hpgl_plot.specs.Machine.{seen}
use Rattle.hpgl_plot.specs.Paths.{along}
use Rattle.hpgl_plot.proofs.Curves.{arc_path_is}
use Rattle.hpgl_plot.proofs.plotter.Plotter.arc_outline.Goals as goal

pub returns-clause-path : goal.returns-clause-path
returns-clause-path c =
    let w = seen c.args.self.now in
    let s = w.state in
    let end = c.last_end-end.result in
    arc_path_is w.page s c.args.is_relative c.args.arc c.arc_curve-curve.result end c.arc_curve-curve.ensures.value c.last_end-end.ensures
    ∙ ap (λ (places : List Spot). along (s.place ∷ places) s.is_down end) (sym c.in_ok-places.ensures.places)
