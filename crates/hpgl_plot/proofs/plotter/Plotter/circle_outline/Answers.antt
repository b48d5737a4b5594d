use Rattle.std.proofs.Common.{◌∙◌, ◌∷◌, ap, sym, true, List}
use Rattle.exact.specs.declared.spot.Spot.{Spot}
use Rattle.hpgl_plot.specs.Machine.{seen}
use Rattle.hpgl_plot.specs.Paths.{along, position}
use Rattle.hpgl_plot.proofs.Curves.{circle_path_is, first_right, first_above}
use Rattle.hpgl_plot.proofs.plotter.Plotter.circle_outline.Goals as goal

pub place_of-start-requires-clause-x_near : goal.place_of-start-requires-clause-x_near
place_of-start-requires-clause-x_near c =
    let p = c.args.self.now in
    first_right p.page p.state.frame p.axes c.circle_curve-curve.result p.sound.framed c.circle_curve-curve.ensures.curve

pub place_of-start-requires-clause-y_near : goal.place_of-start-requires-clause-y_near
place_of-start-requires-clause-y_near c =
    let p = c.args.self.now in
    first_above p.page p.state.frame p.axes c.circle_curve-curve.result p.sound.framed c.circle_curve-curve.ensures.curve

pub returns-clause-path : goal.returns-clause-path
returns-clause-path c =
    let w = seen c.args.self.now in
    let q = c.place_of-start.result in
    circle_path_is w.page w.state c.args.circle c.circle_curve-curve.result q c.circle_curve-curve.ensures.value c.place_of-start.ensures
    ∙ ap (λ (places : List Spot). along (q ∷ places) true (position w.state)) (sym c.in_ok-places.ensures.places)
