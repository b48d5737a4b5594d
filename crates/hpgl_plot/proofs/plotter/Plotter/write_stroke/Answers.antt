use Rattle.std.proofs.Common.{subst, true, List}
use Rattle.exact.specs.declared.spot.Spot.{Spot}
use Rattle.hpgl_plot.specs.Machine.{seen, travelled, Runs}
use Rattle.hpgl_plot.proofs.Letters.{stroke_is}
use Rattle.hpgl_plot.proofs.plotter.Plotter.write_stroke.Goals as goal

pub returns : goal.returns
returns c =
    let w = seen c.args.self.now in
    subst (λ (places : List Spot). Runs (travelled w true places) (seen c.travel_to.new.self) c.travel_to.result)
    (stroke_is w.state c.args.stroke c.point_place-from.result c.point_place-to.result c.point_place-from.ensures c.point_place-to.ensures)
    c.travel_to.ensures
