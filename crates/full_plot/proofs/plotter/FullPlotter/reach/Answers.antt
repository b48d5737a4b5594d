use Rattle.std.proofs.Common.{◌∷◌, false}
use Rattle.std.specs.Bool.{⊤}
use Rattle.hpgl_plot.specs.Machine as core
use Rattle.full_plot.specs.Machine.{seen}
use Rattle.full_plot.specs.Polygons.{reached}
use Rattle.full_plot.proofs.Curved.{reached_out}
use Rattle.full_plot.proofs.LinesAlong.{core_stopped, rest_far, travelled_in}
use Rattle.full_plot.proofs.plotter.FullPlotter.reach.Goals as goal

pub returns-in_err-travel : goal.returns-in_err-travel
returns-in_err-travel c =
    let w = seen c.args.self.now in
    let places = c.args.places.now in
    core_stopped ⊤ (core.travelled w.core false (w.core.state.place ∷ places)) (reached w places) (core.seen c.travel.new.self) _
    c.in_err-travel.field-0.0 c.from_residual.result (reached_out w places) c.in_err-travel.ensures c.from_residual.ensures.1

pub reach_places-requires : goal.reach_places-requires
reach_places-requires c =
    let w = seen c.args.self.now in
    let places = c.args.places.now in
    rest_far w.core.range w.core.state.place places c.args.self.now.plotter.sound.range_in (travelled_in w.core (core.seen c.travel.new.self) false (w.core.state.place ∷ places) c.in_ok-travel.ensures)
