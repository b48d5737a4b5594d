use Rattle.std.proofs.Common.{◌∷◌, false}
use Rattle.hpgl_plot.specs.Machine as core
use Rattle.full_plot.specs.Machine.{seen}
use Rattle.full_plot.proofs.LinesAlong.{rest_far, travelled_in}
use Rattle.full_plot.proofs.plotter.FullPlotter.keep_figure.Goals as goal

pub put_figure-requires-clause-places_in : goal.put_figure-requires-clause-places_in
put_figure-requires-clause-places_in c =
    let w = seen c.args.self.now in
    let places = c.args.places.now in
    rest_far w.core.range c.args.start places c.args.self.now.plotter.sound.range_in (travelled_in w.core (core.seen c.travel.new.self) false (c.args.start ∷ places) c.in_ok-travel.ensures)
