use Rattle.full_plot.specs.Machine.{seen}
use Rattle.full_plot.proofs.Curved.{lined_keeps}
use Rattle.full_plot.proofs.LinesAlong.{kept_range}
use Rattle.full_plot.proofs.plotter.FullPlotter.go_over.Goals as goal

pub arrive-requires-clause-placed : goal.arrive-requires-clause-placed
arrive-requires-clause-placed c =
    let k = lined_keeps (seen c.args.self.now) (seen c.line_over.new.self) c.args.places.now c.in_ok-line_over.ensures in
    rw (k.page_is, k.state_is) c.requires.placed

pub arrive-requires-clause-place_in : goal.arrive-requires-clause-place_in
arrive-requires-clause-place_in c =
    let w = seen c.args.self.now in
    let v = seen c.line_over.new.self in
    kept_range w v c.args.end.place (lined_keeps w v c.args.places.now c.in_ok-line_over.ensures) c.requires.in_range
