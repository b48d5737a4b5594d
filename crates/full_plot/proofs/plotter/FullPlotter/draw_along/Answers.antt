use Rattle.std.proofs.Common.{◌∷◌, rules}
use Rattle.hpgl_plot.specs.Machine as core
use Rattle.full_plot.specs.Machine.{seen}
use Rattle.full_plot.proofs.LinesAlong.{solid_along_runs}
use Rattle.full_plot.proofs.plotter.FullPlotter.draw_along.Goals as goal

pub returns-then-is_solid : goal.returns-then-is_solid
returns-then-is_solid c =
    solid_along_runs (seen c.args.self.now) c.args.draws (c.args.start ∷ c.args.places.now) (core.seen c.travel.new.self) c.travel.result (search rules) c.travel.ensures
