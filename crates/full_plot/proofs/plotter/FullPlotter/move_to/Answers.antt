use Rattle.std.proofs.Common.{subst, Option}
use Rattle.full_plot.specs.Machine.{seen, Runs}
use Rattle.full_plot.specs.Worlds.{FullWorld}
use Rattle.full_plot.proofs.Curved.{move_is_go}
use Rattle.full_plot.proofs.plotter.FullPlotter.move_to.Goals as goal

pub returns : goal.returns
returns c =
    subst (λ (o : Option FullWorld). Runs o (seen c.go.new.self) c.go.result) (move_is_go (seen c.args.self.now) c.args.x c.args.y) c.go.ensures
