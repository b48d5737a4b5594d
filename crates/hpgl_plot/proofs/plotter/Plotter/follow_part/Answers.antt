use Rattle.std.proofs.Common.{refl, not}
use Rattle.hpgl_plot.specs.Machine.{seen}
use Rattle.plot_settings.specs.Meanings.{Lower}
use Rattle.hpgl_plot.proofs.Travels.{kept_plain}
use Rattle.hpgl_plot.proofs.plotter.Plotter.follow_part.Goals as goal

pub go_by-requires : goal.go_by-requires
go_by-requires c = λ t. kept_plain (seen c.args.self.now) (seen c.set_down.new.self) (Lower (not c.in-Pair.up)) refl c.set_down.ensures (c.requires t)
