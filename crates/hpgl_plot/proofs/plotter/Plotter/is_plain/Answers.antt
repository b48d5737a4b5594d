use Rattle.hpgl_plot.proofs.Starts.{plain_if_off}
use Rattle.hpgl_plot.proofs.plotter.Plotter.is_plain.Goals as goal

pub returns-then-is_unturned : goal.returns-then-is_unturned
returns-then-is_unturned c =
    plain_if_off c.is_off.result c.args.self.now.page c.args.self.now.state.frame c.if-is_unturned.ensures c.is_off.ensures
