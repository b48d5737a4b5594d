use Rattle.std.proofs.Common.{sym, subst, Option}
use Rattle.hpgl_plot.specs.Machine.{World, seen, Runs}
use Rattle.hpgl_plot.proofs.Travels.{go_is}
use Rattle.hpgl_plot.proofs.plotter.Plotter.go_by.Goals as goal

pub returns-then-is_plain : goal.returns-then-is_plain
returns-then-is_plain c =
    subst (λ (o : Option World). Runs o (seen c.come_to.new.self) c.come_to.result)
    (sym (go_is (seen c.args.self.now) c.args.is_relative c.args.x c.args.y c.plain_end-end.result c.plain_end-end.ensures))
    c.come_to.ensures

pub returns-else-is_plain : goal.returns-else-is_plain
returns-else-is_plain c =
    subst (λ (o : Option World). Runs o (seen c.come_to-else-is_plain.new.self) c.come_to-else-is_plain.result)
    (sym (go_is (seen c.args.self.now) c.args.is_relative c.args.x c.args.y c.end_of-end.result c.end_of-end.ensures))
    c.come_to-else-is_plain.ensures
