use Rattle.std.proofs.Common.{◌∷◌, []}
use Rattle.std.specs.Bool.{⊤}
use Rattle.hpgl_plot.specs.Machine as core
use Rattle.full_plot.specs.Lines.{drawn_along}
use Rattle.full_plot.specs.Machine.{seen}
use Rattle.full_plot.proofs.LinesAlong.{along_two_out, core_stopped}
use Rattle.full_plot.proofs.plotter.FullPlotter.dash_to.Goals as goal

pub returns-in_err-begin-clause-runs : goal.returns-in_err-begin-clause-runs
returns-in_err-begin-clause-runs c =
    let w = seen c.args.self.now in
    let a = c.args.from in
    let b = c.args.place in
    core_stopped ⊤ (core.travelled w.core c.args.draws (b ∷ [])) (drawn_along w c.args.draws (a ∷ (b ∷ []))) w.core _
    c.in_err-begin.field-0.0 c.from_residual.result (along_two_out w c.args.draws a b) (c.in_err-begin.ensures.runs c.args.draws) c.from_residual.ensures.1
