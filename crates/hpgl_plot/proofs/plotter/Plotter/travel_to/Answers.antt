use Rattle.std.proofs.Common.{[], ◌∷◌}
use Rattle.hpgl_plot.specs.Machine.{seen, travelled}
use Rattle.hpgl_plot.proofs.Fed.{travelled_out}
use Rattle.hpgl_plot.proofs.Travels.{stopped}
use Rattle.hpgl_plot.proofs.plotter.Plotter.travel_to.Goals as goal

pub returns-in_err-begin : goal.returns-in_err-begin
returns-in_err-begin c =
    let w = seen c.args.self.now in
    let draws = c.args.draws in
    stopped (travelled w draws (c.args.start ∷ [])) _ w w c.in_err-begin.field-0.0 c.from_residual.result
    (travelled_out w draws c.args.start (c.args.place ∷ [])) (c.in_err-begin.ensures.runs draws) c.from_residual.ensures.1
