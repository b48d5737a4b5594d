use Rattle.std.proofs.Common.{◌∙◌, sym}
use Rattle.std.specs.Bool.{⊤}
use Rattle.full_notes.specs.Contexts.{request_in}
use Rattle.full_plot.specs.Machine.{seen}
use Rattle.full_plot.proofs.FullRuns.{stopped, told_run}
use Rattle.full_plot.proofs.plotter.FullPlotter.obey_further.Goals as goal

pub returns-in_err-do_further-clause-runs : goal.returns-in_err-do_further-clause-runs
returns-in_err-do_further-clause-runs c =
    let w = seen c.args.self.now in
    let same = told_run w (request_in w.context c.args.further c.args.numbers.now) c.request_read-request.result c.args.numbers.now c.pass_request.new.self
    c.request_read-request.ensures.value c.pass_request.ensures in
    stopped ⊤ _ _ (seen c.do_further.new.self) _ c.in_err-do_further.field-0.0 c.from_residual.result (λ e. sym same ∙ e)
    c.in_err-do_further.ensures c.from_residual.ensures.1

pub returns-clause-runs : goal.returns-clause-runs
returns-clause-runs c =
    let w = seen c.args.self.now in
    sym (told_run w (request_in w.context c.args.further c.args.numbers.now) c.request_read-request.result c.args.numbers.now c.pass_request.new.self
    c.request_read-request.ensures.value c.pass_request.ensures)
    ∙ c.in_ok-do_further.ensures
