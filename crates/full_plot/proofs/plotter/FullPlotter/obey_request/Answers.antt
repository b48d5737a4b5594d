use Rattle.std.proofs.Common.{◌≡◌, ◌∙◌, ap, sym, true, Some, None}
use Rattle.std.specs.Prelude.{⊤}
use Rattle.full_plot.specs.Commands.{after_request, gathered, then_asked, with_machine}
use Rattle.full_plot.specs.Machine.{seen}
use Rattle.full_plot.specs.Worlds.{Graphics}
use Rattle.full_plot.proofs.AfterRequests.{after_answer, after_far, after_much, far_by, machine_gathered, much_by, stopped_by}
use Rattle.full_plot.proofs.plotter.FullPlotter.obey_request.Goals as goal

pub returns-in_err-do_asked-in-Ok-clause-stopped : goal.returns-in_err-do_asked-in-Ok-clause-stopped
returns-in_err-do_asked-in-Ok-clause-stopped c =
    let w = seen c.args.self.now in
    let u = seen c.gather.new.self in
    let g = c.obey.new.self in
    let did = c.in-Ok.ensures.obeyed in
    let same : gathered (with_machine w g.machine) ≡ u = machine_gathered w u g did.1 c.in_ok-gather-in-Ok.ensures in
    stopped_by ⊤ (then_asked c.args.request u) (seen c.do_asked.new.self) c.in_err-do_asked-in-Ok.field-0.0 c.from_residual-in_err-do_asked-in-Ok.result
    (after_request (c.args.request, c.args.input.now) w ≡ None)
    (λ n. after_answer c.args.request c.args.input.now w g.machine c.in-Ok.answer None did.0 (ap (then_asked c.args.request) same ∙ n))
    c.in_err-do_asked-in-Ok.ensures c.from_residual-in_err-do_asked-in-Ok.ensures.1

pub returns-in_ok-do_asked-in-Ok-clause-done : goal.returns-in_ok-do_asked-in-Ok-clause-done
returns-in_ok-do_asked-in-Ok-clause-done c =
    let w = seen c.args.self.now in
    let u = seen c.gather.new.self in
    let g = c.obey.new.self in
    let did = c.in-Ok.ensures.obeyed in
    let same : gathered (with_machine w g.machine) ≡ u = machine_gathered w u g did.1 c.in_ok-gather-in-Ok.ensures in
    after_answer c.args.request c.args.input.now w g.machine c.in-Ok.answer (Some (seen c.do_asked.new.self)) did.0
    (ap (then_asked c.args.request) same ∙ c.in_ok-do_asked-in-Ok.ensures)

pub returns-in-Err-TooFar-clause-stopped : goal.returns-in-Err-TooFar-clause-stopped
returns-in-Err-TooFar-clause-stopped c = λ e. after_far c.args.request c.args.input.now (seen c.args.self.now)
    (far_by c.in-Err-TooFar.field-0 _ c.in-Err-TooFar.field-0-is c.in-Err-TooFar.ensures.refused)

pub returns-in-Err-TooMuch-clause-done : goal.returns-in-Err-TooMuch-clause-done
returns-in-Err-TooMuch-clause-done c =
    let w = seen c.args.self.now in
    after_much c.args.request c.args.input.now w
    (much_by c.in-Err-TooMuch.field-0 _ c.in-Err-TooMuch.field-0-is c.in-Err-TooMuch.ensures.refused)
    ∙ ap (λ (g : Graphics). Some (record w { core = record w.core { full = true }; graphics = g }, None)) (sym c.in-Err-TooMuch.ensures.forgotten)
