use Rattle.std.proofs.Common.{◌≡◌, ◌∙◌, ◌++◌, ap, refl, subst, Bool, true, false, Option, Some}
use Rattle.std.specs.Option.{is_some}
use Rattle.plot_settings.specs.Meanings.{meaning}
use Rattle.hpgl_plot.specs.declared.note.NoteKind.{NoteKind}
use Rattle.full_notes.specs.Contexts.{Context}
use Rattle.full_notes.specs.Notes.{bad_if}
use Rattle.full_plot.specs.Items.{as_core, more_steps}
use Rattle.full_plot.specs.Machine.{Runs, seen, run}
use Rattle.full_plot.proofs.FullRuns.{more_run, no_more, stopped}
use Rattle.full_plot.proofs.plotter.FullPlotter.take_other.Goals as goal

some_if : (is_wrong : Bool) → is_some (bad_if is_wrong) ≡ is_wrong
some_if true = refl
some_if false = refl

pub returns-in_err-noted-clause-runs : goal.returns-in_err-noted-clause-runs
returns-in_err-noted-clause-runs c =
    let w = seen c.args.self.now in
    let ss = as_core (meaning c.args.instruction c.args.numbers.now).steps in
    let ts = more_steps c.args.instruction c.args.numbers.now in
    let v = record w { context = c.pass_instruction.new.self } in
    subst (λ (d : Context). Runs (run (record w { context = d }) (ss ++ ts)) (seen c.obey.new.self) c.from_residual.result) c.pass_instruction.ensures
    (stopped (Option NoteKind) (run v ss) (run v (ss ++ ts)) (seen c.obey.new.self) (seen c.obey.new.self) c.in_err-noted.field-0.0 c.from_residual.result
    (no_more v ss ts) c.in_err-noted.ensures.runs c.from_residual.ensures.1)

pub do_more-requires : goal.do_more-requires
do_more-requires c = c.is_some.ensures ∙ ap is_some c.in_ok-noted.ensures.noted ∙ some_if (meaning c.args.instruction c.args.numbers.now).is_wrong

pub returns-clause-runs : goal.returns-clause-runs
returns-clause-runs c =
    let w = seen c.args.self.now in
    let ss = as_core (meaning c.args.instruction c.args.numbers.now).steps in
    let ts = more_steps c.args.instruction c.args.numbers.now in
    let v = record w { context = c.pass_instruction.new.self } in
    subst (λ (d : Context). run (record w { context = d }) (ss ++ ts) ≡ Some (seen c.do_more.new.self)) c.pass_instruction.ensures
    (more_run v (seen c.obey.new.self) (seen c.do_more.new.self) ss ts c.in_ok-noted.ensures.runs c.do_more.ensures)
