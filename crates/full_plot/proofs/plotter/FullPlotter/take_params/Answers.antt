use Rattle.std.proofs.Common.{◌≡◌, ◌∙◌, ap, sym, subst, append-nil, rules, false, true, ℤ, List, Option}
use Rattle.std.specs.Prelude.{IfOk}
use Rattle.hpgl_text.specs.declared.instruction.Instruction.TheVariants as of
use Rattle.hpgl_plot.specs.declared.note.NoteKind.{NoteKind}
use Rattle.plot_settings.specs.Meanings.{asks, DrawArc}
use Rattle.plot_settings.specs.Parameters.{arced}
use Rattle.full_notes.specs.Contexts.{params_read}
use Rattle.full_notes.specs.Notes.{params_noted}
use Rattle.full_notes.proofs.Noted.{all_read, is_own, read_noted}
use Rattle.full_plot.specs.ContextsAfter.{after_params}
use Rattle.full_plot.specs.Items.{as_core, params_steps}
use Rattle.full_plot.specs.Machine.{FullStep, seen, run, Runs}
use Rattle.full_plot.proofs.FullRuns.{any_read, other_steps}
use Rattle.full_plot.proofs.plotter.FullPlotter.take_params.Goals as goal

pub returns-in-PenWidth-clause-runs : goal.returns-in-PenWidth-clause-runs
returns-in-PenWidth-clause-runs c =
    let w = seen c.args.self.now in
    rw c.in-PenWidth.is
    (subst (λ (ns : List ℤ). Runs (run w (params_steps w.context of.PenWidth ns)) (seen c.take_width.new.self) c.take_width.result)
    (sym (any_read w.context.usual_chords c.args.numbers.now)) c.take_width.ensures.runs)

pub returns-in-PenWidth-clause-noted : goal.returns-in-PenWidth-clause-noted
returns-in-PenWidth-clause-noted c =
    let w = seen c.args.self.now in
    rw c.in-PenWidth.is
    (subst (λ (ns : List ℤ). IfOk c.take_width.result (λ noted. noted ≡ params_noted w.context of.PenWidth ns))
    (sym (any_read w.context.usual_chords c.args.numbers.now)) c.take_width.ensures.noted)

pub returns-in-ArcAbsolute-clause-runs : goal.returns-in-ArcAbsolute-clause-runs
returns-in-ArcAbsolute-clause-runs c =
    let w = seen c.args.self.now in
    let ns = params_read w.context.usual_chords of.ArcAbsolute c.args.numbers.now in
    rw c.in-ArcAbsolute.is
    (subst (λ (ss : List FullStep). Runs (run w ss) (seen c.take_arc.new.self) c.take_arc.result)
    (sym (append-nil (as_core (asks (DrawArc false) (arced ns)).steps))) c.take_arc.ensures.runs)

pub returns-in-ArcRelative-clause-runs : goal.returns-in-ArcRelative-clause-runs
returns-in-ArcRelative-clause-runs c =
    let w = seen c.args.self.now in
    let ns = params_read w.context.usual_chords of.ArcRelative c.args.numbers.now in
    rw c.in-ArcRelative.is
    (subst (λ (ss : List FullStep). Runs (run w ss) (seen c.take_arc-in-ArcRelative.new.self) c.take_arc-in-ArcRelative.result)
    (sym (append-nil (as_core (asks (DrawArc true) (arced ns)).steps))) c.take_arc-in-ArcRelative.ensures.runs)

pub returns-in-ArcAbsolute-clause-noted : goal.returns-in-ArcAbsolute-clause-noted
returns-in-ArcAbsolute-clause-noted c = rw c.in-ArcAbsolute.is c.take_arc.ensures.noted

pub returns-in-ArcRelative-clause-noted : goal.returns-in-ArcRelative-clause-noted
returns-in-ArcRelative-clause-noted c = rw c.in-ArcRelative.is c.take_arc-in-ArcRelative.ensures.noted

pub returns-in_default-clause-runs : goal.returns-in_default-clause-runs
returns-in_default-clause-runs c =
    let w = seen c.args.self.now in
    let i = c.args.instruction in
    let own : is_own i ≡ false = search rules in
    let same = ap (λ (ns : List ℤ). params_steps w.context i ns) (all_read w.context.usual_chords i c.args.numbers.now own)
    ∙ other_steps w.context i c.args.numbers.now own in
    subst (λ (ss : List FullStep). Runs (run (after_params i w) ss) (seen c.take_other.new.self) c.take_other.result) (sym same) c.take_other.ensures.runs

pub returns-in_default-clause-noted : goal.returns-in_default-clause-noted
returns-in_default-clause-noted c =
    let w = seen c.args.self.now in
    let i = c.args.instruction in
    let own : is_own i ≡ false = search rules in
    subst (λ (kind : Option NoteKind). IfOk c.take_other.result (λ noted. noted ≡ kind)) (sym (read_noted w.context i c.args.numbers.now own))
    c.take_other.ensures.noted
