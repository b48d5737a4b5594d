use Rattle.std.proofs.Common.{◌≡◌, ◌∙◌, sym, ap, List, ◌∷◌, None}
use Rattle.hpgl_text.specs.EntryShapes.{EntryShape}
use Rattle.plot_settings.specs.Meanings.{entry_steps, part_steps}
use Rattle.full_plot.specs.Items.{as_core}
use Rattle.full_plot.specs.Machine.{seen, run}
use Rattle.full_plot.proofs.FullRuns.{one_entry, one_entry_out, stopped}
use Rattle.std.specs.Bool.{⊤}
use Rattle.full_plot.proofs.plotter.FullPlotter.follow_entries.Goals as goal

pub entries-preserved : goal.entries-preserved
entries-preserved c =
    let w = seen c.entries.self in
    sym (one_entry w (seen c.follow_entry.new.self) c.in-Some.entry c.next.new.self c.in_ok-follow_entry.ensures)
    ∙ sym (ap (λ (es : List EntryShape). run w (as_core (entry_steps es))) c.in-Some.ensures.steps)
    ∙ c.entries.invariant

pub returns-in_err-follow_entry : goal.returns-in_err-follow_entry
returns-in_err-follow_entry c =
    let w = seen c.entries.self in
    let v = seen c.follow_entry.new.self in
    let a = seen c.args.self.now in
    let e = c.in-Some.entry in
    let rest = c.next.new.self in
    let all : run w (as_core (entry_steps (e ∷ rest))) ≡ run a (as_core (entry_steps c.args.entries)) =
    sym (ap (λ (es : List EntryShape). run w (as_core (entry_steps es))) c.in-Some.ensures.steps) ∙ c.entries.invariant in
    stopped ⊤ (run w (as_core (part_steps e.what))) (run a (as_core (entry_steps c.args.entries))) v v c.in_err-follow_entry.field-0.0 c.from_residual.result
    (λ (h : run w (as_core (part_steps e.what)) ≡ None). sym all ∙ one_entry_out w e rest h) c.in_err-follow_entry.ensures c.from_residual.ensures.1
