use Rattle.std.proofs.Common.{◌≡◌, ◌∙◌, List, Some, None, refl, sym, ap}
use Rattle.clap.specs.Words.{Row, found_of, rows_of}
use Rattle.command_line.specs.declared.fault.LineFault.TheVariants.{BadLabels}
use Rattle.command_line.specs.declared.subcommands.Kind.{Kind}
use Rattle.command_line.specs.Lines.{labels_fault, labels_in}
use Rattle.command_line.proofs.Given.{its_fault, not_known, passed_fault}
use Rattle.command_line.proofs.label_choices.labels_of.Goals as goal

bad_labels : (kind : Kind) (rows : List Row) → labels_in rows ≡ None → labels_fault kind rows ≡ Some BadLabels
bad_labels kind rows none = rw none refl

pub returns-in_err-labels-clause-refused : goal.returns-in_err-labels-clause-refused
returns-in_err-labels-clause-refused c =
    let F = found_of c.args.options.now in
    passed_fault _ _ c.from_residual.ensures.1
    ∙ ap Some (its_fault c.labels_in.result BadLabels _ (sym c.ok_or.ensures.value ∙ c.in_err-labels.was))
    ∙ sym (bad_labels c.args.kind (rows_of F) (sym c.labels_in.ensures ∙ not_known _ c.in_err-labels.ensures.variant))
