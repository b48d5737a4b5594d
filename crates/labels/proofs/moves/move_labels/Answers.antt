use Rattle.std.proofs.Common.{◌∙◌, sym, set, ap}
use Rattle.std.proofs.lemmas.List.Edits.{map_over_more}
use Rattle.labels.specs.Labels.{LabelShape}
use Rattle.labels.specs.Moves.{moved_label}
use Rattle.labels.proofs.moves.move_labels.Goals as goal

pub loop-label-preserved : goal.loop-label-preserved
loop-label-preserved c =
    let i = c.loop-label.label-index in
    let labels = c.loop-label.labels in
    let label : LabelShape = c.label-item.result in
    let f : LabelShape → LabelShape = moved_label c.args.corner in
    ap (set labels i) (c.move_label.ensures ∙ ap f (sym c.label-item.is))
    ∙ map_over_more f c.args.labels.now labels i label c.loop-label-test.true c.loop-label.invariant c.label-item.is
