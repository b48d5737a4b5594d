use Rattle.std.proofs.Common.{◌∙◌, sym, set, ap}
use Rattle.std.proofs.lemmas.List.Edits.{map_over_more}
use Rattle.labels.specs.Labels.{LabelShape}
use Rattle.turning.specs.Turns.{turned_label}
use Rattle.turning.proofs.labels_turned.turn_labels.Goals as goal

pub loop-label-preserved : goal.loop-label-preserved
loop-label-preserved c =
    let i = c.loop-label.label-index in
    let labels = c.loop-label.labels in
    let label : LabelShape = c.label-item.result in
    let f : LabelShape → LabelShape = turned_label c.args.turn c.args.page.now in
    ap (set labels i) (c.turn_label.ensures ∙ ap f (sym c.label-item.is))
    ∙ map_over_more f c.args.labels.now labels i label c.loop-label-test.true c.loop-label.invariant c.label-item.is
