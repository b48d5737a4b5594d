use Rattle.std.proofs.Common.{◌∙◌, List, ap, subst, sym, take}
use Rattle.std.proofs.lemmas.List.{take_all}
use Rattle.std.proofs.lemmas.List.Elements.{All-more, All-same}
use Rattle.std.specs.List.{All}
use Rattle.labels.specs.Labels.{IsLine, LabelShape, LineShape}
use Rattle.pdf.specs.Ranges.{AreInRange}
use Rattle.pdf.proofs.laws.read_labels.Goals as goal

pub loop-label-preserved : goal.loop-label-preserved
loop-label-preserved c =
    let P : LabelShape → Type 0 = λ z. AreInRange z in
    let L : List LineShape → Type 0 = λ ls. All IsLine ls in
    let s = c.label-item.result in
    All-more P c.args.labels.now c.loop-label.label-index s c.loop-label-test.true c.loop-label.invariant (subst P c.label-item.is (subst L (c.as_slice.ensures.value ∙ ap (λ (l : LabelShape). l.lines) c.label.view_is) c.read_lines.ensures))

pub returns : goal.returns
returns c =
    let ss = c.args.labels.now in
    let P : LabelShape → Type 0 = λ z. AreInRange z in
    All-same P ss (take c.loop-label.label-index ss) (sym (take_all c.loop-label.label-index ss c.loop-label-test.false)) c.loop-label.invariant
