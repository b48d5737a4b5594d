use Rattle.std.proofs.Common.{◌∙◌, List, ap, subst, sym, take}
use Rattle.std.specs.List.{All}
use Rattle.std.proofs.lemmas.List.{take_all}
use Rattle.std.proofs.lemmas.List.Elements.{All-more, All-same}
use Rattle.labels.specs.Labels.{LabelShape, LineShape}
use Rattle.dxf.specs.Readable.{IsReadable}
use Rattle.dxf.proofs.laws.labels_are_readable.Goals as goal

pub loop-label-preserved : goal.loop-label-preserved
loop-label-preserved c =
    let P : LabelShape → Type 0 = λ z. All IsReadable z.lines in
    let L : List LineShape → Type 0 = λ ls. All IsReadable ls in
    let s = c.label-item.result in
    All-more P c.args.labels.now c.loop-label.label-index s c.loop-label-test.true c.loop-label.invariant (subst P c.label-item.is (subst L (c.as_slice.ensures.value ∙ ap (λ (l : LabelShape). l.lines) c.label.view_is) c.lines_are_readable.ensures))

pub returns : goal.returns
returns c =
    let ls = c.args.labels.now in
    let P : LabelShape → Type 0 = λ z. All IsReadable z.lines in
    All-same P ls (take c.loop-label.label-index ls) (sym (take_all c.loop-label.label-index ls c.loop-label-test.false)) c.loop-label.invariant
