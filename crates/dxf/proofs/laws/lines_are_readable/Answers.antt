use Rattle.std.proofs.Common.{subst, sym, take}
use Rattle.std.proofs.lemmas.List.{take_all}
use Rattle.std.proofs.lemmas.List.Elements.{All-more, All-same}
use Rattle.labels.specs.Labels.{LineShape}
use Rattle.dxf.specs.Readable.{IsReadable}
use Rattle.dxf.proofs.laws.lines_are_readable.Goals as goal

pub loop-line-preserved : goal.loop-line-preserved
loop-line-preserved c =
    let P : LineShape → Type 0 = λ z. IsReadable z in
    All-more P c.args.lines.now c.loop-line.line-index c.line-item.result c.loop-line-test.true c.loop-line.invariant (subst P c.line-item.is c.is_readable.ensures)

pub returns : goal.returns
returns c =
    let ls = c.args.lines.now in
    let P : LineShape → Type 0 = λ z. IsReadable z in
    All-same P ls (take c.loop-line.line-index ls) (sym (take_all c.loop-line.line-index ls c.loop-line-test.false)) c.loop-line.invariant
