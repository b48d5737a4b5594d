use Rattle.std.proofs.Common.{subst, sym, take}
use Rattle.std.proofs.lemmas.List.{take_all}
use Rattle.std.proofs.lemmas.List.Elements.{All-more, All-same}
use Rattle.labels.specs.Labels.{LineShape}
use Rattle.labels.specs.Labels.{IsLine}
use Rattle.pdf.proofs.laws.read_lines.Goals as goal

pub loop-line-preserved : goal.loop-line-preserved
loop-line-preserved c =
    let P : LineShape → Type 0 = λ z. IsLine z in
    let s = c.line-item.result in
    All-more P c.args.lines.now c.loop-line.line-index s c.loop-line-test.true c.loop-line.invariant (subst P c.line-item.is c.read_line.ensures)

pub returns : goal.returns
returns c =
    let ss = c.args.lines.now in
    let P : LineShape → Type 0 = λ z. IsLine z in
    All-same P ss (take c.loop-line.line-index ss) (sym (take_all c.loop-line.line-index ss c.loop-line-test.false)) c.loop-line.invariant
