use Rattle.std.proofs.Common.{◌∙◌, sym, set, ap}
use Rattle.std.proofs.lemmas.List.Edits.{map_over_more}
use Rattle.labels.specs.Labels.{LineShape}
use Rattle.turning.specs.Turns.{turned_line}
use Rattle.turning.proofs.labels_turned.turn_lines.Goals as goal

pub loop-line-preserved : goal.loop-line-preserved
loop-line-preserved c =
    let i = c.loop-line.line-index in
    let lines = c.loop-line.lines in
    let line : LineShape = c.line-item.result in
    let f : LineShape → LineShape = turned_line c.args.turn c.args.page.now in
    ap (set lines i) (c.turn_line.ensures ∙ ap f (sym c.line-item.is))
    ∙ map_over_more f c.args.lines.now lines i line c.loop-line-test.true c.loop-line.invariant c.line-item.is
