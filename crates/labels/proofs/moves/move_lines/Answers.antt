use Rattle.std.proofs.Common.{◌∙◌, sym, set, ap}
use Rattle.std.proofs.lemmas.List.Edits.{map_over_more}
use Rattle.labels.specs.Labels.{LineShape}
use Rattle.labels.specs.Moves.{moved_line}
use Rattle.labels.proofs.moves.move_lines.Goals as goal

pub loop-line-preserved : goal.loop-line-preserved
loop-line-preserved c =
    let i = c.loop-line.line-index in
    let lines = c.loop-line.lines in
    let line : LineShape = c.line-item.result in
    let f : LineShape → LineShape = moved_line c.args.corner in
    ap (set lines i) (c.move_line.ensures ∙ ap f (sym c.line-item.is))
    ∙ map_over_more f c.args.lines.now lines i line c.loop-line-test.true c.loop-line.invariant c.line-item.is
