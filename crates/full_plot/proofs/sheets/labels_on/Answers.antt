use Rattle.full_plot.proofs.LabelsOver.{counted_none}
use Rattle.full_plot.proofs.sheets.labels_on.Goals as goal

pub returns-then-sheet-eq0 : goal.returns-then-sheet-eq0
returns-then-sheet-eq0 c = rw c.if-sheet-eq0.true (counted_none c.args.labels.now)
