use Rattle.stroke_runs.proofs.SheetLaws.{all_sheets}
use Rattle.stroke_runs.proofs.laws.sheets_are_all.Goals as goal

pub returns : goal.returns
returns c = all_sheets c.args.strokes.now c.args.ends.now
