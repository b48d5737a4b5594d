use Rattle.svg.proofs.BytesLaw.{sheets_of_strokes}
use Rattle.svg.proofs.laws.strokes_of_sheets_read_back.Goals as goal

pub returns : goal.returns
returns c = sheets_of_strokes c.args.page.now c.args.pens.now c.args.strokes.now c.args.ends.now c.args.labels.now c.strokes_are_in_range.ensures
