use Rattle.svg.proofs.BytesLaw.{bytes_of_strokes}
use Rattle.svg.proofs.laws.strokes_read_back.Goals as goal

pub returns : goal.returns
returns c = bytes_of_strokes c.args.page.now c.args.pens.now c.args.strokes.now c.args.labels.now c.strokes_are_in_range.ensures
