use Rattle.dxf.proofs.LinesLaw.{strokes_seen}
use Rattle.dxf.proofs.laws.lines_are_strokes.Goals as goal

pub returns : goal.returns
returns c = λ sheet. strokes_seen sheet c.args.pens.now c.args.strokes.now
