use Rattle.areas.specs.Views.{areas_in}
use Rattle.areas.proofs.Apart.{apart_in}
use Rattle.svg.proofs.BytesLaw.{titles_read}
use Rattle.svg.proofs.laws.titles_read_back.Goals as goal

pub returns : goal.returns
returns c = titles_read c.args.page.now c.args.pens.now c.args.strokes.now (areas_in c.args.areas) c.args.labels.now c.strokes_are_in_range.ensures (apart_in c.args.areas)
