use Rattle.areas.specs.Views.{areas_in}
use Rattle.areas.proofs.Apart.{apart_in}
use Rattle.svg.proofs.BytesLaw.{bytes_read}
use Rattle.svg.proofs.laws.svg_reads_back.Goals as goal

pub returns : goal.returns
returns c = bytes_read c.args.page.now c.args.pens.now c.args.strokes.now (areas_in c.args.areas) c.args.labels.now c.strokes_are_in_range.ensures (apart_in c.args.areas) c.requires
