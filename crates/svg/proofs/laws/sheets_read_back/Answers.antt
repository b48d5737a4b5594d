use Rattle.areas.specs.Views.{areas_in}
use Rattle.areas.proofs.Apart.{apart_in}
use Rattle.svg.proofs.BytesLaw.{sheet_bytes_read}
use Rattle.svg.proofs.laws.sheets_read_back.Goals as goal

pub returns : goal.returns
returns c = sheet_bytes_read c.args.page.now c.args.pens.now c.args.strokes.now (areas_in c.args.areas) c.args.ends.now c.args.labels.now c.strokes_are_in_range.ensures (apart_in c.args.areas) c.requires.ends c.requires.labels
