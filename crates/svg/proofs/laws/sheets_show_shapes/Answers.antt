use Rattle.areas.specs.Views.{areas_in}
use Rattle.areas.proofs.Apart.{apart_in}
use Rattle.svg.proofs.PartLaws.{all_sheets_read}
use Rattle.svg.proofs.laws.sheets_show_shapes.Goals as goal

pub returns : goal.returns
returns c = all_sheets_read c.args.page.now c.args.pens.now c.args.strokes.now (areas_in c.args.areas) c.args.ends.now c.args.labels.now (apart_in c.args.areas) c.requires.ends c.requires.labels
