use Rattle.areas.specs.Views.{areas_in}
use Rattle.areas.proofs.Apart.{apart_in}
use Rattle.svg.proofs.PartLaws.{parts_read}
use Rattle.svg.proofs.laws.paths_show_shapes.Goals as goal

pub returns : goal.returns
returns c = parts_read c.args.page.now c.args.pens.now c.args.strokes.now (areas_in c.args.areas) c.args.labels.now (apart_in c.args.areas) c.requires
