use Rattle.areas.specs.Views.{areas_in}
use Rattle.areas.proofs.Apart.{apart_in}
use Rattle.svg.proofs.PartLaws.{no_labels}
use Rattle.svg.proofs.laws.paths_without_labels.Goals as goal

pub returns : goal.returns
returns c = no_labels c.args.page.now c.args.pens.now c.args.strokes.now (areas_in c.args.areas) (apart_in c.args.areas)
