use Rattle.areas.specs.Views.{areas_in}
use Rattle.svg.proofs.PartLaws.{all_titles}
use Rattle.svg.proofs.laws.titles_are_labels.Goals as goal

pub returns : goal.returns
returns c = all_titles c.args.page.now c.args.pens.now c.args.strokes.now (areas_in c.args.areas) c.args.labels.now
