use Rattle.areas.specs.Views.{areas_in}
use Rattle.svg.proofs.SheetTitles.{all_sheet_titles}
use Rattle.svg.proofs.laws.all_titles_are_labels.Goals as goal

pub returns : goal.returns
returns c = all_sheet_titles c.args.page.now c.args.pens.now c.args.strokes.now (areas_in c.args.areas) c.args.ends.now c.args.labels.now c.requires.order c.requires.ends
