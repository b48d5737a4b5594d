use Rattle.areas.specs.Views.{areas_in}
use Rattle.svg.specs.Sheets.{labelled_sheets}
use Rattle.svg.proofs.SheetTitles.{each_sheet_titles}
use Rattle.svg.proofs.laws.sheet_titles_are_labels.Goals as goal

pub returns : goal.returns
returns c = each_sheet_titles c.args.page.now c.args.pens.now (labelled_sheets c.args.strokes.now (areas_in c.args.areas) c.args.ends.now c.args.labels.now)
