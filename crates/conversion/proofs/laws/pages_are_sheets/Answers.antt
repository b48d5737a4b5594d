use Rattle.conversion.proofs.Pages.{all_pages}
use Rattle.conversion.proofs.laws.pages_are_sheets.Goals as goal

pub returns : goal.returns
returns c = all_pages
