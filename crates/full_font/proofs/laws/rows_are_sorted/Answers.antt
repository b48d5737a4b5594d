use Rattle.full_font.proofs.FontLaws.{rows_rise}
use Rattle.full_font.proofs.laws.rows_are_sorted.Goals as goal

pub returns : goal.returns
returns c = rows_rise
