use Rattle.full_font.proofs.FontLaws.{on_grid}
use Rattle.full_font.proofs.laws.strokes_are_on_the_grid.Goals as goal

pub returns : goal.returns
returns c = on_grid
