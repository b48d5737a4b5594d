use Rattle.page_fit.proofs.ShapeCounts.{plain_census, plain_extent}
use Rattle.page_fit.proofs.laws.strokes_stay_strokes.Goals as goal

pub returns : goal.returns
returns c = record { extent = plain_extent; census = plain_census }
