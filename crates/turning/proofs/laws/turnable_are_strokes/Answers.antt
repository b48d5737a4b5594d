use Rattle.turning.proofs.Kept.{turnable}
use Rattle.turning.proofs.laws.turnable_are_strokes.Goals as goal

pub returns : goal.returns
returns c = turnable
