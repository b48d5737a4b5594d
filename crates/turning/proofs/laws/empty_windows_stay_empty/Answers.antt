use Rattle.turning.proofs.Kept.{empty_windows}
use Rattle.turning.proofs.laws.empty_windows_stay_empty.Goals as goal

pub returns : goal.returns
returns c = empty_windows
