use Rattle.plot_frame.proofs.Theorems.{line_is_frame_lem}
use Rattle.plot_frame.proofs.laws.line_is_frame.Goals as goal

pub returns : goal.returns
returns c = line_is_frame_lem
