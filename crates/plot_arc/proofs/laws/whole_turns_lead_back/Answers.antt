use Rattle.plot_arc.proofs.Nearest.{whole_turns_lead_back}
use Rattle.plot_arc.proofs.laws.whole_turns_lead_back.Goals as goal

pub returns : goal.returns
returns c = whole_turns_lead_back
