use Rattle.plot_report.proofs.Plain.{counted_all}
use Rattle.plot_report.proofs.laws.strokes_are_no_edges.Goals as goal

pub returns : goal.returns
returns c = counted_all
