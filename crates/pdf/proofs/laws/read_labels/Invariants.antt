use Rattle.std.proofs.Common.{take}
use Rattle.std.specs.List.{All}
use Rattle.pdf.specs.Ranges.{AreInRange}
use Rattle.pdf.proofs.laws.read_labels.Given as goal

abbrev pub invariant-loop-label : goal.invariant-loop-label
invariant-loop-label l = All AreInRange (take l.label-index l.labels)
