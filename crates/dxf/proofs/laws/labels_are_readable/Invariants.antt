use Rattle.std.proofs.Common.{take}
use Rattle.std.specs.List.{All}
use Rattle.dxf.specs.Readable.{IsReadable}
use Rattle.dxf.proofs.laws.labels_are_readable.Given as goal

abbrev pub invariant-loop-label : goal.invariant-loop-label
invariant-loop-label l = All (λ k. All IsReadable k.lines) (take l.label-index l.labels)
