use Rattle.std.proofs.Common.{take}
use Rattle.std.specs.List.{All}
use Rattle.dxf.specs.Readable.{IsReadable}
use Rattle.dxf.proofs.laws.lines_are_readable.Given as goal

abbrev pub invariant-loop-line : goal.invariant-loop-line
invariant-loop-line l = All IsReadable (take l.line-index l.lines)
