use Rattle.std.proofs.Common.{◌≡◌, ◌+◌, drop}
use Rattle.dxf.specs.Colours.{nearest_after, nearest_of}
use Rattle.dxf.proofs.colours.nearest_of.Given as goal

-- the colours that are left
abbrev pub invariant-loop-entry : goal.invariant-loop-entry
invariant-loop-entry l = record {
  best : nearest_after l.colour l.best l.number (drop l.entry-index l.colours) ≡ nearest_of l.colour l.colours;
  number : l.number ≡ l.entry-index + 1;
}
