use Rattle.std.proofs.Common.{◌≡◌, drop}
use Rattle.std.specs.List.{list_any}
use Rattle.dxf.specs.Letters.{has_letters}
use Rattle.dxf.proofs.letters.is_written.Given as goal

-- no line so far has a letter
abbrev pub invariant-loop-line : goal.invariant-loop-line
invariant-loop-line l = list_any has_letters (drop l.line-index l.lines) ≡ list_any has_letters l.lines
