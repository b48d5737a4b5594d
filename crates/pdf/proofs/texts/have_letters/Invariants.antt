use Rattle.std.proofs.Common.{◌≡◌, take, false}
use Rattle.std.specs.List.{list_any}
use Rattle.pdf.specs.Texts.{has_letters}
use Rattle.pdf.proofs.texts.have_letters.Given as goal

abbrev pub invariant-loop-line : goal.invariant-loop-line
invariant-loop-line l = list_any has_letters (take l.line-index l.lines) ≡ false
