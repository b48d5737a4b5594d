use Rattle.std.proofs.Common.{◌≡◌, ◌+◌, ◌≤◌, min, drop}
use Rattle.pdf.specs.Texts.{line_letters}
use Rattle.pdf.proofs.counts.letters_of.Given as goal

-- the letters so far and those that are left
abbrev pub invariant-loop-line : goal.invariant-loop-line
invariant-loop-line l = record {
  all : min (l.count + line_letters (drop l.line-index l.lines)) 67108865 ≡ min (line_letters l.lines) 67108865;
  few : l.count ≤ 67108865;
}
