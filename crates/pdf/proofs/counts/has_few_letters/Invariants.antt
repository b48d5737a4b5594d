use Rattle.std.proofs.Common.{◌≡◌, ◌+◌, ◌≤◌, min, drop}
use Rattle.pdf.specs.Texts.{letter_count}
use Rattle.pdf.proofs.counts.has_few_letters.Given as goal

-- the letters so far and those that are left
abbrev pub invariant-loop-label : goal.invariant-loop-label
invariant-loop-label l = record {
  all : min (l.count + letter_count (drop l.label-index l.labels)) 67108865 ≡ min (letter_count l.labels) 67108865;
  few : l.count ≤ 67108865;
}
