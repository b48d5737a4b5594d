use Rattle.std.proofs.Common.{◌≡◌, ◌+◌, ◌*◌, ◌≤◌, ◌++◌, ◌^◌, length, nat_abs}
use Rattle.lettering.specs.Lines.{label_lines, lines_from}
use Rattle.lettering.proofs.checked.Lettering.lines.Given as goal

-- the lines that are done, and what the signs that are left give
abbrev pub invariant-signs : goal.invariant-signs
invariant-signs l = record {
  same : l.lines.items ++ lines_from l.self.style l.start l.at.letters l.at.cell l.begun l.rest ≡ label_lines l.self.style l.start l.fn.signs;
  column_in : nat_abs l.at.cell.column + 8 * length l.rest ≤ 2 ^ 29;
  line_in : l.at.cell.line + length l.rest ≤ 2 ^ 26;
  letters_in : nat_abs l.at.letters ≤ 2 ^ 29;
}

abbrev pub decreases-signs : goal.decreases-signs
decreases-signs l = length l.rest
