use Rattle.std.proofs.Common.{◌≡◌, ◌+◌, ◌*◌, ◌≤◌, ◌^◌, length, nat_abs}
use Rattle.lettering.specs.Columns.{cell_after_signs, last_cell}
use Rattle.lettering.proofs.sections.last_cell.Given as goal

-- the signs that are left decide
abbrev pub invariant-signs : goal.invariant-signs
invariant-signs l = record {
  same : cell_after_signs l.cell l.rest ≡ last_cell l.fn.signs;
  column_in : nat_abs l.cell.column + 8 * length l.rest ≤ 2 ^ 29;
  line_in : l.cell.line + length l.rest ≤ 2 ^ 26;
}

abbrev pub decreases-signs : goal.decreases-signs
decreases-signs l = length l.rest
