use Rattle.std.proofs.Common.{◌≡◌, ◌+◌, ◌*◌, ◌≤◌, ◌^◌, length, nat_abs, ◌≤ℤ◌}
use Rattle.std.specs.Int.{int_max}
use Rattle.lettering.specs.Columns.{reach_from, section_letters}
use Rattle.lettering.proofs.sections.section_letters.Given as goal

-- what is reached so far, and what will be reached
abbrev pub invariant-signs : goal.invariant-signs
invariant-signs l = record {
  same : int_max l.most (reach_from l.column l.rest) ≡ section_letters l.fn.signs;
  reached : l.column ≤ℤ l.most;
  column_in : nat_abs l.column + 8 * length l.rest ≤ 2 ^ 29;
  most_in : nat_abs l.most ≤ 2 ^ 29;
}

abbrev pub decreases-signs : goal.decreases-signs
decreases-signs l = length l.rest
