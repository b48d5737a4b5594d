use Rattle.std.proofs.Common.{◌≡◌, ◌≤◌, take, filter}
use Rattle.std.specs.List.{range_with_len}
use Rattle.pdf.specs.Texts.{is_marked}
use Rattle.pdf.proofs.rows.list_marked.Given as goal

-- the rows so far
abbrev pub invariant-loop-row : goal.invariant-loop-row
invariant-loop-row l = record {
  list : take l.count l.list ≡ filter (is_marked l.marked) (range_with_len 0 l.row);
  few : l.count ≤ l.row;
  within : l.row ≤ 256;
}
