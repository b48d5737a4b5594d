use Rattle.std.proofs.Common.{◌*◌, ◌-◌, ◌≤◌, decimal, length, arith}
use Rattle.picture_out.specs.Marks.{marks_from}
use Rattle.picture_out.proofs.Lines.{marks_row_size, pens_are_bytes}
use Rattle.picture_out.proofs.marks.row_space.Goals as goal

pub returns-clause-whole : goal.returns-clause-whole
returns-clause-whole c = record {
  any = λ index inks cells in_range bytes within.
      let size : length (marks_from (decimal index) 0 inks cells) ≤ 33 * length cells = marks_row_size index inks cells in_range (omega arith) (λ n. pens_are_bytes inks bytes (n - 1)) in
      omega arith;
}
