use Rattle.std.proofs.Common.{ℕ, get_or, decimal, ap, arith}
use Rattle.picture_out.proofs.Shown.{lines_of}
use Rattle.picture_out.proofs.laws.marks_prints_marks.Goals as goal

pub returns : goal.returns
returns c = λ row inks cells. lines_of (decimal row) inks (λ column. get_or cells column 0) 0 cells (λ k lt. ap (λ (n : ℕ). get_or cells n 0) (omega arith))
