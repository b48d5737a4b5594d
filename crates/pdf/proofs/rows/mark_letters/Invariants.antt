use Rattle.std.proofs.Common.{◌≡◌, ◌<◌, ◌||◌, ◌==◌, ℕ, take}
use Rattle.std.specs.List.{list_any}
use Rattle.pdf.specs.Texts.{is_marked, row_of}
use Rattle.pdf.proofs.rows.mark_letters.Given as goal

-- the rows so far
abbrev pub invariant-loop-point : goal.invariant-loop-point
invariant-loop-point l = (row : ℕ) → row < 256 → is_marked l.marked row ≡ (is_marked l.fn.marked row || list_any (λ point. row == row_of point) (take l.point-index l.text))
