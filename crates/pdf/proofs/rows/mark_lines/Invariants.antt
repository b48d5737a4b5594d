use Rattle.std.proofs.Common.{◌≡◌, ◌<◌, ◌||◌, ℕ, take}
use Rattle.std.specs.List.{list_any}
use Rattle.pdf.specs.Texts.{is_marked, has_row}
use Rattle.pdf.proofs.rows.mark_lines.Given as goal

-- the rows so far
abbrev pub invariant-loop-line : goal.invariant-loop-line
invariant-loop-line l = (row : ℕ) → row < 256 → is_marked l.marked row ≡ (is_marked l.fn.marked row || list_any (has_row row) (take l.line-index l.lines))
