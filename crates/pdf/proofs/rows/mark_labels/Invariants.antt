use Rattle.std.proofs.Common.{◌≡◌, ◌<◌, ◌||◌, ℕ, take}
use Rattle.std.specs.List.{list_any}
use Rattle.labels.specs.Sheets.{all_counted}
use Rattle.pdf.specs.Texts.{is_marked, shows_row}
use Rattle.pdf.proofs.rows.mark_labels.Given as goal

-- the rows so far
abbrev pub invariant-loop-label : goal.invariant-loop-label
invariant-loop-label l = (row : ℕ) → row < 256 → is_marked l.marked row ≡ (is_marked l.fn.marked row || list_any (shows_row l.pens l.strokes row) (all_counted l.before (take l.label-index l.labels)))
