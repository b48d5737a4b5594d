use Rattle.std.proofs.Common.{◌≡◌, arith, length, [], ◌∷◌, ◌-◌, ℕ, List, slice_index_or, ap, ◌∙◌, ◌≤◌}
use Rattle.full_plot.specs.Sheets.{last_end}
use Rattle.full_plot.proofs.FullRuns.{last_is}
use Rattle.full_plot.proofs.escapes_obeyed.last_end.Goals as goal

last_of : (xs : List ℕ) → 1 ≤ length xs → slice_index_or xs (length xs - 1) 0 ≡ last_end xs
last_of [] h = absurd (omega arith)
last_of (x ∷ xs) h = let e : length (x ∷ xs) - 1 ≡ length xs = omega arith in ap (λ (k : ℕ). slice_index_or (x ∷ xs) k 0) e ∙ last_is 0 x xs

pub returns-in-len1-up : goal.returns-in-len1-up
returns-in-len1-up c = last_of c.args.ends.now (omega (arith, c.in-len1-up.len_at_least))
