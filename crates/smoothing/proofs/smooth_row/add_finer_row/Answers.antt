use Rattle.std.proofs.Common.{◌≡◌, ◌+◌, ◌*◌, ℕ, List, [], get_or, ap, arith}
use Rattle.std.proofs.lemmas.List.{get_or_past}
use Rattle.smoothing.proofs.Rows.{white_cells}
use Rattle.smoothing.proofs.smooth_row.add_finer_row.Goals as goal

pub returns-else-row-count-clause-cells : goal.returns-else-row-count-clause-cells
returns-else-row-count-clause-cells g c = λ k d lt.
    let rows : List (List ℕ) = g.R.FinerRows.finer c.args.rows.now in
    let row : List ℕ = get_or rows c.args.row [] in
    let none : row ≡ [] = get_or_past rows c.args.row [] (omega (arith, c.if-row-count.false, c.count.ensures)) in
    white_cells (g.I.Inks.inks c.args.inks.now) row (c.args.times * k) c.args.times _ (λ j _. ap (λ (cells : List ℕ). get_or cells (c.args.times * k + j) 0) none)
