use Rattle.std.proofs.Common.{◌≡◌, ◌<◌, ℕ, List, [], length, get_or, ap, arith}
use Rattle.std.proofs.lemmas.List.{get_or-map, length-map, length-take-le}
use Rattle.std.specs.Global.{Vec}
use Rattle.smoothing.specs.Cells.{cells_of}
use Rattle.smoothing.proofs.finer_rows.CellRowsFinerRows.columns.Goals as goal

pub overflow_cast-result : goal.overflow_cast-result
overflow_cast-result c =
    let rows = c.args.self.now.rows.now in
    let row = c.args.row in
    let items : Vec ℕ → List ℕ = λ v. v.items in
    let wide : length (cells_of rows) ≡ length rows = length-map rows items in
    let many = length-take-le c.args.self.now.count (cells_of rows) (omega (arith, wide, c.args.self.now.within)) in
    let lt : row < c.args.self.now.count = omega (arith, c.requires, many) in
    let inside : row < length rows = omega (arith, lt, c.args.self.now.within) in
    let v = get_or rows row c.index-self-row.result in
    let is : get_or (cells_of rows) row [] ≡ v.items = get_or-map items rows row c.index-self-row.result [] inside in
    omega (arith, c.args.self.now.narrow row lt, ap length is, c.len.ensures, v.ok.0)
