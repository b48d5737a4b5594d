use Rattle.std.proofs.Common.{◌≡◌, length, arith}
use Rattle.stroke_raster.specs.Rows.{split_rows}
use Rattle.stroke_raster.proofs.Rows.{length-split_rows}
use Rattle.stroke_raster.proofs.Spans.{row_blank, row_length, holds_before, holds_after}
use Rattle.stroke_raster.proofs.band.Band.span.Goals as goal

pub bounds-self-i : goal.bounds-self-i
bounds-self-i c =
    let b = c.args.self.now in
    let n : length (split_rows b.columns b.count b.cells.now) ≡ b.count = length-split_rows b.columns b.count b.cells.now in
    omega (arith, n, c.requires, b.tall)

pub returns-clause-before : goal.returns-clause-before
returns-clause-before c = λ k u v.
    let b = c.args.self.now in
    let n : length (split_rows b.columns b.count b.cells.now) ≡ b.count = length-split_rows b.columns b.count b.cells.now in
    let l = row_length b.columns b.count c.args.i b.cells.now b.wide (omega (arith, n, c.requires)) in
    row_blank b.columns b.count c.args.i b.spans.now b.cells.now b.some b.wide (omega (arith, n, c.requires)) b.spanned k (omega (arith, u, l)) (holds_before _ k v)

pub returns-clause-after : goal.returns-clause-after
returns-clause-after c = λ k u v.
    let b = c.args.self.now in
    let n : length (split_rows b.columns b.count b.cells.now) ≡ b.count = length-split_rows b.columns b.count b.cells.now in
    let l = row_length b.columns b.count c.args.i b.cells.now b.wide (omega (arith, n, c.requires)) in
    row_blank b.columns b.count c.args.i b.spans.now b.cells.now b.some b.wide (omega (arith, n, c.requires)) b.spanned k (omega (arith, u, l)) (holds_after _ k v)

pub returns-clause-high : goal.returns-clause-high
returns-clause-high c =
    let b = c.args.self.now in
    let n : length (split_rows b.columns b.count b.cells.now) ≡ b.count = length-split_rows b.columns b.count b.cells.now in
    let l = row_length b.columns b.count c.args.i b.cells.now b.wide (omega (arith, n, c.requires)) in
    omega (arith, l, b.spanned.high c.args.i (omega (arith, n, c.requires, b.tall)))
