use Rattle.std.proofs.Common.{ℕ, ◌-◌, ◌*◌, ◌/◌, length, get_or, arith}
use Rattle.stroke_raster.specs.declared.strip.Span.{Span}
use Rattle.stroke_raster.specs.Spans.{none}
use Rattle.stroke_raster.proofs.Spans.{holds_before, holds_after}
use Rattle.stroke_raster.proofs.MarkLemmas.{in_row, outside_span}
use Rattle.stroke_raster.proofs.marks.after_blank.Goals as goal

pub returns-then-next-span-clause-blank : goal.returns-then-next-span-clause-blank
returns-then-next-span-clause-blank c = λ q u v.
    let w = c.args.columns in
    let n : ℕ = length c.args.spans.now in
    let row = in_row w n (length c.args.cells.now) c.args.here c.requires.some c.requires.wide c.requires.inside in
    let span : Span = get_or c.args.spans.now (c.args.here / w) none in
    let order = c.requires.spanned.order (c.args.here / w) row.row_in in
    let high = c.requires.spanned.high (c.args.here / w) row.row_in in
    outside_span w n c.args.here q c.args.spans.now c.args.cells.now c.requires.some c.requires.wide c.requires.spanned (omega (arith, u, row.start)) (omega (arith, v, order, high)) (omega (arith, v, order, high, row.whole))
    (holds_before span (q - c.args.here / w * w) (omega (arith, u, v, row.start)))

pub returns-clause-blank : goal.returns-clause-blank
returns-clause-blank c = λ q u v.
    let w = c.args.columns in
    let n : ℕ = length c.args.spans.now in
    let row = in_row w n (length c.args.cells.now) c.args.here c.requires.some c.requires.wide c.requires.inside in
    let span : Span = get_or c.args.spans.now (c.args.here / w) none in
    outside_span w n c.args.here q c.args.spans.now c.args.cells.now c.requires.some c.requires.wide c.requires.spanned (omega (arith, u, row.start)) v (omega (arith, v, row.whole))
    (holds_after span (q - c.args.here / w * w) (omega (arith, u, row.start, c.if-next-span-2.false)))
