use Rattle.std.proofs.Common.{◌≡◌, ◌<◌, ◌+◌, ℕ, [], length, map, get_or, sym, ap, subst, ◌∙◌, arith, Ok, Err, Result}
use Rattle.stroke_raster.specs.Bands.{first_of, rows_of_band}
use Rattle.png.specs.Packing.{packed_samples}
use Rattle.rows.specs.declared.writing.Broken.{Broken}
use Rattle.rows.specs.Palettes.{number_of, numbers_bytes}
use Rattle.rows.specs.Progress.{WritesRows}
use Rattle.rows.proofs.NumberRows.{bytes_few, numbers_same}
use Rattle.rows.proofs.Faults.{passed_on}
use Rattle.rows.proofs.WrittenRows.{cut_in_more, rows_after}
use Rattle.rows.proofs.number_bands.write_numbers.Goals as goal

pub loop-i-preserved : goal.loop-i-preserved
loop-i-preserved g c =
    let inv = c.loop-i.invariant in
    let old = c.args.bytes.now in
    let rows = rows_of_band c.args.band.now in
    let at = first_of c.args.band.now in
    let i = c.loop-i.i in
    let first = c.args.first in
    let s = g.K.Sink.state c.args.sink.now in
    let t = g.K.Sink.state c.loop-i.sink in
    let u = g.K.Sink.state c.put_row.new.sink in
    let lt : i < length rows = omega (arith, c.loop-i-test.true, c.rows-count.ensures) in
    let there : c.first.result + i ≡ at + i = ap (λ (n : ℕ). n + i) c.first.ensures in
    let bytes : c.as_slice.result.now ≡ packed_samples old.depth (numbers_bytes old.depth old.columns) (map (number_of c.args.numbers.now) (get_or rows i [])) =
    c.as_slice.ensures.value ∙ c.pack.ensures.bytes ∙ numbers_same _ _ _ _ c.args.numbers.now _ _ inv.depth inv.columns c.row.ensures in
    record {
      so_far = λ row made.
          let one = c.in_ok-written.ensures.row row (ap row there ∙ made i lt ∙ sym bytes) in
          let here = subst (λ (r : ℕ). WritesRows row first r (r + 1) c.loop-i.written t u (Ok c.in_ok-written.written)) there one in
          let all = rows_after row first at (at + i) (at + i + 1) c.args.done c.loop-i.written s t u (Ok c.in_ok-written.written) (omega arith) (omega arith) (inv.so_far row made) here in
          let next : at + i + 1 ≡ at + (i + 1) = omega arith in
          subst (λ (e : ℕ). WritesRows row first at e c.args.done s u (Ok c.in_ok-written.written)) next all;
      small = (let packed = c.pack.new.self in
          omega (
            arith,
            inv.small,
            c.in_ok-written.ensures.count,
            ap length c.as_slice.ensures.value,
            packed.size,
            bytes_few packed.depth packed.columns,
            c.pack.ensures.columns,
            inv.columns,
            c.requires.narrow,
          ));
      quiet = c.in_ok-written.ensures.quiet ∙ inv.quiet;
      depth = c.pack.ensures.depth ∙ inv.depth;
      columns = c.pack.ensures.columns ∙ inv.columns;
    }

pub returns-in_err-written-clause-rows : goal.returns-in_err-written-clause-rows
returns-in_err-written-clause-rows g c = λ row made.
    let inv = c.loop-i.invariant in
    let old = c.args.bytes.now in
    let rows = rows_of_band c.args.band.now in
    let at = first_of c.args.band.now in
    let i = c.loop-i.i in
    let first = c.args.first in
    let s = g.K.Sink.state c.args.sink.now in
    let t = g.K.Sink.state c.loop-i.sink in
    let u = g.K.Sink.state c.put_row.new.sink in
    let lt : i < length rows = omega (arith, c.loop-i-test.true, c.rows-count.ensures) in
    let there : c.first.result + i ≡ at + i = ap (λ (n : ℕ). n + i) c.first.ensures in
    let stop : Broken = c.in_err-written.field-0.0 in
    let bytes : c.as_slice.result.now ≡ packed_samples old.depth (numbers_bytes old.depth old.columns) (map (number_of c.args.numbers.now) (get_or rows i [])) =
    c.as_slice.ensures.value ∙ c.pack.ensures.bytes ∙ numbers_same _ _ _ _ c.args.numbers.now _ _ inv.depth inv.columns c.row.ensures in
    let one = c.in_err-written.ensures.row row (ap row there ∙ made i lt ∙ sym bytes) in
    let here = subst (λ (r : ℕ). WritesRows row first r (r + 1) c.loop-i.written t u (Err stop)) there one in
    let all = cut_in_more row first at (at + i + 1) (at + length rows) c.args.done s u stop (omega (arith, lt))
    (rows_after row first at (at + i) (at + i + 1) c.args.done c.loop-i.written s t u (Err stop) (omega arith) (omega arith) (inv.so_far row made) here) in
    subst (λ (answer : Result ℕ Broken). WritesRows row first at (at + length rows) c.args.done s u answer) (sym (passed_on _ _ c.from_residual.ensures.1)) all

pub returns-clause-rows : goal.returns-clause-rows
returns-clause-rows g c = λ row made.
    let inv = c.loop-i.invariant in
    let rows = rows_of_band c.args.band.now in
    let at = first_of c.args.band.now in
    let end : at + c.loop-i.i ≡ at + length rows = omega (arith, c.loop-i-test.false, c.rows-count.ensures) in
    subst (λ (e : ℕ). WritesRows row c.args.first at e c.args.done (g.K.Sink.state c.args.sink.now) (g.K.Sink.state c.loop-i.sink) (Ok c.loop-i.written)) end (inv.so_far row made)
