use Rattle.std.proofs.Common.{◌≡◌, ◌<◌, ◌+◌, ℕ, length, sym, ap, subst, ◌∙◌, arith, Ok, Err, Result}
use Rattle.stroke_raster.specs.Bands.{first_of, rows_of_band}
use Rattle.rows.specs.declared.writing.Broken.{Broken}
use Rattle.rows.specs.Progress.{WritesRows}
use Rattle.rows.proofs.Faults.{passed_on}
use Rattle.rows.proofs.ImageRows.{image_bytes_same}
use Rattle.rows.proofs.WrittenRows.{cut_in_more, rows_after}
use Rattle.rows.proofs.image_bands.write_with_images.Goals as goal

pub loop-i-preserved : goal.loop-i-preserved
loop-i-preserved g c =
    let inv = c.loop-i.invariant in
    let rows = rows_of_band c.args.band.now in
    let at = first_of c.args.band.now in
    let i = c.loop-i.i in
    let first = c.args.first in
    let s = g.K.Sink.state c.args.sink.now in
    let t = g.K.Sink.state c.loop-i.sink in
    let u = g.K.Sink.state c.put.new.sink in
    let lt : i < length rows = omega (arith, c.loop-i-test.true, c.rows-count.ensures) in
    let there : c.first.result + i ≡ at + i = ap (λ (n : ℕ). n + i) c.first.ensures in
    let bytes = image_bytes_same _ _ _ _ _ _ _ _ _ _ _ _ _ _ inv.form there inv.inks inv.images inv.page inv.dots c.row.ensures in
    record {
      so_far = λ text made.
          let one = c.in_ok-written.ensures.row text (ap text there ∙ made i lt ∙ sym bytes) in
          let here = subst (λ (r : ℕ). WritesRows text first r (r + 1) c.loop-i.written t u (Ok c.in_ok-written.written)) there one in
          let all = rows_after text first at (at + i) (at + i + 1) c.args.done c.loop-i.written s t u (Ok c.in_ok-written.written) (omega arith) (omega arith) (inv.so_far text made) here in
          let next : at + i + 1 ≡ at + (i + 1) = omega arith in
          subst (λ (e : ℕ). WritesRows text first at e c.args.done s u (Ok c.in_ok-written.written)) next all;
      small = omega (arith, inv.small, c.in_ok-written.ensures.count);
      quiet = c.in_ok-written.ensures.quiet ∙ inv.quiet;
      images = c.put.ensures.images ∙ inv.images;
      page = c.put.ensures.page ∙ inv.page;
      dots = c.put.ensures.dots ∙ inv.dots;
      form = c.put.ensures.form ∙ inv.form;
      inks = c.put.ensures.inks ∙ inv.inks;
    }

pub returns-in_err-written-clause-rows : goal.returns-in_err-written-clause-rows
returns-in_err-written-clause-rows g c = λ text made.
    let inv = c.loop-i.invariant in
    let rows = rows_of_band c.args.band.now in
    let at = first_of c.args.band.now in
    let i = c.loop-i.i in
    let first = c.args.first in
    let s = g.K.Sink.state c.args.sink.now in
    let t = g.K.Sink.state c.loop-i.sink in
    let u = g.K.Sink.state c.put.new.sink in
    let lt : i < length rows = omega (arith, c.loop-i-test.true, c.rows-count.ensures) in
    let there : c.first.result + i ≡ at + i = ap (λ (n : ℕ). n + i) c.first.ensures in
    let stop : Broken = c.in_err-written.field-0.0 in
    let bytes = image_bytes_same _ _ _ _ _ _ _ _ _ _ _ _ _ _ inv.form there inv.inks inv.images inv.page inv.dots c.row.ensures in
    let one = c.in_err-written.ensures.row text (ap text there ∙ made i lt ∙ sym bytes) in
    let here = subst (λ (r : ℕ). WritesRows text first r (r + 1) c.loop-i.written t u (Err stop)) there one in
    let all = cut_in_more text first at (at + i + 1) (at + length rows) c.args.done s u stop (omega (arith, lt))
    (rows_after text first at (at + i) (at + i + 1) c.args.done c.loop-i.written s t u (Err stop) (omega arith) (omega arith) (inv.so_far text made) here) in
    subst (λ (answer : Result ℕ Broken). WritesRows text first at (at + length rows) c.args.done s u answer) (sym (passed_on _ _ c.from_residual.ensures.1)) all

pub returns-clause-rows : goal.returns-clause-rows
returns-clause-rows g c = λ text made.
    let inv = c.loop-i.invariant in
    let rows = rows_of_band c.args.band.now in
    let at = first_of c.args.band.now in
    let end : at + c.loop-i.i ≡ at + length rows = omega (arith, c.loop-i-test.false, c.rows-count.ensures) in
    subst (λ (e : ℕ). WritesRows text c.args.first at e c.args.done (g.K.Sink.state c.args.sink.now) (g.K.Sink.state c.loop-i.sink) (Ok c.loop-i.written)) end (inv.so_far text made)
