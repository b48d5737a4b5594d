use Rattle.std.proofs.Common.{◌≡◌, ◌+◌, ℕ, length, sym, ap, subst, ◌∙◌, arith, Ok, Err, Result}
use Rattle.stroke_raster.specs.Bands.{first_of, rows_of_band}
use Rattle.smoothing.specs.Rows.{times_of, width_of}
use Rattle.rows.specs.declared.writing.Broken.{Broken}
use Rattle.rows.specs.Progress.{WritesRows}
use Rattle.rows.proofs.NumberRows.{bytes_few}
use Rattle.rows.proofs.Faults.{passed_on}
use Rattle.rows.proofs.ImageSmoothed.{sheet_pixels_same}
use Rattle.rows.proofs.WrittenRows.{cut_in_more, rows_after}
use Rattle.rows.proofs.image_smooth_bands.write_smoothed.Goals as goal

pub loop-i-preserved : goal.loop-i-preserved
loop-i-preserved g c =
    let inv = c.loop-i.invariant in
    let old = c.args.smoother.now in
    let cells = rows_of_band c.args.band.now in
    let at = c.args.at in
    let i = c.loop-i.i in
    let first = c.args.first in
    let s = g.K.Sink.state c.args.sink.now in
    let t = g.K.Sink.state c.loop-i.sink in
    let u = g.K.Sink.state c.put_row.new.sink in
    let bytes = c.as_slice.ensures.value ∙ c.make.ensures.bytes ∙ sheet_pixels_same _ old.sheet _ (times_of old.pixels) _ old.inks (first_of c.args.band.now) cells _ (width_of old.pixels) i inv.sheet inv.times inv.inks inv.width in
    record {
      so_far = λ row made.
          let one = c.in_ok-written.ensures.row row (made i c.loop-i-test.true ∙ sym bytes) in
          let all = rows_after row first at (at + i) (at + i + 1) c.args.done c.loop-i.written s t u (Ok c.in_ok-written.written) (omega arith) (omega arith) (inv.so_far row made) one in
          let there : at + i + 1 ≡ at + (i + 1) = omega arith in
          subst (λ (e : ℕ). WritesRows row first at e c.args.done s u (Ok c.in_ok-written.written)) there all;
      small = (let r = c.make.new.self.row in
          omega (
            arith,
            inv.small,
            c.in_ok-written.ensures.count,
            ap length c.as_slice.ensures.value,
            r.size,
            bytes_few r.depth r.columns,
            c.make.new.self.samples,
            c.make.ensures.width,
            inv.width,
            c.requires.narrow,
          ));
      quiet = c.in_ok-written.ensures.quiet ∙ inv.quiet;
      inks = c.make.ensures.inks ∙ inv.inks;
      sheet = c.make.ensures.sheet ∙ inv.sheet;
      times = c.make.ensures.times ∙ inv.times;
      width = c.make.ensures.width ∙ inv.width;
    }

pub returns-in_err-written-clause-rows : goal.returns-in_err-written-clause-rows
returns-in_err-written-clause-rows g c = λ row made.
    let inv = c.loop-i.invariant in
    let old = c.args.smoother.now in
    let cells = rows_of_band c.args.band.now in
    let at = c.args.at in
    let i = c.loop-i.i in
    let first = c.args.first in
    let s = g.K.Sink.state c.args.sink.now in
    let t = g.K.Sink.state c.loop-i.sink in
    let u = g.K.Sink.state c.put_row.new.sink in
    let stop : Broken = c.in_err-written.field-0.0 in
    let bytes = c.as_slice.ensures.value ∙ c.make.ensures.bytes ∙ sheet_pixels_same _ old.sheet _ (times_of old.pixels) _ old.inks (first_of c.args.band.now) cells _ (width_of old.pixels) i inv.sheet inv.times inv.inks inv.width in
    let one = c.in_err-written.ensures.row row (made i c.loop-i-test.true ∙ sym bytes) in
    let all = cut_in_more row first at (at + i + 1) (at + c.args.count) c.args.done s u stop (omega (arith, c.loop-i-test.true))
    (rows_after row first at (at + i) (at + i + 1) c.args.done c.loop-i.written s t u (Err stop) (omega arith) (omega arith) (inv.so_far row made) one) in
    subst (λ (answer : Result ℕ Broken). WritesRows row first at (at + c.args.count) c.args.done s u answer) (sym (passed_on _ _ c.from_residual.ensures.1)) all

pub returns-clause-rows : goal.returns-clause-rows
returns-clause-rows g c = λ row made.
    let inv = c.loop-i.invariant in
    let end : c.args.at + c.loop-i.i ≡ c.args.at + c.args.count = omega (arith, c.loop-i-test.false, c.loop-i.auto.i-end) in
    subst (λ (e : ℕ). WritesRows row c.args.first c.args.at e c.args.done (g.K.Sink.state c.args.sink.now) (g.K.Sink.state c.loop-i.sink) (Ok c.loop-i.written)) end (inv.so_far row made)
