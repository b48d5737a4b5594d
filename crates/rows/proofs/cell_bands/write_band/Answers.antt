use Rattle.std.proofs.Common.{arith, ◌≡◌, ◌<◌, ◌≤◌, ◌+◌, ◌-◌, ◌++◌, List, [], ℕ, length, take, drop, get_or, sym, ap, ap₂, subst, ◌∙◌, cond, nat_eq}
use Rattle.std.specs.Io.KnownBytes.{Appends}
use Rattle.stroke_raster.specs.Bands.{first_of, rows_of_band}
use Rattle.picture_out.specs.declared.inks.Ink.{Ink}
use Rattle.picture_out.specs.Forms.{row_bytes}
use Rattle.devices.specs.Sinks.{taken_of}
use Rattle.devices.proofs.KnownBytes.{written_next, cut_next}
use Rattle.rows.specs.Progress.{rows_text}
use Rattle.rows.proofs.RowTexts.{text_next, text_more}
use Rattle.rows.proofs.cell_bands.write_band.Goals as goal

pub loop-i-preserved : goal.loop-i-preserved
loop-i-preserved g c =
    let rows = rows_of_band c.args.band.now in
    let at = first_of c.args.band.now in
    let inks : List Ink = g.I.Inks.inks c.args.inks.now in
    let i = c.loop-i.i in
    let inv = c.loop-i.invariant in
    let all = rows_text c.args.form inks at rows in
    let lt : i < length rows = omega (arith, c.loop-i-test.true, c.rows-count.ensures) in
    let there : c.first.result + i ≡ at + i = ap (λ (n : ℕ). n + i) c.first.ensures in
    let piece : row_bytes c.args.form (c.first.result + i) inks c.within-cells.result ≡ row_bytes c.args.form (at + i) inks (get_or rows i []) =
    ap₂ (λ (r : ℕ) (z : List ℕ). row_bytes c.args.form r inks z) there (c.within-cells.ensures ∙ c.row.ensures) in
    let rest = rows_text c.args.form inks (at + (i + 1)) (drop (i + 1) rows) in
    let split : drop (c.loop-i.written - c.args.done) all ≡ row_bytes c.args.form (c.first.result + i) inks c.within-cells.result ++ rest =
    inv.rest ∙ text_next c.args.form inks at i rows lt ∙ ap (λ (z : List ℕ). z ++ rest) (sym piece) in
    let next = written_next _ _ _ _ _ _ all (row_bytes c.args.form (c.first.result + i) inks c.within-cells.result) rest (c.loop-i.written - c.args.done) split inv.within inv.so_far inv.quiet c.in-Ok.ensures.writes in
    let count : c.in-Ok.bytes ≡ length (row_bytes c.args.form (c.first.result + i) inks c.within-cells.result) = c.in-Ok.ensures.count in
    let moved : c.loop-i.written + c.in-Ok.bytes - c.args.done ≡ c.loop-i.written - c.args.done + length (row_bytes c.args.form (c.first.result + i) inks c.within-cells.result) = omega (arith, inv.from, count) in
    let narrow : length c.within-cells.result ≤ 619238 = rw (c.within-cells.ensures, c.row.ensures) (c.requires.columns i [] lt) in
    let P : ℕ → Type 0 = λ n. Appends (g.K.Sink.state c.args.sink.now).held (g.K.Sink.state c.put_row.new.sink).held (take n all) in
    record {
      rest = ap (λ (n : ℕ). drop n all) moved ∙ next.2;
      before = omega (arith, inv.before, count, ap length piece, text_more c.args.form inks at i rows lt);
      so_far = subst P (sym moved) next.0;
      within = omega (arith, moved, next.3);
      from = omega (arith, inv.from);
      small = omega (arith, inv.small, c.in-Ok.ensures.small, narrow);
      quiet = next.1;
    }

pub returns-in-Err-clause-rows : goal.returns-in-Err-clause-rows
returns-in-Err-clause-rows g c =
    let rows = rows_of_band c.args.band.now in
    let at = first_of c.args.band.now in
    let inks : List Ink = g.I.Inks.inks c.args.inks.now in
    let i = c.loop-i.i in
    let inv = c.loop-i.invariant in
    let all = rows_text c.args.form inks at rows in
    let lt : i < length rows = omega (arith, c.loop-i-test.true, c.rows-count.ensures) in
    let there : c.first.result + i ≡ at + i = ap (λ (n : ℕ). n + i) c.first.ensures in
    let piece : row_bytes c.args.form (c.first.result + i) inks c.within-cells.result ≡ row_bytes c.args.form (at + i) inks (get_or rows i []) =
    ap₂ (λ (r : ℕ) (z : List ℕ). row_bytes c.args.form r inks z) there (c.within-cells.ensures ∙ c.row.ensures) in
    let rest = rows_text c.args.form inks (at + (i + 1)) (drop (i + 1) rows) in
    let split : drop (c.loop-i.written - c.args.done) all ≡ row_bytes c.args.form (c.first.result + i) inks c.within-cells.result ++ rest =
    inv.rest ∙ text_next c.args.form inks at i rows lt ∙ ap (λ (z : List ℕ). z ++ rest) (sym piece) in
    let moved : c.loop-i.written + c.bytes.result - c.args.done ≡ c.loop-i.written - c.args.done + taken_of c.in-Err.fault = omega (arith, inv.from, c.bytes.ensures) in
    let cut = cut_next _ _ _ _ _ _ all (row_bytes c.args.form (c.first.result + i) inks c.within-cells.result) rest (c.loop-i.written - c.args.done) _ _ split inv.within inv.so_far inv.quiet c.in-Err.ensures.writes moved in
    record {
      written = cut.0;
      failed = cut.2;
      k = i;
      stopped = record {
        inside = lt;
        row = there;
        from = omega (arith, inv.before);
        to = omega (arith, inv.before, c.bytes.ensures, c.in-Err.ensures.writes.1, ap length piece);
        whole = c.whole_before.ensures ∙ ap₂ (λ (r d : ℕ). cond (nat_eq r c.args.first) 0 d) there inv.before;
      };
    }
