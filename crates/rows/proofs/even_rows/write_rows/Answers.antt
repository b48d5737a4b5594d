use Rattle.std.proofs.Common.{◌≡◌, ◌<◌, ◌+◌, ◌-◌, ◌*◌, ◌/◌, ℕ, List, [], length, take, get_or, refl, sym, ap, subst, ◌∙◌, arith, cond, nat_eq}
use Rattle.std.proofs.Math.Nat.{div-lt_iff_lt-mul, mod-lt}
use Rattle.std.proofs.lemmas.List.{length-take-le}
use Rattle.std.proofs.lemmas.Nat.{div-add-mod'}
use Rattle.std.specs.Io.KnownBytes.{Appends}
use Rattle.picture_out.specs.Forms.{row_bytes}
use Rattle.devices.specs.Sinks.{taken_of}
use Rattle.rows.specs.Progress.{rows_text}
use Rattle.rows.proofs.EvenRows.{first_even, text_size}
use Rattle.rows.proofs.even_rows.write_rows.Goals as goal

pub returns-in-Err-clause-rows : goal.returns-in-Err-clause-rows
returns-in-Err-clause-rows g c = λ form inks rows even text.
    let at = c.args.at in
    let taken : c.bytes-taken.result ≡ taken_of c.in-Err.fault = c.bytes-taken.ensures in
    let cut = c.in-Err.ensures.writes in
    let all = text_size form inks at c.args.size rows even in
    let size : length c.args.bytes.now ≡ length rows * c.args.size = ap length text ∙ all in
    let inside : c.bytes-taken.result / c.args.size < length rows = (div-lt_iff_lt-mul c.requires.size_in).1 (omega (arith, taken, cut.1, size)) in
    let before : length (rows_text form inks at (take (c.bytes-taken.result / c.args.size) rows)) ≡ c.bytes-taken.result / c.args.size * c.args.size =
    text_size form inks at c.args.size (take (c.bytes-taken.result / c.args.size) rows) (first_even form inks at c.args.size (c.bytes-taken.result / c.args.size) rows (omega (arith, inside)) even)
    ∙ ap (λ (n : ℕ). n * c.args.size) (length-take-le (c.bytes-taken.result / c.args.size) rows (omega (arith, inside))) in
    let rest = mod-lt c.bytes-taken.result c.requires.size_in in
    let parts = div-add-mod' c.bytes-taken.result c.args.size in
    let one : length (row_bytes form (at + c.bytes-taken.result / c.args.size) inks (get_or rows (c.bytes-taken.result / c.args.size) [])) ≡ c.args.size = even (c.bytes-taken.result / c.args.size) inside in
    let here : c.args.done + c.bytes-taken.result - c.args.done ≡ taken_of c.in-Err.fault = omega (arith, taken) in
    record {
      written = subst (λ (z : List ℕ). Appends (g.K.Sink.state c.args.sink.now).held (g.K.Sink.state c.put_all.new.sink).held (take (c.args.done + c.bytes-taken.result - c.args.done) z)) text
          (subst (λ (n : ℕ). Appends (g.K.Sink.state c.args.sink.now).held (g.K.Sink.state c.put_all.new.sink).held (take n c.args.bytes.now)) (sym here) cut.0);
      failed = cut.2;
      k = c.bytes-taken.result / c.args.size;
      stopped = record {
        inside = inside;
        row = refl;
        from = omega (arith, before, parts);
        to = omega (arith, before, parts, rest, one);
        whole = c.whole_before.ensures ∙ ap (λ (n : ℕ). cond (nat_eq (at + c.bytes-taken.result / c.args.size) c.args.first) 0 (c.args.done + n)) (sym before);
      };
    }
