use Rattle.std.proofs.Common.{◌≡◌, ◌≤◌, ◌-◌, ℕ, List, refl, sym, ap, subst, ◌∙◌, arith, rules, Result, Ok, Err}
use Rattle.rows.specs.declared.writing.Broken.{Broken}
use Rattle.rows.specs.Pictures.{Reach}
use Rattle.rows.specs.Progress.{WritesRows}
use Rattle.rows.proofs.Watched.{told_all, told_more, told_nothing, told_some}
use Rattle.rows.proofs.WrittenRows.{rows_after, cut_in_more}
use Rattle.rows.proofs.writing.write_left.Goals as goal

pub each-init : goal.each-init
each-init g c = record {
  so_far = search rules;
  text = refl;
  ends = refl;
  next = sym c.next_row-first.ensures.next;
  from = omega (arith, c.next_row-first.ensures.next);
  to = omega (arith, c.next_row-first.ensures.next, c.next_row-first.ensures.within, c.end_row-end.ensures.end);
  most = omega (arith, c.end_row-end.ensures.most);
  small = omega (arith, c.requires.few);
  same = refl;
  told = told_nothing g.W.Watcher.hears (c.end_row-end.result - c.next_row-first.result) c.next_row-first.result c.args.watcher.now;
  tests = omega arith;
}

pub each-preserved : goal.each-preserved
each-preserved g c =
    let inv = c.each.invariant in
    let made = c.in-Ok.ensures in
    let reaches : Reach = g.G.Gauge.reaches c.args.gauge.now in
    let row : ℕ → List ℕ = g.B.Bands.row_text c.args.bands.now reaches in
    let first = g.B.Bands.next c.args.bands.now in
    let was = g.K.Sink.state c.each.sink in
    let is = g.K.Sink.state c.write_next.new.sink in
    let W : ℕ → ℕ → ℕ → (ℕ → List ℕ) → Type 0 = λ from at end text. WritesRows text from at end c.each.written was is (Ok c.in-Ok.bytes) in
    let same : g.B.Bands.row_text c.each.bands (g.G.Gauge.reaches c.each.gauge) ≡ row =
    ap (λ (f : Reach → ℕ → List ℕ). f (g.G.Gauge.reaches c.each.gauge)) inv.text ∙ ap (g.B.Bands.row_text c.args.bands.now) inv.same in
    let there : g.B.Bands.next c.write_next.new.self ≡ c.next_row-at.result = sym c.next_row-at.ensures.next in
    let wrote = subst (λ (k : ℕ). W k c.each.at c.next_row-at.result row) c.next_row-first.ensures.next
    (subst (λ (k : ℕ). W c.next_row-first.result c.each.at k row) there
    (subst (λ (k : ℕ). W c.next_row-first.result k (g.B.Bands.next c.write_next.new.self) row) inv.next
    (subst (W c.next_row-first.result (g.B.Bands.next c.each.bands) (g.B.Bands.next c.write_next.new.self)) same made.writes))) in
    let later : c.each.at ≤ c.next_row-at.result = omega (arith, there, inv.next, made.some) in
    let ends_are : g.B.Bands.end c.write_next.new.self ≡ c.end_row-end.result = made.end ∙ inv.ends ∙ sym c.end_row-end.ensures.end in
    record {
      so_far = rows_after row first first c.each.at c.next_row-at.result c.args.done c.each.written (g.K.Sink.state c.args.sink.now) was is (Ok c.in-Ok.bytes) inv.from later inv.so_far wrote;
      text = made.text ∙ inv.text;
      ends = made.end ∙ inv.ends;
      next = there;
      from = omega (arith, inv.from, later);
      to = omega (arith, made.within, ends_are, there);
      most = inv.most;
      small = omega (arith, inv.small, made.small, inv.next, there, later);
      same = made.same ∙ inv.same;
      told = told_more g.W.Watcher.hears c.next_row-first.result c.each.at c.next_row-at.result c.end_row-end.result c.args.watcher.now c.each.watcher c.tell.new.watcher
          (omega (arith, inv.from, c.next_row-first.ensures.next)) (omega (arith, there, inv.next, made.some)) (omega (arith, made.within, ends_are, there)) inv.told c.tell.ensures;
      tests = omega (arith, inv.tests, made.tests);
    }

pub returns-in-Err-clause-writes : goal.returns-in-Err-clause-writes
returns-in-Err-clause-writes g c =
    let inv = c.each.invariant in
    let made = c.in-Err.ensures in
    let reaches : Reach = g.G.Gauge.reaches c.args.gauge.now in
    let row : ℕ → List ℕ = g.B.Bands.row_text c.args.bands.now reaches in
    let first = g.B.Bands.next c.args.bands.now in
    let end = g.B.Bands.next c.write_next.new.self in
    let was = g.K.Sink.state c.each.sink in
    let is = g.K.Sink.state c.write_next.new.sink in
    let answer : Result ℕ Broken = Err c.in-Err.stop in
    let W : ℕ → ℕ → (ℕ → List ℕ) → Type 0 = λ from at text. WritesRows text from at end c.each.written was is answer in
    let same : g.B.Bands.row_text c.each.bands (g.G.Gauge.reaches c.each.gauge) ≡ row =
    ap (λ (f : Reach → ℕ → List ℕ). f (g.G.Gauge.reaches c.each.gauge)) inv.text ∙ ap (g.B.Bands.row_text c.args.bands.now) inv.same in
    let wrote = subst (λ (k : ℕ). W k c.each.at row) c.next_row-first.ensures.next
    (subst (λ (k : ℕ). W c.next_row-first.result k row) inv.next (subst (W c.next_row-first.result (g.B.Bands.next c.each.bands)) same made.writes)) in
    let later : c.each.at ≤ end = omega (arith, inv.next, made.some) in
    let within : end ≤ g.B.Bands.end c.args.bands.now = omega (arith, made.within, made.end, inv.ends) in
    cut_in_more row first first end (g.B.Bands.end c.args.bands.now) c.args.done (g.K.Sink.state c.args.sink.now) is c.in-Err.stop within
    (rows_after row first first c.each.at end c.args.done c.each.written (g.K.Sink.state c.args.sink.now) was is answer inv.from later inv.so_far wrote)

pub returns-in-Err-clause-told : goal.returns-in-Err-clause-told
returns-in-Err-clause-told g c =
    told_some g.W.Watcher.hears (c.end_row-end.result - c.next_row-first.result) _ _ c.args.watcher.now c.each.watcher
    (omega (arith, c.end_row-end.ensures.end, c.next_row-first.ensures.next)) c.each.invariant.told

pub returns-clause-told : goal.returns-clause-told
returns-clause-told g c =
    let inv = c.each.invariant in
    told_all g.W.Watcher.hears c.next_row-first.result c.each.at c.end_row-end.result (g.B.Bands.next c.args.bands.now) (g.B.Bands.end c.args.bands.now)
    c.args.watcher.now c.each.watcher (omega arith) inv.to c.end_row-end.ensures.end c.next_row-first.ensures.next inv.told
