use Rattle.std.proofs.Common.{rules, drop, ◌≡◌, ℕ, ◌+◌, ◌-◌, ◌*◌, ◌/◌, ◌%◌, ◌<◌, ◌≤◌, true, false, nat_lt, length}
use Rattle.std.proofs.Common.{get_or, cond, refl, sym, ap, ap₂, ◌∙◌, arith, inl, inr}
use Rattle.std.proofs.lemmas.Bool.Decides.{nat_tests}
use Rattle.std.proofs.lemmas.Bool.{cases_lt}
use Rattle.std.proofs.Math.Nat.{div-lt_iff_lt-mul}
use Rattle.std.proofs.lemmas.Nat.{div-mul-add, mod-mul-add, mul-le}
use Rattle.std.proofs.lemmas.List.{places, length-take}
use borrow.Rule.Slice.PartMut.{put_mid, mid_of, same_len_mid}
use Rattle.plot_page.specs.Segments.{Segment}
use Rattle.plot_page.specs.declared.dots.Dots.{Dots}
use Rattle.stroke_raster.specs.Boxes.{in_box}
use Rattle.stroke_raster.proofs.BoxCounts.{box_part_in}
use Rattle.stroke_raster.proofs.Middle.{row_step, mid_length}
use Rattle.stroke_raster.proofs.Parts.{row_more}
use Rattle.stroke_raster.proofs.ReachedRows.{least_joined, none_counted, none_has, part_has_all, row_counted}
use Rattle.stroke_raster.proofs.Slots.{beside, line_as, told}
use Rattle.stroke_raster.proofs.Spans.{part_step, unpainted, spanned_painted}
use Rattle.stroke_raster.proofs.Written.{whole}
use Rattle.stroke_raster.proofs.cells.CellsCanvas.paint.Goals as goal

pub loop-row-init : goal.loop-row-init
loop-row-init g c =
    let C : ℕ = c.args.self.now.columns in
    let covers = λ (r k : ℕ). g.G.Gauge.reaches c.args.gauge.now c.args.stroke.now c.args.page.now c.args.dots r k in
    let value = c.as_mut_slice-cells.ensures.value in
    let none : c.min-low.result - c.min-low.result ≡ 0 = omega arith in
    record {
      painted = λ q u.
          let row : q / c.args.self.now.columns < c.args.self.now.rows = (div-lt_iff_lt-mul c.requires.sound.some).1 (omega (arith, u, c.requires.sound.wide)) in
          rw value (elim (cases_lt (c.args.first + q / c.args.self.now.columns) c.min-low.result) [
            | inl l ↦ (let f : g.G.Gauge.reaches c.args.gauge.now c.args.stroke.now c.args.page.now c.args.dots (c.args.first + q / c.args.self.now.columns) (q % c.args.self.now.columns) ≡ false =
                beside _ _ (c.requires.boxed c.args.stroke.now c.args.page.now c.args.dots (c.args.first + q / c.args.self.now.columns) (q % c.args.self.now.columns))
                (λ b. let x = c.extent_of-extent.ensures.row_in (c.args.first + q / c.args.self.now.columns) (q % c.args.self.now.columns) (omega (arith, row, c.requires.rows_in)) b in absurd (omega (arith, x.0, l, c.min-low.ensures, c.max.ensures))) in
                let t : nat_lt (c.args.first + q / c.args.self.now.columns) c.min-low.result ≡ true = grind (arith, nat_tests) in
                sym (rw (t, f) refl))
            | inr l ↦ (let t : nat_lt (c.args.first + q / c.args.self.now.columns) c.min-low.result ≡ false = grind (arith, nat_tests) in
                sym (rw t refl))
          ]);
      same = refl;
      least = (let n = none_counted covers c.min-low.result c.extent_of-extent.result.columns.low (c.extent_of-extent.result.columns.end - c.extent_of-extent.result.columns.low) in rw n (omega arith));
      most = rw none (omega arith);
      spanned = rw (c.as_mut_slice-spans.ensures.value, value) c.requires.sound.spanned;
      grows = omega arith;
    }

pub slice_bounds-line-end : goal.slice_bounds-line-end
slice_bounds-line-end g c =
    let most : c.extent_of-extent.result.columns.end ≤ c.args.self.now.columns = rw c.requires.width c.extent_of-extent.ensures.columns in
    let low : c.args.first ≤ c.loop-row.row = omega (arith, c.loop-row.auto.row, c.min-low.ensures, c.max-end.ensures, c.max.ensures) in
    let tall : c.loop-row.row - c.args.first < c.args.self.now.rows = omega (arith, low, c.loop-row-test.true, c.max-end.ensures, c.min.ensures) in
    let p : (c.loop-row.row - c.args.first + 1) * c.args.self.now.columns ≤ c.args.self.now.rows * c.args.self.now.columns = mul-le (c.loop-row.row - c.args.first + 1) c.args.self.now.columns c.args.self.now.rows c.args.self.now.columns (omega (arith, tall)) (omega arith) in
    let len : length c.loop-row.cells ≡ length c.args.self.now.cells.items = c.loop-row.auto.cells ∙ ap length c.as_mut_slice-cells.ensures.value in
    omega (arith, p, most, len, c.requires.sound.wide)

pub paint-run-requires-clause-boxed : goal.paint-run-requires-clause-boxed
paint-run-requires-clause-boxed g c =
    let low : c.args.first ≤ c.loop-row.row = omega (arith, c.loop-row.auto.row, c.min-low.ensures, c.max-end.ensures, c.max.ensures) in
    let from : c.extent_of-extent.result.rows.low ≤ c.loop-row.row = omega (arith, c.loop-row.auto.row, c.loop-row-test.true, c.min-low.ensures, c.max-end.ensures, c.max.ensures, c.min.ensures) in
    let to : c.loop-row.row < c.extent_of-extent.result.rows.end = omega (arith, c.loop-row-test.true, c.max-end.ensures, c.min.ensures, low) in
    let k : ℕ = (c.loop-row.row - c.args.first) * c.args.self.now.columns in
    λ i u.
    let v : i < k + c.extent_of-extent.result.columns.end - (k + c.extent_of-extent.result.columns.low) = omega (arith, u, length-take (k + c.extent_of-extent.result.columns.end - (k + c.extent_of-extent.result.columns.low)) (drop (k + c.extent_of-extent.result.columns.low) c.loop-row.cells)) in
    ap₂ (λ (s : Segment) (d : Dots). in_box s c.args.page.now d c.loop-row.row (c.extent_of-extent.result.columns.low + i)) c.trace_of-trace.ensures.stroke c.trace_of-trace.ensures.dots
    ∙ c.extent_of-extent.ensures.full c.loop-row.row (c.extent_of-extent.result.columns.low + i) from to (omega arith) (omega (arith, v))

pub joined-requires-clause-first_order : goal.joined-requires-clause-first_order
joined-requires-clause-first_order g c =
    let low : c.args.first ≤ c.loop-row.row = omega (arith, c.loop-row.auto.row, c.min-low.ensures, c.max-end.ensures, c.max.ensures) in
    let tall : c.loop-row.row - c.args.first < c.args.self.now.rows = omega (arith, low, c.loop-row-test.true, c.max-end.ensures, c.min.ensures) in
    let len : length c.loop-row.spans ≡ c.args.self.now.rows = c.loop-row.auto.spans ∙ ap length c.as_mut_slice-spans.ensures.value ∙ c.requires.sound.tall in
    c.loop-row.invariant.spanned.order (c.loop-row.row - c.args.first) (omega (arith, tall, len))

pub loop-row-preserved : goal.loop-row-preserved
loop-row-preserved g c =
    let painted = rw (c.trace_of-trace.ensures.stroke, c.trace_of-trace.ensures.dots) at c.paint-run.ensures in
    let covers = λ (r k : ℕ). g.G.Gauge.reaches c.args.gauge.now c.args.stroke.now c.args.page.now c.args.dots r k in
    let inv = c.loop-row.invariant in
    let wide : 0 < c.args.self.now.columns = c.requires.sound.some in
    let C : ℕ = c.args.self.now.columns in
    let from : ℕ = c.extent_of-extent.result.columns.low in
    let upto : ℕ = c.extent_of-extent.result.columns.end in
    let row : ℕ = c.loop-row.row in
    let A : ℕ = (c.loop-row.row - c.args.first) * c.args.self.now.columns + c.extent_of-extent.result.columns.low in
    let K : ℕ = (c.loop-row.row - c.args.first) * c.args.self.now.columns + c.extent_of-extent.result.columns.end - ((c.loop-row.row - c.args.first) * c.args.self.now.columns + c.extent_of-extent.result.columns.low) in
    let order : c.extent_of-extent.result.columns.low ≤ c.extent_of-extent.result.columns.end = c.extent_of-extent.ensures.columns_order in
    let most : c.extent_of-extent.result.columns.end ≤ c.args.self.now.columns = rw c.requires.width c.extent_of-extent.ensures.columns in
    let low : c.args.first ≤ c.loop-row.row = omega (arith, c.loop-row.auto.row, c.min-low.ensures, c.max-end.ensures, c.max.ensures) in
    let tall : c.loop-row.row - c.args.first < c.args.self.now.rows = omega (arith, low, c.loop-row-test.true, c.max-end.ensures, c.min.ensures) in
    let p : (c.loop-row.row - c.args.first + 1) * c.args.self.now.columns ≤ c.args.self.now.rows * c.args.self.now.columns = mul-le (c.loop-row.row - c.args.first + 1) c.args.self.now.columns c.args.self.now.rows c.args.self.now.columns (omega (arith, tall)) (omega arith) in
    let len : length c.loop-row.cells ≡ length c.args.self.now.cells.items = c.loop-row.auto.cells ∙ ap length c.as_mut_slice-cells.ensures.value in
    let held : length c.loop-row.spans ≡ c.args.self.now.rows = c.loop-row.auto.spans ∙ ap length c.as_mut_slice-spans.ensures.value ∙ c.requires.sound.tall in
    let fit : (c.loop-row.row - c.args.first) * c.args.self.now.columns + c.extent_of-extent.result.columns.end ≤ length c.loop-row.cells = omega (arith, p, most, len, c.requires.sound.wide) in
    let eK : K ≡ c.extent_of-extent.result.columns.end - c.extent_of-extent.result.columns.low = omega arith in
    let lm = mid_length A K c.loop-row.cells (omega (arith, fit, order)) in
    let line : length c.paint-run.new.cells ≡ K = omega (arith, c.paint-run.auto.cells, lm) in
    let front : (k : ℕ) → k < c.extent_of-extent.result.columns.low → covers c.loop-row.row k ≡ false = (λ k v. beside (covers c.loop-row.row k) (in_box c.args.stroke.now c.args.page.now c.args.dots c.loop-row.row k) (c.requires.boxed c.args.stroke.now c.args.page.now c.args.dots c.loop-row.row k)
    (λ b. let x = c.extent_of-extent.ensures.column_in c.loop-row.row k (omega (arith, v, order, c.extent_of-extent.ensures.columns)) b in absurd (omega (arith, x.0, v)))) in
    let after : (k : ℕ) → c.extent_of-extent.result.columns.end ≤ k → k < c.args.self.now.columns → covers c.loop-row.row k ≡ false = (λ k v w. beside (covers c.loop-row.row k) (in_box c.args.stroke.now c.args.page.now c.args.dots c.loop-row.row k) (c.requires.boxed c.args.stroke.now c.args.page.now c.args.dots c.loop-row.row k)
    (λ b. let x = c.extent_of-extent.ensures.column_in c.loop-row.row k (omega (arith, w, c.requires.width)) b in absurd (omega (arith, x.1, v)))) in
    let cells : (i : ℕ) → i < K → get_or c.paint-run.new.cells i 0 ≡ cond (covers c.loop-row.row (c.extent_of-extent.result.columns.low + i)) c.args.position (get_or (mid_of A K c.loop-row.cells) i 0) =
    line_as (g.G.Gauge.reaches c.loop-row.gauge) (g.G.Gauge.reaches c.args.gauge.now) inv.same c.args.stroke.now c.args.page.now c.args.dots c.loop-row.row from K c.args.position (mid_of A K c.loop-row.cells) c.paint-run.new.cells painted.cells (omega (arith, lm)) in
    let columns : length (mid_of A K c.loop-row.cells) ≡ c.extent_of-extent.result.columns.end - c.extent_of-extent.result.columns.low = lm ∙ eK in
    record {
      painted = λ q u. row_step covers c.args.position c.args.first row C from upto A K c.args.self.now.cells.items c.loop-row.cells c.paint-run.new.cells wide low order most fit refl eK front after line
          (λ i v. inv.painted i (omega (arith, v, len))) cells q (omega (arith, u, len));
      same = painted.same ∙ inv.same;
      least = (let r = row_counted covers c.min-low.result c.loop-row.row from (upto - from) c.loop-row.auto.row in
          let m = rw (inv.same, columns) at painted.least in
          rw r (least_joined (g.G.Gauge.count c.args.gauge.now) _ _ (g.G.Gauge.count c.loop-row.gauge) (g.G.Gauge.count c.paint-run.new.self) inv.least m));
      most = (let r = row_more c.min-low.result c.loop-row.row (c.extent_of-extent.result.columns.end - c.extent_of-extent.result.columns.low) c.loop-row.auto.row in
          omega (arith, r, painted.most, columns, inv.most));
      spanned = spanned_painted (covers row) C (c.loop-row.row - c.args.first) c.args.position c.loop-row.spans _ c.joined.result (record { low = c.extent_of-extent.result.columns.low + c.paint-run.result.low; end = c.extent_of-extent.result.columns.low + c.paint-run.result.end })
          c.loop-row.cells (put_mid A K c.loop-row.cells c.paint-run.new.cells) wide inv.spanned (omega (arith, tall, held)) refl
          c.joined.ensures.order (let h = inv.spanned.high (c.loop-row.row - c.args.first) (omega (arith, tall, held)) in omega (arith, h, c.joined.ensures.high, painted.high, columns, order, most)) (same_len_mid A K c.loop-row.cells c.paint-run.new.cells (omega (arith, c.paint-run.auto.cells)))
          (part_step (covers row) c.args.position (c.loop-row.row - c.args.first) C from upto A K c.loop-row.cells c.paint-run.new.cells wide order most fit refl eK front after line cells)
          c.joined.ensures.first c.joined.ensures.second
          (unpainted (covers row) from upto C c.paint-run.result.low c.paint-run.result.end order front after
          (λ i u. told (g.G.Gauge.reaches c.loop-row.gauge) (g.G.Gauge.reaches c.args.gauge.now) inv.same c.args.stroke.now c.args.page.now c.args.dots row (c.extent_of-extent.result.columns.low + i) (painted.before i u))
          (λ i u v. told (g.G.Gauge.reaches c.loop-row.gauge) (g.G.Gauge.reaches c.args.gauge.now) inv.same c.args.stroke.now c.args.page.now c.args.dots row (c.extent_of-extent.result.columns.low + i) (painted.after i u (omega (arith, v, columns)))))
          (search (rules, places));
      grows = omega (arith, painted.grows, inv.grows);
    }

pub returns-clause-sound : goal.returns-clause-sound
returns-clause-sound g c =
    let len : length c.loop-row.cells ≡ length c.args.self.now.cells.items = c.loop-row.auto.cells ∙ ap length c.as_mut_slice-cells.ensures.value in
    let held : length c.loop-row.spans ≡ length c.args.self.now.spans.items = c.loop-row.auto.spans ∙ ap length c.as_mut_slice-spans.ensures.value in
    rw (whole c.loop-row.cells _ c.args.self.now.cells.len (search rules), whole c.loop-row.spans _ c.args.self.now.spans.len (search rules)) (record {
      some = c.requires.sound.some;
      tall = held ∙ c.requires.sound.tall;
      wide = len ∙ c.requires.sound.wide;
      spanned = c.loop-row.invariant.spanned;
    })

pub returns-clause-pixels : goal.returns-clause-pixels
returns-clause-pixels g c =
    let C : ℕ = c.args.self.now.columns in
    let len : length c.loop-row.cells ≡ length c.args.self.now.cells.items = c.loop-row.auto.cells ∙ ap length c.as_mut_slice-cells.ensures.value in
    λ r k u v.
    let w : (r + 1) * c.args.self.now.columns ≤ c.args.self.now.rows * c.args.self.now.columns = mul-le (r + 1) c.args.self.now.columns c.args.self.now.rows c.args.self.now.columns (omega (arith, u)) (omega arith) in
    let d = div-mul-add r c.args.self.now.columns k v in
    let m = mod-mul-add r c.args.self.now.columns k v in
    let p = rw (d, m) at (c.loop-row.invariant.painted (r * c.args.self.now.columns + k) (omega (arith, w, v, c.requires.sound.wide))) in
    rw (whole c.loop-row.cells _ c.args.self.now.cells.len (search rules))
    (elim (cases_lt (c.args.first + r) c.loop-row.row) [
      | inl l ↦ (let t : nat_lt (c.args.first + r) c.loop-row.row ≡ true = grind (arith, nat_tests) in rw t at p)
      | inr l ↦ (let t : nat_lt (c.args.first + r) c.loop-row.row ≡ false = grind (arith, nat_tests) in
          let f : g.G.Gauge.reaches c.args.gauge.now c.args.stroke.now c.args.page.now c.args.dots (c.args.first + r) k ≡ false =
          beside _ _ (c.requires.boxed c.args.stroke.now c.args.page.now c.args.dots (c.args.first + r) k)
          (λ b. let x = c.extent_of-extent.ensures.row_in (c.args.first + r) k (omega (arith, u, c.requires.rows_in)) b in absurd (omega (arith, x.1, l, u, c.loop-row-test.false, c.max-end.ensures, c.min.ensures))) in
          rw t at p ∙ sym (rw f refl))
    ])

pub returns-then-extent-clause-pixels : goal.returns-then-extent-clause-pixels
returns-then-extent-clause-pixels g c =
    λ r k u v.
    let f : g.G.Gauge.reaches c.args.gauge.now c.args.stroke.now c.args.page.now c.args.dots (c.args.first + r) k ≡ false =
    beside _ _ (c.requires.boxed c.args.stroke.now c.args.page.now c.args.dots (c.args.first + r) k)
    (λ b. let x = c.extent_of-extent.ensures.column_in (c.args.first + r) k (omega (arith, v, c.requires.width)) b in absurd (omega (arith, x.0, x.1, c.if-extent.true))) in
    sym (rw f refl)

pub returns-then-extent-clause-least : goal.returns-then-extent-clause-least
returns-then-extent-clause-least g c =
    let covers = λ (r k : ℕ). g.G.Gauge.reaches c.args.gauge.now c.args.stroke.now c.args.page.now c.args.dots r k in
    let n = none_has covers c.args.first c.args.self.now.rows c.args.self.now.columns (λ r k u v. beside _ _ (c.requires.boxed c.args.stroke.now c.args.page.now c.args.dots (c.args.first + r) k)
    (λ b. let x = c.extent_of-extent.ensures.column_in (c.args.first + r) k (omega (arith, v, c.requires.width)) b in absurd (omega (arith, x.0, x.1, c.if-extent.true)))) in
    rw n (omega arith)

pub returns-clause-least : goal.returns-clause-least
returns-clause-least g c =
    let covers = λ (r k : ℕ). g.G.Gauge.reaches c.args.gauge.now c.args.stroke.now c.args.page.now c.args.dots r k in
    let e : c.loop-row.row ≡ c.max-end.result = omega (arith, c.loop-row.auto.row-end (omega (arith, c.min-low.ensures)), c.loop-row-test.false) in
    let h = part_has_all covers c.args.first c.min-low.result c.max-end.result c.extent_of-extent.result.columns.low c.extent_of-extent.result.columns.end c.args.self.now.columns c.args.self.now.rows
    (omega (arith, c.min-low.ensures, c.max-end.ensures, c.max.ensures)) (omega (arith, c.min-low.ensures)) (omega (arith, c.max-end.ensures, c.min.ensures))
    (λ r k u v f. let b = c.requires.boxed c.args.stroke.now c.args.page.now c.args.dots (c.args.first + r) k f in
    let x = c.extent_of-extent.ensures.row_in (c.args.first + r) k (omega (arith, u, c.requires.rows_in)) b in
    let y = c.extent_of-extent.ensures.column_in (c.args.first + r) k (omega (arith, v, c.requires.width)) b in
    (omega (arith, x.0, c.min-low.ensures, c.max.ensures), (omega (arith, x.1, u, c.max-end.ensures, c.min.ensures), y))) in
    let m = rw e at c.loop-row.invariant.least in
    omega (arith, h, m)

pub returns-clause-most : goal.returns-clause-most
returns-clause-most g c =
    let e : c.loop-row.row ≡ c.max-end.result = omega (arith, c.loop-row.auto.row-end (omega (arith, c.min-low.ensures)), c.loop-row-test.false) in
    let b = box_part_in (λ (s : Segment). in_box s c.args.page.now c.args.dots) c.args.stroke.now c.args.first c.args.self.now.rows c.min-low.result c.max-end.result c.args.self.now.columns c.extent_of-extent.result.columns.low c.extent_of-extent.result.columns.end
    (omega (arith, c.min-low.ensures, c.max-end.ensures, c.max.ensures)) (omega (arith, c.min-low.ensures)) (omega (arith, c.max-end.ensures, c.min.ensures))
    (λ row k x y. c.extent_of-extent.ensures.full row k (omega (arith, x, y, c.min-low.ensures, c.max.ensures)) (omega (arith, x, y, c.min-low.ensures, c.max-end.ensures, c.min.ensures, c.max.ensures)))
    (omega (arith, c.extent_of-extent.ensures.columns, c.requires.width)) in
    let m = rw e at c.loop-row.invariant.most in
    omega (arith, b, m)
