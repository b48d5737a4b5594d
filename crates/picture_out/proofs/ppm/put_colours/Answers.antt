use Rattle.std.proofs.Common.{◌≡◌, ℕ, List, ◌+◌, ◌-◌, ◌*◌, ◌/◌, ◌∙◌, ◌<◌, ◌≤◌, ◌++◌, length, get_or, take, drop, flat_map, ap, sym, arith, refl}
use Rattle.std.specs.List.{range_with_len}
use Rattle.std.proofs.lemmas.List.{length-take, length-take-le, length-drop, get_or-take, get_or-drop, take_all}
use Rattle.std.proofs.lemmas.List.FromFn.{length-range_with_len}
use Rattle.picture_out.specs.Inks.{colour_bytes, cell_colour}
use Rattle.picture_out.proofs.Tables.{filled_to}
use Rattle.picture_out.proofs.Spans.{before_span, after_span}
use Rattle.picture_out.proofs.Coloured.{colour_size, white, one_colour, cells_more, filled_size}
use Rattle.picture_out.proofs.ppm.put_colours.Goals as goal

pub loop-column-init : goal.loop-column-init
loop-column-init g c =
    let cells = c.args.cells.now in
    let low = c.args.span.low in
    let inks = g.I.Inks.inks c.args.inks.now in
    let long : length (take low cells) ≡ low = length-take-le low cells (omega (arith, c.requires.span.order, c.requires.span.high)) in
    let size : length c.fill.new.self ≡ 3 * low = omega (arith, c.fill.ensures.len, length-take (3 * low) c.args.out.now, c.requires.room, c.requires.span.order, c.requires.span.high) in
    let cleared : c.fill.new.self ≡ flat_map (cell_colour inks) (take low cells) =
    filled_to c.fill.new.self _ (3 * low) 255 (c.fill.ensures.after (λ y h. h)) size
    ∙ white inks (take low cells) (3 * low) (omega (arith, long)) (λ k lt. get_or-take low cells k 0 (omega (arith, long)) ∙ before_span cells low c.args.span.end k c.requires.span (omega (arith, long)))
    in
    record {
      low = omega arith;
      within = c.requires.span.order;
      filled = ap (λ (z : List ℕ). z ++ drop (3 * low) c.args.out.now) cleared;
    }

pub loop-column-preserved : goal.loop-column-preserved
loop-column-preserved g c =
    let cells = c.args.cells.now in
    let out = c.loop-column.out in
    let column = c.loop-column.column in
    let next = c.run_end-next.result in
    let f : ℕ → List ℕ = cell_colour (g.I.Inks.inks c.args.inks.now) in
    let run : List ℕ = take (next - column) (drop column cells) in
    let part : List ℕ = take (3 * next - 3 * column) (drop (3 * column) out) in
    let long : length run ≡ next - column = omega (arith, length-take (next - column) (drop column cells), length-drop column cells, c.run_end-next.ensures.within, c.requires.span.high) in
    let kept : length out ≡ length c.args.out.now = filled_size f cells out c.args.out.now column (3 * column) (colour_size (g.I.Inks.inks c.args.inks.now)) refl (omega (arith, c.loop-column.invariant.within, c.requires.span.high)) (omega (arith, c.requires.room, c.loop-column.invariant.within, c.requires.span.high)) c.loop-column.invariant.filled in
    let room : 3 * next ≤ length out = omega (arith, kept, c.requires.room, c.run_end-next.ensures.within, c.requires.span.high) in
    let size : length part / 3 ≡ next - column = omega (arith, length-take (3 * next - 3 * column) (drop (3 * column) out), length-drop (3 * column) out, room, c.run_end-next.ensures.onward) in
    let same : (k : ℕ) → k < length run → f (get_or run k 0) ≡ colour_bytes c.cell_ink.result = λ k lt.
    let in_run : k < next - column = omega (arith, lt, long) in
    ap f (get_or-take (next - column) (drop column cells) k 0 in_run ∙ get_or-drop column cells k 0 ∙ c.run_end-next.ensures.same (column + k) (omega arith) (omega arith))
    ∙ sym c.cell_ink.ensures
    in
    record {
      low = omega (arith, c.loop-column.invariant.low, c.run_end-next.ensures.onward);
      within = c.run_end-next.ensures.within;
      filled = cells_more f cells out c.args.out.now c.put_run.new.out column next (3 * column) (3 * next) (colour_size (g.I.Inks.inks c.args.inks.now)) refl refl (omega (arith, c.run_end-next.ensures.onward)) (omega (arith, c.run_end-next.ensures.within, c.requires.span.high)) c.loop-column.invariant.filled
          (c.put_run.ensures ∙ one_colour f (colour_bytes c.cell_ink.result) (range_with_len 0 (length part / 3)) run (length-range_with_len 0 (length part / 3) ∙ size ∙ sym long) same);
    }

pub returns : goal.returns
returns g c =
    let cells = c.args.cells.now in
    let out = c.loop-column.out in
    let end = c.args.span.end in
    let all : ℕ = length cells in
    let inks = g.I.Inks.inks c.args.inks.now in
    let f : ℕ → List ℕ = cell_colour inks in
    let rest : List ℕ = take (all - end) (drop end cells) in
    let here : c.loop-column.column ≡ end = omega (arith, c.loop-column.invariant.within, c.loop-column-test.false) in
    let long : length rest ≡ all - end = omega (arith, length-take (all - end) (drop end cells), length-drop end cells) in
    let filled : out ≡ flat_map f (take end cells) ++ drop (3 * end) c.args.out.now = c.loop-column.invariant.filled ∙ ap (λ (n : ℕ). flat_map f (take n cells) ++ drop (3 * n) c.args.out.now) here in
    let kept : length out ≡ length c.args.out.now = filled_size f cells out c.args.out.now end (3 * end) (colour_size inks) refl c.requires.span.high (omega (arith, c.requires.room, c.requires.span.high)) filled in
    let size : length c.fill-2.new.self ≡ 3 * all - 3 * end = omega (arith, c.fill-2.ensures.len, length-take (3 * all - 3 * end) (drop (3 * end) out), length-drop (3 * end) out, kept, c.requires.room, c.requires.span.high) in
    let blank : (k : ℕ) → k < length rest → get_or rest k 0 ≡ 0 = λ k lt.
    get_or-take (all - end) (drop end cells) k 0 (omega (arith, long)) ∙ get_or-drop end cells k 0 ∙ after_span cells c.args.span.low end (end + k) c.requires.span (omega arith) in
    let cleared : c.fill-2.new.self ≡ flat_map f rest =
    filled_to c.fill-2.new.self _ (3 * all - 3 * end) 255 (c.fill-2.ensures.after (λ y h. h)) size
    ∙ white inks rest (3 * all - 3 * end) (omega (arith, long)) blank
    in
    record {
      coloured =
          cells_more f cells out c.args.out.now c.fill-2.new.self end all (3 * end) (3 * all) (colour_size inks) refl refl c.requires.span.high (omega arith) filled cleared
          ∙ ap (λ (z : List ℕ). flat_map f z ++ drop (3 * all) c.args.out.now) (take_all all cells (omega arith));
    }
