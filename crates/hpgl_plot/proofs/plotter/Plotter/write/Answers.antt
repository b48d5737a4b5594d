use Rattle.std.proofs.Common.{◌≡◌, ◌∙◌, ◌+◌, ap, sym, subst, refl, arith, true, List, drop, get_or, map, ℕ, Option, None, Some}
use Rattle.std.proofs.lemmas.List.{drop_more}
use Rattle.std.proofs.Math.ListN.{drop_of_length-le}
use Rattle.stick_font.specs.declared.cell.Cell.{Cell}
use Rattle.stick_font.specs.Bounds.{moved_on}
use Rattle.stick_font.specs.Labels.{character_strokes, corner}
use Rattle.exact.specs.declared.spot.Spot.{Spot}
use Rattle.plot_settings.specs.Meanings.{Write}
use Rattle.hpgl_plot.specs.declared.state.State.{State}
use Rattle.hpgl_plot.specs.Paths.{stroke_places}
use Rattle.hpgl_plot.specs.Machine.{World, seen, step, travelled_all, Runs}
use Rattle.hpgl_plot.proofs.Letters.{lines_from, lines_of_label, label_out, label_ends, cell_from, end_of_label, next_column, next_line}
use Rattle.hpgl_plot.proofs.Polylines.{lines_then, lines_then_out}
use Rattle.hpgl_plot.proofs.Travels.{lines_keep, stopped}
use Rattle.hpgl_plot.proofs.plotter.Plotter.write.Goals as goal

pub loop-byte-init : goal.loop-byte-init
loop-byte-init c = record {
  kept = record { page_is = refl; range_is = refl; state_is = refl };
  column_in = omega arith;
  line_in = omega arith;
  ends = refl;
  same = ap (λ (ls : List (List Spot)). travelled_all (seen c.args.self.now) true ls) (sym (lines_of_label c.args.self.now.state c.args.bytes.now));
}

pub returns-in_err-write_byte : goal.returns-in_err-write_byte
returns-in_err-write_byte c =
    let bytes = c.args.bytes.now in
    let k = c.loop-byte.byte-index in
    let cell = c.loop-byte.cell in
    let byte = get_or bytes k 0 in
    let s = c.args.self.now.state in
    let w = seen c.loop-byte.self in
    let v = seen c.write_byte.new.self in
    let i = c.loop-byte.invariant in
    let strokes = character_strokes cell byte in
    let n = drop_more bytes k 0 c.loop-byte-test.true in
    let all = sym i.same ∙ ap (λ (l : List ℕ). travelled_all w true (lines_from s cell l)) n in
    stopped (travelled_all w true (map (stroke_places w.state) strokes)) (step (seen c.args.self.now) (Write bytes)) v v
    c.in_err-write_byte.field-0.0 c.from_residual.result
    (λ o. label_out (seen c.args.self.now) bytes
    (all ∙ lines_then_out w true (map (stroke_places s) strokes) (lines_from s (moved_on cell byte) (drop (k + 1) bytes))
    (subst (λ (x : State). travelled_all w true (map (stroke_places x) strokes) ≡ None) i.kept.state_is o)))
    c.in_err-write_byte.ensures c.from_residual.ensures.1

pub loop-byte-preserved : goal.loop-byte-preserved
loop-byte-preserved c =
    let bytes = c.args.bytes.now in
    let k = c.loop-byte.byte-index in
    let cell = c.loop-byte.cell in
    let byte = get_or bytes k 0 in
    let s = c.args.self.now.state in
    let w = seen c.loop-byte.self in
    let v = seen c.write_byte.new.self in
    let i = c.loop-byte.invariant in
    let strokes = character_strokes cell byte in
    let rest = drop (k + 1) bytes in
    let n = drop_more bytes k 0 c.loop-byte-test.true in
    let t = subst (λ (x : State). travelled_all w true (map (stroke_places x) strokes) ≡ Some v) i.kept.state_is c.in_ok-write_byte.ensures in
    let r = lines_then w v true (map (stroke_places s) strokes) (lines_from s (moved_on cell byte) rest) t in
    let m = lines_keep w v true (map (stroke_places s) strokes) t in
    let column = next_column cell byte in
    let line = next_line cell byte in
    let e = c.after-cell.ensures in
    record {
      kept = record { page_is = m.page_is ∙ i.kept.page_is; range_is = m.range_is ∙ i.kept.range_is; state_is = m.state_is ∙ i.kept.state_is };
      column_in = rw e (omega (arith, column, i.column_in));
      line_in = rw e (omega (arith, line, i.line_in));
      ends = ap (λ (l : Cell). cell_from l rest) e ∙ sym (ap (λ (l : List ℕ). cell_from cell l) n) ∙ i.ends;
      same = ap (λ (l : Cell). travelled_all v true (lines_from s l rest)) e ∙ sym r ∙ sym (ap (λ (l : List ℕ). travelled_all w true (lines_from s cell l)) n) ∙ i.same;
    }

pub returns : goal.returns
returns c =
    let bytes = c.args.bytes.now in
    let k = c.loop-byte.byte-index in
    let cell = c.loop-byte.cell in
    let s = c.args.self.now.state in
    let w = seen c.loop-byte.self in
    let i = c.loop-byte.invariant in
    let d = drop_of_length-le bytes c.loop-byte-test.false in
    let same = ap (λ (l : List ℕ). travelled_all w true (lines_from s cell l)) (sym d) ∙ i.same in
    let ends = ap (λ (l : List ℕ). cell_from cell l) (sym d) ∙ i.ends in
    let e = label_ends (seen c.args.self.now) w bytes cell c.corner.result i.kept c.corner.ensures.value
    (ap (λ (l : Cell). corner l) ends ∙ end_of_label bytes) same in
    subst (λ (o : Option World). Runs o (seen c.end_label.new.self) c.end_label.result) (sym e) c.end_label.ensures
