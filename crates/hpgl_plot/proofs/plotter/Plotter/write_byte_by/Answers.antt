use Rattle.std.proofs.Common.{◌≡◌, ◌∙◌, ◌+◌, ap, sym, subst, arith, true, List, drop, map, None, Some}
use Rattle.std.proofs.lemmas.Option.{slice_get_within}
use Rattle.stick_font.specs.Labels.{character_strokes}
use Rattle.exact.specs.declared.spot.Spot.{Spot}
use Rattle.hpgl_plot.specs.declared.state.State.{State}
use Rattle.hpgl_plot.specs.Paths.{stroke_places}
use Rattle.hpgl_plot.specs.Machine.{seen, travelled, travelled_all}
use Rattle.hpgl_plot.proofs.Letters.{one_stroke, no_more_strokes}
use Rattle.hpgl_plot.proofs.Polylines.{lines_more, lines_out}
use Rattle.hpgl_plot.proofs.Travels.{stopped, travelled_keeps}
use Rattle.hpgl_plot.proofs.plotter.Plotter.write_byte_by.Goals as goal

pub returns-in_err-write_stroke : goal.returns-in_err-write_stroke
returns-in_err-write_stroke c =
    let strokes = character_strokes c.args.cell c.args.byte in
    let k = c.strokes.k in
    let t = c.in-Some.stroke in
    let s = c.args.self.now.state in
    let w = seen c.strokes.self in
    let v = seen c.write_stroke.new.self in
    let i = c.strokes.invariant in
    let rest = map (stroke_places s) (drop (k + 1) strokes) in
    let o = one_stroke s strokes k t (sym c.in-Some.ensures.value) in
    let all = sym i.same ∙ ap (λ (ls : List (List Spot)). travelled_all w true ls) o in
    stopped (travelled w true (stroke_places w.state t)) (travelled_all (seen c.args.self.now) true (map (stroke_places s) strokes)) v v
    c.in_err-write_stroke.field-0.0 c.from_residual.result
    (λ h. all ∙ lines_out w true (stroke_places s t) rest (subst (λ (x : State). travelled w true (stroke_places x t) ≡ None) i.kept.state_is h))
    c.in_err-write_stroke.ensures c.from_residual.ensures.1

pub overflow_add-k : goal.overflow_add-k
overflow_add-k c = let few = c.in-Some.ensures.few in omega (arith, few)

pub strokes-smaller : goal.strokes-smaller
strokes-smaller c =
    let strokes = character_strokes c.args.cell c.args.byte in
    let h = slice_get_within strokes c.strokes.k c.in-Some.stroke (sym c.in-Some.ensures.value) in
    omega (arith, h)

pub strokes-preserved : goal.strokes-preserved
strokes-preserved c =
    let strokes = character_strokes c.args.cell c.args.byte in
    let k = c.strokes.k in
    let t = c.in-Some.stroke in
    let s = c.args.self.now.state in
    let w = seen c.strokes.self in
    let v = seen c.write_stroke.new.self in
    let i = c.strokes.invariant in
    let rest = map (stroke_places s) (drop (k + 1) strokes) in
    let h = slice_get_within strokes k t (sym c.in-Some.ensures.value) in
    let o = one_stroke s strokes k t (sym c.in-Some.ensures.value) in
    let e = subst (λ (x : State). travelled w true (stroke_places x t) ≡ Some v) i.kept.state_is c.in_ok-write_stroke.ensures in
    let n = travelled_keeps w v true (stroke_places s t) e in
    record {
      kept = record { page_is = n.page_is ∙ i.kept.page_is; range_is = n.range_is ∙ i.kept.range_is; state_is = n.state_is ∙ i.kept.state_is };
      within = omega (arith, h);
      same = sym (lines_more w v true (stroke_places s t) rest e) ∙ sym (ap (λ (ls : List (List Spot)). travelled_all w true ls) o) ∙ i.same;
    }

pub returns : goal.returns
returns c =
    let strokes = character_strokes c.args.cell c.args.byte in
    let d = no_more_strokes c.args.self.now.state strokes c.strokes.k (sym c.in_default.ensures.value) in
    sym c.strokes.invariant.same ∙ ap (λ (ls : List (List Spot)). travelled_all (seen c.strokes.self) true ls) d
