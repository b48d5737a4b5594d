use Rattle.std.proofs.Common.{rules, ◌<◌, ◌∙◌, true, false, inl, inr, FitsSigned, arith, int_le, pos}
use mir.Syntax.{w64, w128}
use Rattle.std.proofs.lemmas.Int.{to_z-of_z}
use Rattle.std.proofs.lemmas.Bool.{cases_Bool}
use Rattle.stroke_raster.specs.Gap.{dot}
use Rattle.stroke_raster.proofs.Scaling.{first_is_near, last_is_near, beside_is_near, past_near}
use Rattle.stroke_raster.proofs.nearness.meets_evenly.Goals as goal

pub returns : goal.returns
returns c =
    let t = c.args.trace.now in
    let w = c.args.w in
    let some : 0 < t.dots.resolution = omega (arith, t.dots.at_least) in
    let fa : FitsSigned w64 c.dot_product-along.result = search rules in
    let fl : FitsSigned w64 t.along = search rules in
    let fr : FitsSigned w128 t.reach = search rules in
    let fm : FitsSigned w128 t.limit = search rules in
    let first = simp to_z-of_z at c.is_short-first.ensures in
    let last = rw c.way_between.ensures at (simp to_z-of_z at c.is_short-last.ensures) in
    let line = simp to_z-of_z at c.is_beside-line.ensures in
    let answer = rw c.dot_product-along.ensures.value at (simp to_z-of_z at c.chosen.ensures) in
    elim (cases_Bool (int_le (dot t.course w) (pos 0))) [
      | inl e ↦ rw e at answer ∙ first_is_near t w c.is_short-first.result some e first
      | inr e ↦ elim (cases_Bool (int_le t.along (dot t.course w))) [
        | inl f ↦ rw (e, f) at answer ∙ last_is_near t w c.is_short-last.result some e (past_near t w true c.requires.near f) last
        | inr f ↦ rw (e, f) at answer ∙ beside_is_near t w c.is_beside-line.result some e (past_near t w false c.requires.near f) line
      ]
    ]
