use Rattle.std.proofs.Common.{◌≡◌, ℕ, ◌*◌, ◌^◌, ◌<◌, arith, sym, ap, ◌∙◌, ℤ, pos, ◌*ℤ◌, to_z, FitsSigned}
use mir.Syntax.{w64, w128}
use Rattle.std.proofs.lemmas.Int.{ints, to_z-of_z}
use Rattle.exact.proofs.Fit.{product_within}
use Rattle.exact.proofs.Ring.{mul_assoc_z, mul_left_comm_z}
use Rattle.stick_font.specs.Labels.{share}
use Rattle.lettering.proofs.Sizes.{scaled, stepped_in}
use Rattle.lettering.proofs.cells.distance.Goals as goal

-- with the usual step, a million is left out of the parts and of their number
usual : (parts : ℕ) (step steps size : ℤ) (whole : ℕ) → 0 < whole → step ≡ pos 1000000
    → share (pos parts *ℤ step *ℤ steps) size (whole * 1000000000000) ≡ share (pos parts *ℤ steps) size (whole * 1000000)
usual parts step steps size whole above e =
    let over : pos parts *ℤ step *ℤ steps ≡ pos 1000000 *ℤ (pos parts *ℤ steps) =
    ap (λ (s : ℤ). pos parts *ℤ s *ℤ steps) e ∙ mul_assoc_z (pos parts) (pos 1000000) steps ∙ mul_left_comm_z (pos parts) (pos 1000000) steps in
    let n : whole * 1000000000000 ≡ 1000000 * (whole * 1000000) = omega arith in
    ap (λ (k : ℕ). share (pos parts *ℤ step *ℤ steps) size k) n
    ∙ scaled 1000000 (pos parts *ℤ step *ℤ steps) (pos parts *ℤ steps) size (whole * 1000000) (omega arith) (omega arith) (omega arith) over

pub returns-then-step-eq-USUAL_STEP-clause-value : goal.returns-then-step-eq-USUAL_STEP-clause-value
returns-then-step-eq-USUAL_STEP-clause-value c =
    let a = c.args in
    let p = product_within (pos a.parts) a.steps 36 (2 ^ 52) (omega (arith, c.requires.parts_in)) c.requires.steps_in in
    let f0 : FitsSigned w64 a.size = c.ranges.size in
    let f1 : FitsSigned w128 a.steps = c.ranges.steps in
    let f2 : FitsSigned w128 (pos a.parts) = omega (arith, ints, c.requires.parts_in) in
    let f3 : FitsSigned w128 (pos a.parts *ℤ a.steps) = omega (arith, ints, p) in
    let r = simp to_z-of_z at (rw c.from.ensures at c.share.ensures.value) in
    let m = c.share.ensures.most in
    let f4 : FitsSigned w128 c.share.result = omega (arith, ints, m) in
    let f5 : FitsSigned w64 a.step = c.ranges.step in
    let usual_step : a.step ≡ pos 1000000 = sym (to_z-of_z w64 a.step f5) ∙ ap (λ (bits : ℕ). to_z w64 bits) c.if-step-eq-USUAL_STEP.true in
    simp to_z-of_z (r ∙ sym (usual a.parts a.step a.steps a.size a.whole (omega (arith, c.requires.whole_above)) usual_step))

pub returns-else-step-eq-USUAL_STEP-clause-value : goal.returns-else-step-eq-USUAL_STEP-clause-value
returns-else-step-eq-USUAL_STEP-clause-value c =
    let a = c.args in
    let k = stepped_in a.parts a.step a.steps c.requires.parts_in c.requires.step_in c.requires.steps_in in
    let fits = k.fits in
    let f0 : FitsSigned w64 a.size = c.ranges.size in
    let f1 : FitsSigned w128 a.steps = c.ranges.steps in
    let f2 : FitsSigned w64 a.step = c.ranges.step in
    let v = simp to_z-of_z at c.stepped-count.ensures.value in
    let f3 : FitsSigned w128 c.stepped-count.result = rw v fits in
    let r = simp to_z-of_z at c.share-else-step-eq-USUAL_STEP.ensures.value in
    let m = c.share-else-step-eq-USUAL_STEP.ensures.most in
    let f4 : FitsSigned w128 c.share-else-step-eq-USUAL_STEP.result = omega (arith, ints, m) in
    let n : a.whole * 1000000 * 1000000 ≡ a.whole * 1000000000000 = omega arith in
    simp to_z-of_z (r ∙ ap (λ (count : ℤ). share count a.size (a.whole * 1000000 * 1000000)) v ∙ ap (λ (w : ℕ). share (pos a.parts *ℤ a.step *ℤ a.steps) a.size w) n)
