use Rattle.std.proofs.Common.{rules, ◌≡◌, ℕ, ◌+◌, ◌-◌, ◌*◌, ◌<◌, ◌≤◌, ◌^◌, arith, refl, ap, ap₂, subst, ◌∙◌, true, false, ℤ, pos, ◌+ℤ◌, ◌*ℤ◌, ◌≤ℤ◌, ◌<ℤ◌, nat_abs, FitsSigned, to_z, of_z}
use mir.Syntax.{w64, w128}
use Rattle.std.specs.Int.Signed.{lt_z}
use Rattle.std.proofs.lemmas.Int.{ints, to_z-of_z}
use Rattle.stroke_raster.specs.declared.edges.Edges.{Edges}
use Rattle.stroke_raster.specs.declared.vector.Vector.{Vector}
use Rattle.stroke_raster.specs.Edges.{IsPlace, turned, way_to, width_of}
use Rattle.stroke_raster.specs.Gap.{cross, dot, way}
use Rattle.stroke_raster.proofs.GapLemmas.{size, size_is}
use Rattle.stroke_raster.proofs.EdgeLemmas.{Made, edges_made, some_map}
use Rattle.stroke_raster.proofs.edges.edges_in.Goals as goal

pub wide_turned-beside-requires : goal.wide_turned-beside-requires
wide_turned-beside-requires c =
    let f : FitsSigned w128 c.wide_cross.result = search rules in
    let g : FitsSigned w128 (pos 2 *ℤ c.wide_cross.result) = omega (arith, ints, c.wide_cross.ensures.small) in
    simp to_z-of_z (omega (arith, ints, c.wide_cross.ensures.small))

-- the numbers fit
sum_small : (a b x m : ℤ) → nat_abs a ≡ nat_abs (pos 2 *ℤ x) → nat_abs x ≤ 2 ^ 69 → b ≡ m → nat_abs m ≤ 2 ^ 54 → nat_abs (a +ℤ b) ≤ 2 ^ 71
sum_small a b x m e h f k = omega (arith, ints, e, h, f, k)

small_fits : (z : ℤ) → nat_abs z ≤ 2 ^ 71 → FitsSigned w128 z
small_fits z h = omega (arith, ints, h)

pub overflow_add-beside : goal.overflow_add-beside
overflow_add-beside c =
    let f : FitsSigned w128 c.wide_cross.result = search rules in
    let g : FitsSigned w128 (pos 2 *ℤ c.wide_cross.result) = omega (arith, ints, c.wide_cross.ensures.small) in
    let h : FitsSigned w64 c.args.trace.now.slope.most = omega (arith, ints, c.args.trace.now.sound.slope_is.most_in) in
    let i : FitsSigned w128 c.wide_turned-beside.result = search rules in
    let m = simp to_z-of_z at c.from-2.ensures in
    let t = simp to_z-of_z at c.wide_turned-beside.ensures.small in
    let j : FitsSigned w128 c.from-2.result = search rules in
    simp to_z-of_z (small_fits _ (sum_small c.wide_turned-beside.result c.from-2.result c.wide_cross.result c.args.trace.now.slope.most t c.wide_cross.ensures.small m c.args.trace.now.sound.slope_is.most_in))

pub place_of-requires-clause-z_in : goal.place_of-requires-clause-z_in
place_of-requires-clause-z_in c =
    let f : FitsSigned w128 c.wide_cross.result = search rules in
    let g : FitsSigned w128 (pos 2 *ℤ c.wide_cross.result) = omega (arith, ints, c.wide_cross.ensures.small) in
    let h : FitsSigned w64 c.args.trace.now.slope.most = omega (arith, ints, c.args.trace.now.sound.slope_is.most_in) in
    let i : FitsSigned w128 c.wide_turned-beside.result = search rules in
    let m = simp to_z-of_z at c.from-2.ensures in
    let t = simp to_z-of_z at c.wide_turned-beside.ensures.small in
    let j : FitsSigned w128 c.from-2.result = search rules in
    let s = sum_small c.wide_turned-beside.result c.from-2.result c.wide_cross.result c.args.trace.now.slope.most t c.wide_cross.ensures.small m c.args.trace.now.sound.slope_is.most_in in
    let k : FitsSigned w128 (c.wide_turned-beside.result +ℤ c.from-2.result) = small_fits _ s in
    simp to_z-of_z s

pub returns-clause-rows : goal.returns-clause-rows
returns-clause-rows c = some_map Edges c.fitted.result _ _ (λ e f. f.rows_is) c.fitted.ensures

most_of : (c : goal.After-fitted) → c.args.trace.now.slope.most ≡ pos c.unsigned_abs-most.result
most_of c =
    let sl = c.args.trace.now.sound.slope_is.most in
    let p = c.args.trace.now.sound.slope_is.most_in in
    let h : FitsSigned w64 c.args.trace.now.slope.most = omega (arith, ints, p) in
    let em = simp to_z-of_z at c.unsigned_abs-most.ensures.value in
    positive c.args.trace.now.slope.most _ c.unsigned_abs-most.result sl em
  where
    positive : (z : ℤ) (n m : ℕ) → z ≡ pos n → m ≡ nat_abs z → z ≡ pos m
    positive z n m e f = omega (arith, ints, e, f)

narrow_of : (c : goal.After-fitted) → pos (c.from-narrow.result * c.from-narrow.result) ≤ℤ dot c.args.trace.now.course c.args.trace.now.course
narrow_of c =
    let fq : FitsSigned w64 c.squared_length.result = search rules in
    let eq = simp to_z-of_z at c.unsigned_abs.ensures.value in
    let z = size_is c.args.trace.now.course in
    let n : c.from-narrow.result * c.from-narrow.result ≤ c.unsigned_abs.result = omega (arith, c.if-narrow-unsigned_abs.false) in
    enough (c.from-narrow.result * c.from-narrow.result) c.unsigned_abs.result c.squared_length.result (dot c.args.trace.now.course c.args.trace.now.course) (size c.args.trace.now.course) n eq c.squared_length.ensures.value z
  where
    enough : (m q : ℕ) (s d : ℤ) (a : ℕ) → m ≤ q → q ≡ nat_abs s → s ≡ d → d ≡ pos a → pos m ≤ℤ d
    enough m q s d a h e f g = omega (arith, ints, h, e, f, g)

gap_of : (c : goal.After-fitted) → 2 ^ 32 * (c.unsigned_abs-most.result - width_of c.args.trace.now * c.from-narrow.result) < (c.parts_of.result + 1) * c.args.trace.now.slope.step
gap_of c =
    let e : c.from.result ≡ width_of c.args.trace.now = c.from.ensures ∙ c.drawn_width_of.ensures.value in
    let f : c.saturating_sub-2.result ≡ c.unsigned_abs-most.result - width_of c.args.trace.now * c.from-narrow.result = c.saturating_sub-2.ensures ∙ ap (λ (n : ℕ). c.unsigned_abs-most.result - n * c.from-narrow.result) e in
    subst (λ (n : ℕ). 2 ^ 32 * n < (c.parts_of.result + 1) * c.args.trace.now.slope.step) f c.parts_of.ensures.high

drift_of : (c : goal.After-fitted) → c.unsigned_abs-2.result ≡ nat_abs c.args.trace.now.course.x
drift_of c =
    let fd : FitsSigned w64 c.turned-drift.result = search rules in
    let cx = c.args.trace.now.sound.course_in in
    let fx : FitsSigned w64 c.args.trace.now.course.x = omega (arith, ints, cx.x) in
    let ed = simp to_z-of_z at c.unsigned_abs-2.ensures.value in
    let sd = simp to_z-of_z at c.turned-drift.ensures.small in
    ed ∙ sd

turn_of : (c : goal.After-fitted) → to_z w64 (of_z w64 c.turned-drift.result) ≡ turned c.args.trace.now c.args.trace.now.course.x
turn_of c =
    let fd : FitsSigned w64 c.turned-drift.result = search rules in
    let cx = c.args.trace.now.sound.course_in in
    let fx : FitsSigned w64 c.args.trace.now.course.x = omega (arith, ints, cx.x) in
    let fy : FitsSigned w64 c.args.trace.now.course.y = omega (arith, ints, cx.y) in
    let vd = simp to_z-of_z at c.turned-drift.ensures.value in
    to_z-of_z w64 c.turned-drift.result fd ∙ vd

beside_of : (c : goal.After-fitted) → to_z w128 (of_z w128 (to_z w128 (of_z w128 c.wide_turned-beside.result) +ℤ to_z w128 (of_z w128 c.from-2.result)))
    ≡ turned c.args.trace.now (pos 2 *ℤ cross c.args.trace.now.course (way_to c.args.trace.now c.args.page.now c.args.rows.low c.args.from)) +ℤ c.args.trace.now.slope.most
beside_of c =
    let cx = c.args.trace.now.sound.course_in in
    let f : FitsSigned w128 c.wide_cross.result = search rules in
    let g : FitsSigned w128 (pos 2 *ℤ c.wide_cross.result) = omega (arith, ints, c.wide_cross.ensures.small) in
    let h : FitsSigned w64 c.args.trace.now.slope.most = omega (arith, ints, c.args.trace.now.sound.slope_is.most_in) in
    let i : FitsSigned w128 c.wide_turned-beside.result = search rules in
    let fy : FitsSigned w64 c.args.trace.now.course.y = omega (arith, ints, cx.y) in
    let m = simp to_z-of_z at c.from-2.ensures in
    let t = simp to_z-of_z at c.wide_turned-beside.ensures.small in
    let vb = simp to_z-of_z at c.wide_turned-beside.ensures.value in
    let j : FitsSigned w128 c.from-2.result = search rules in
    let s = sum_small c.wide_turned-beside.result c.from-2.result c.wide_cross.result c.args.trace.now.slope.most t c.wide_cross.ensures.small m c.args.trace.now.sound.slope_is.most_in in
    let k : FitsSigned w128 (c.wide_turned-beside.result +ℤ c.from-2.result) = small_fits _ s in
    let w : c.way_between-start.result ≡ way_to c.args.trace.now c.args.page.now c.args.rows.low c.args.from = c.way_between-start.ensures ∙ ap₂ way c.args.trace.now.sound.first_is c.centre_of.ensures.value in
    let x : c.wide_cross.result ≡ cross c.args.trace.now.course (way_to c.args.trace.now c.args.page.now c.args.rows.low c.args.from) = c.wide_cross.ensures.value ∙ ap (λ (v : Vector). cross c.args.trace.now.course v) w in
    let y : c.wide_turned-beside.result ≡ turned c.args.trace.now (pos 2 *ℤ cross c.args.trace.now.course (way_to c.args.trace.now c.args.page.now c.args.rows.low c.args.from)) = vb ∙ ap (λ (z : ℤ). turned c.args.trace.now (pos 2 *ℤ z)) x in
    simp to_z-of_z (ap₂ ◌+ℤ◌ y m)

falling : (z y : ℤ) → z ≡ y → lt_z (pos 0) z ≡ true → pos 0 <ℤ y
falling z y e h = omega (arith, ints, e, h)

rising : (z y : ℤ) → z ≡ y → lt_z (pos 0) z ≡ false → y ≤ℤ pos 0
rising z y e h = omega (arith, ints, e, h)

place_made : (c : goal.After-fitted) → IsPlace (turned c.args.trace.now (pos 2 *ℤ cross c.args.trace.now.course (way_to c.args.trace.now c.args.page.now c.args.rows.low c.args.from)) +ℤ c.args.trace.now.slope.most) c.args.trace.now.slope.step c.in_ok-end.end
place_made c = subst (λ (z : ℤ). IsPlace z c.args.trace.now.slope.step c.in_ok-end.end) (beside_of c) c.in_ok-end.ensures

made : (c : goal.After-fitted) → Made c.args.trace.now c.args.page.now c.args.from c.args.rows (lt_z (pos 0) (to_z w64 (of_z w64 c.turned-drift.result)))
    (record { gap = c.parts_of.result + 1; width = c.parts_of-2.result; pace = c.rounded.result; end = c.in_ok-end.end })
made c = record {
  some = omega (arith, c.if-slope-eq0.false);
  most = c.unsigned_abs-most.result;
  most_is = most_of c;
  narrow = c.from-narrow.result;
  narrow_in = narrow_of c;
  gap = c.parts_of.result;
  gap_is = refl;
  gap_high = gap_of c;
  width_low = c.parts_of-2.ensures.low;
  width_high = c.parts_of-2.ensures.high;
  slower = c.parts_of-slower.result;
  slower_low = subst (λ (n : ℕ). c.parts_of-slower.result * c.args.trace.now.slope.step ≤ 2 ^ 32 * (32512 * n)) (drift_of c) c.parts_of-slower.ensures.low;
  slower_high = subst (λ (n : ℕ). 2 ^ 32 * (32512 * n) < (c.parts_of-slower.result + 1) * c.args.trace.now.slope.step) (drift_of c) c.parts_of-slower.ensures.high;
  pace_is = c.rounded.ensures;
  falls_is = falling _ _ (turn_of c);
  rises_is = rising _ _ (turn_of c);
  place = place_made c;
  beside = c.requires.beside;
}

pub returns-clause-edges : goal.returns-clause-edges
returns-clause-edges c = some_map Edges c.fitted.result _ _ (λ e f. edges_made c.args.trace.now c.args.page.now c.args.from c.args.rows _ _ e (made c) f) c.fitted.ensures
