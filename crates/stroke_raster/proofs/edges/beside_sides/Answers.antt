use Rattle.std.proofs.Common.{◌≡◌, ℕ, ◌+◌, ◌*◌, ◌^◌, ◌≤◌, arith, refl, ap, ◌∙◌, nat_abs, ℤ, pos, ◌+ℤ◌, ◌-ℤ◌, ◌*ℤ◌, ◌≤ℤ◌, ◌<ℤ◌, FitsSigned}
use mir.Syntax.{w64}
use Rattle.std.proofs.lemmas.Int.{ints, to_z-of_z}
use Rattle.plot_page.specs.declared.page.Page.{Page}
use Rattle.plot_page.specs.declared.dots.Dots.{Dots}
use Rattle.stroke_raster.specs.Edges.{width_of}
use Rattle.stroke_raster.proofs.EdgeLemmas.{beside_rising, beside_falling}
use Rattle.stroke_raster.proofs.ExtentLemmas.{top_small}
use Rattle.stroke_raster.proofs.edges.beside_sides.Goals as goal

-- the height of a page
height_in : (page : Page) (dots : Dots) → 16 * page.height * dots.resolution ≤ 2 ^ 34
height_in page dots = top_small page.height dots.resolution (omega (arith, page.height_in)) dots.at_most

-- the numbers of the page's top, of the heights of the first end and of the course, and of the width, are small
record AreSmall (top first course width : ℤ) : Type 0 where
  top_in : nat_abs top ≤ 2 ^ 50
  tops_in : nat_abs (pos 2 *ℤ top) ≤ 2 ^ 50
  first_in : nat_abs first ≤ 2 ^ 50
  firsts_in : nat_abs (pos 2 *ℤ first) ≤ 2 ^ 50
  course_in : nat_abs course ≤ 2 ^ 50
  courses_in : nat_abs (pos 2 *ℤ course) ≤ 2 ^ 50
  width_in : nat_abs width ≤ 2 ^ 50
  near_in : nat_abs (pos 2 *ℤ top -ℤ pos 2 *ℤ first) ≤ 2 ^ 50
  near_more : nat_abs (pos 2 *ℤ top -ℤ pos 2 *ℤ first +ℤ width) ≤ 2 ^ 50
  near_less : nat_abs (pos 2 *ℤ top -ℤ pos 2 *ℤ first -ℤ width) ≤ 2 ^ 50
  far_in : nat_abs (pos 2 *ℤ top -ℤ pos 2 *ℤ first -ℤ pos 2 *ℤ course) ≤ 2 ^ 50
  far_more : nat_abs (pos 2 *ℤ top -ℤ pos 2 *ℤ first -ℤ pos 2 *ℤ course +ℤ width) ≤ 2 ^ 50
  far_less : nat_abs (pos 2 *ℤ top -ℤ pos 2 *ℤ first -ℤ pos 2 *ℤ course -ℤ width) ≤ 2 ^ 50

all_small : (top first course width : ℤ) (n m : ℕ) → top ≡ pos n → n ≤ 2 ^ 34 → nat_abs first ≤ 3 * 2 ^ 36 → nat_abs course ≤ 2 ^ 39 → width ≡ pos (m + 1) → m ≤ 2 ^ 24 → AreSmall top first course width
all_small top first course width n m e h k l f i = record {
  top_in = omega (arith, ints, e, h);
  tops_in = omega (arith, ints, e, h);
  first_in = omega (arith, k);
  firsts_in = omega (arith, ints, k);
  course_in = omega (arith, l);
  courses_in = omega (arith, ints, l);
  width_in = omega (arith, ints, f, i);
  near_in = omega (arith, ints, e, h, k);
  near_more = omega (arith, ints, e, h, k, f, i);
  near_less = omega (arith, ints, e, h, k, f, i);
  far_in = omega (arith, ints, e, h, k, l);
  far_more = omega (arith, ints, e, h, k, l, f, i);
  far_less = omega (arith, ints, e, h, k, l, f, i);
}

small_fits : (z : ℤ) → nat_abs z ≤ 2 ^ 50 → FitsSigned w64 z
small_fits z h = omega (arith, ints, h)

pub overflow_sub-first : goal.overflow_sub-first
overflow_sub-first c = omega (arith, ints, c.top_of-top.ensures.value, height_in c.args.page.now c.args.trace.now.dots, c.args.trace.now.sound.first_in.y)

pub overflow_sub-last : goal.overflow_sub-last
overflow_sub-last c = omega (arith, ints, c.top_of-top.ensures.value, height_in c.args.page.now c.args.trace.now.dots, c.args.trace.now.sound.first_in.y, c.args.trace.now.sound.scaled_in.y)

pub overflow_add-result : goal.overflow_add-result
overflow_add-result c = omega (arith, ints, c.top_of-top.ensures.value, height_in c.args.page.now c.args.trace.now.dots, c.args.trace.now.sound.first_in.y, c.args.trace.now.sound.scaled_in.y, c.from-width.ensures, c.drawn_width_of.ensures.small)

pub overflow_sub-result : goal.overflow_sub-result
overflow_sub-result c = omega (arith, ints, c.top_of-top.ensures.value, height_in c.args.page.now c.args.trace.now.dots, c.args.trace.now.sound.first_in.y, c.args.trace.now.sound.scaled_in.y, c.from-width.ensures, c.drawn_width_of.ensures.small)

pub returns-then-trace-lt0-clause-low_small : goal.returns-then-trace-lt0-clause-low_small
returns-then-trace-lt0-clause-low_small c =
    let a = all_small c.top_of-top.result c.args.trace.now.first.y c.args.trace.now.scaled_course.y c.from-width.result _ _ c.top_of-top.ensures.value (height_in c.args.page.now c.args.trace.now.dots) c.args.trace.now.sound.first_in.y c.args.trace.now.sound.scaled_in.y c.from-width.ensures c.drawn_width_of.ensures.small in
    simp (to_z-of_z, small_fits, a.top_in, a.tops_in, a.first_in, a.firsts_in, a.near_in, a.width_in, a.near_more) a.near_more

pub returns-then-trace-lt0-clause-high_small : goal.returns-then-trace-lt0-clause-high_small
returns-then-trace-lt0-clause-high_small c =
    let a = all_small c.top_of-top.result c.args.trace.now.first.y c.args.trace.now.scaled_course.y c.from-width.result _ _ c.top_of-top.ensures.value (height_in c.args.page.now c.args.trace.now.dots) c.args.trace.now.sound.first_in.y c.args.trace.now.sound.scaled_in.y c.from-width.ensures c.drawn_width_of.ensures.small in
    simp (to_z-of_z, small_fits, a.top_in, a.tops_in, a.first_in, a.firsts_in, a.near_in, a.course_in, a.courses_in, a.far_in, a.width_in, a.far_less) a.far_less

pub returns-then-trace-lt0-clause-beside : goal.returns-then-trace-lt0-clause-beside
returns-then-trace-lt0-clause-beside c =
    let a = all_small c.top_of-top.result c.args.trace.now.first.y c.args.trace.now.scaled_course.y c.from-width.result _ _ c.top_of-top.ensures.value (height_in c.args.page.now c.args.trace.now.dots) c.args.trace.now.sound.first_in.y c.args.trace.now.sound.scaled_in.y c.from-width.ensures c.drawn_width_of.ensures.small in
    let width : c.from-width.result ≡ pos (width_of c.args.trace.now + 1) = c.from-width.ensures ∙ ap (λ (n : ℕ). pos (n + 1)) c.drawn_width_of.ensures.value in
    let sign : c.args.trace.now.course.y <ℤ pos 0 = omega (arith, ints, c.args.trace.now.sound.course_in.y, c.if-trace-lt0.true) in
    λ row above below.
    let above' = simp (to_z-of_z, small_fits, a.top_in, a.tops_in, a.first_in, a.firsts_in, a.near_in, a.width_in, a.near_more) at above in
    let below' = simp (to_z-of_z, small_fits, a.top_in, a.tops_in, a.first_in, a.firsts_in, a.near_in, a.course_in, a.courses_in, a.far_in, a.width_in, a.far_less) at below in
    beside_falling c.args.trace.now c.args.page.now row (pos 2 *ℤ c.top_of-top.result) (pos 2 *ℤ c.top_of-top.result -ℤ pos 2 *ℤ c.args.trace.now.first.y) (pos 2 *ℤ c.top_of-top.result -ℤ pos 2 *ℤ c.args.trace.now.first.y -ℤ pos 2 *ℤ c.args.trace.now.scaled_course.y) (pos 2 *ℤ c.top_of-top.result -ℤ pos 2 *ℤ c.args.trace.now.first.y +ℤ c.from-width.result) (pos 2 *ℤ c.top_of-top.result -ℤ pos 2 *ℤ c.args.trace.now.first.y -ℤ pos 2 *ℤ c.args.trace.now.scaled_course.y -ℤ c.from-width.result)
    (ap (λ (n : ℤ). pos 2 *ℤ n) c.top_of-top.ensures.value) refl refl (ap (λ (n : ℤ). pos 2 *ℤ c.top_of-top.result -ℤ pos 2 *ℤ c.args.trace.now.first.y +ℤ n) width) (ap (λ (n : ℤ). pos 2 *ℤ c.top_of-top.result -ℤ pos 2 *ℤ c.args.trace.now.first.y -ℤ pos 2 *ℤ c.args.trace.now.scaled_course.y -ℤ n) width) c.args.trace.now.course.y refl sign above' below'

pub overflow_add-result-2 : goal.overflow_add-result-2
overflow_add-result-2 c = omega (arith, ints, c.top_of-top.ensures.value, height_in c.args.page.now c.args.trace.now.dots, c.args.trace.now.sound.first_in.y, c.args.trace.now.sound.scaled_in.y, c.from-width.ensures, c.drawn_width_of.ensures.small)

pub overflow_sub-result-2 : goal.overflow_sub-result-2
overflow_sub-result-2 c = omega (arith, ints, c.top_of-top.ensures.value, height_in c.args.page.now c.args.trace.now.dots, c.args.trace.now.sound.first_in.y, c.args.trace.now.sound.scaled_in.y, c.from-width.ensures, c.drawn_width_of.ensures.small)

pub returns-clause-low_small : goal.returns-clause-low_small
returns-clause-low_small c =
    let a = all_small c.top_of-top.result c.args.trace.now.first.y c.args.trace.now.scaled_course.y c.from-width.result _ _ c.top_of-top.ensures.value (height_in c.args.page.now c.args.trace.now.dots) c.args.trace.now.sound.first_in.y c.args.trace.now.sound.scaled_in.y c.from-width.ensures c.drawn_width_of.ensures.small in
    simp (to_z-of_z, small_fits, a.top_in, a.tops_in, a.first_in, a.firsts_in, a.near_in, a.course_in, a.courses_in, a.far_in, a.width_in, a.far_more) a.far_more

pub returns-clause-high_small : goal.returns-clause-high_small
returns-clause-high_small c =
    let a = all_small c.top_of-top.result c.args.trace.now.first.y c.args.trace.now.scaled_course.y c.from-width.result _ _ c.top_of-top.ensures.value (height_in c.args.page.now c.args.trace.now.dots) c.args.trace.now.sound.first_in.y c.args.trace.now.sound.scaled_in.y c.from-width.ensures c.drawn_width_of.ensures.small in
    simp (to_z-of_z, small_fits, a.top_in, a.tops_in, a.first_in, a.firsts_in, a.near_in, a.width_in, a.near_less) a.near_less

pub returns-clause-beside : goal.returns-clause-beside
returns-clause-beside c =
    let a = all_small c.top_of-top.result c.args.trace.now.first.y c.args.trace.now.scaled_course.y c.from-width.result _ _ c.top_of-top.ensures.value (height_in c.args.page.now c.args.trace.now.dots) c.args.trace.now.sound.first_in.y c.args.trace.now.sound.scaled_in.y c.from-width.ensures c.drawn_width_of.ensures.small in
    let width : c.from-width.result ≡ pos (width_of c.args.trace.now + 1) = c.from-width.ensures ∙ ap (λ (n : ℕ). pos (n + 1)) c.drawn_width_of.ensures.value in
    let sign : pos 0 ≤ℤ c.args.trace.now.course.y = omega (arith, ints, c.args.trace.now.sound.course_in.y, c.if-trace-lt0.false) in
    λ row above below.
    let above' = simp (to_z-of_z, small_fits, a.top_in, a.tops_in, a.first_in, a.firsts_in, a.near_in, a.course_in, a.courses_in, a.far_in, a.width_in, a.far_more) at above in
    let below' = simp (to_z-of_z, small_fits, a.top_in, a.tops_in, a.first_in, a.firsts_in, a.near_in, a.width_in, a.near_less) at below in
    beside_rising c.args.trace.now c.args.page.now row (pos 2 *ℤ c.top_of-top.result) (pos 2 *ℤ c.top_of-top.result -ℤ pos 2 *ℤ c.args.trace.now.first.y) (pos 2 *ℤ c.top_of-top.result -ℤ pos 2 *ℤ c.args.trace.now.first.y -ℤ pos 2 *ℤ c.args.trace.now.scaled_course.y) (pos 2 *ℤ c.top_of-top.result -ℤ pos 2 *ℤ c.args.trace.now.first.y -ℤ pos 2 *ℤ c.args.trace.now.scaled_course.y +ℤ c.from-width.result) (pos 2 *ℤ c.top_of-top.result -ℤ pos 2 *ℤ c.args.trace.now.first.y -ℤ c.from-width.result)
    (ap (λ (n : ℤ). pos 2 *ℤ n) c.top_of-top.ensures.value) refl refl (ap (λ (n : ℤ). pos 2 *ℤ c.top_of-top.result -ℤ pos 2 *ℤ c.args.trace.now.first.y -ℤ pos 2 *ℤ c.args.trace.now.scaled_course.y +ℤ n) width) (ap (λ (n : ℤ). pos 2 *ℤ c.top_of-top.result -ℤ pos 2 *ℤ c.args.trace.now.first.y -ℤ n) width) c.args.trace.now.course.y refl sign above' below'
