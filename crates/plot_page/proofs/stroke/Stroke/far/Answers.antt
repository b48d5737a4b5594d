use Rattle.std.proofs.Common.{sym, true, false}
use Rattle.std.proofs.lemmas.Int.{to_z-of_z}
use Rattle.plot_page.proofs.StrokeBounds.{all_three, stroke_bounds}
use Rattle.plot_page.proofs.stroke.Stroke.far.Goals as goal

pub returns-then-not-has_far_ends-clause-given : goal.returns-then-not-has_far_ends-clause-given
returns-then-not-has_far_ends-clause-given c =
    let fa = c.ranges.ax in
    let fb = c.ranges.ay in
    let fc = c.ranges.bx in
    let fd = c.ranges.by in
    let e = simp to_z-of_z at (c.if-not-has_far_ends.ensures {u = tt}) in
    sym (all_three _ _ _ false (sym (c.if-not-has_pen_and_width.ensures {u = tt})) (sym (c.if-not-has_far_corners.ensures {u = tt})) (sym e))

pub invariant_of-result : goal.invariant_of-result
invariant_of-result c =
    let fa = c.ranges.ax in
    let fb = c.ranges.ay in
    let fc = c.ranges.bx in
    let fd = c.ranges.by in
    let e = simp to_z-of_z at (c.if-not-has_far_ends.ensures {u = tt}) in
    simp to_z-of_z (stroke_bounds _ (all_three _ _ _ true (sym (c.if-not-has_pen_and_width.ensures {u = tt})) (sym (c.if-not-has_far_corners.ensures {u = tt})) (sym e)))

pub returns-clause-given : goal.returns-clause-given
returns-clause-given c =
    let fa = c.ranges.ax in
    let fb = c.ranges.ay in
    let fc = c.ranges.bx in
    let fd = c.ranges.by in
    let e = simp to_z-of_z at (c.if-not-has_far_ends.ensures {u = tt}) in
    sym (all_three _ _ _ true (sym (c.if-not-has_pen_and_width.ensures {u = tt})) (sym (c.if-not-has_far_corners.ensures {u = tt})) (sym e))
