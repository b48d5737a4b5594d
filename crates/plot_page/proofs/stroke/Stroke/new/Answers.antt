use Rattle.std.proofs.Common.{◌∙◌, sym}
use Rattle.std.proofs.lemmas.Int.{to_z-of_z}
use Rattle.plot_page.specs.Segments.{Segment}
use Rattle.plot_page.proofs.StrokeBounds.{core_is_far, no_ends, no_window}
use Rattle.plot_page.proofs.stroke.Stroke.new.Goals as goal

pub returns-then-not-has_corners-clause-given : goal.returns-then-not-has_corners-clause-given
returns-then-not-has_corners-clause-given c =
    let s : Segment = record { pen = c.args.pen; colour = c.args.colour; width = c.args.width; window = c.args.window; ax = c.args.ax; ay = c.args.ay; bx = c.args.bx; by = c.args.by } in
    sym (no_window s (sym (c.if-not-has_corners.ensures {u = tt})))

pub returns-then-not-has_ends-clause-given : goal.returns-then-not-has_ends-clause-given
returns-then-not-has_ends-clause-given c =
    let fa = c.ranges.ax in
    let fb = c.ranges.ay in
    let fc = c.ranges.bx in
    let fd = c.ranges.by in
    let s : Segment = record { pen = c.args.pen; colour = c.args.colour; width = c.args.width; window = c.args.window; ax = c.args.ax; ay = c.args.ay; bx = c.args.bx; by = c.args.by } in
    let e = simp to_z-of_z at (c.if-not-has_ends.ensures {u = tt}) in
    sym (no_ends s (sym (c.if-not-has_corners.ensures {u = tt})) (sym e))

pub returns-clause-given : goal.returns-clause-given
returns-clause-given c =
    let fa = c.ranges.ax in
    let fb = c.ranges.ay in
    let fc = c.ranges.bx in
    let fd = c.ranges.by in
    let s : Segment = record { pen = c.args.pen; colour = c.args.colour; width = c.args.width; window = c.args.window; ax = c.args.ax; ay = c.args.ay; bx = c.args.bx; by = c.args.by } in
    let e = simp to_z-of_z at (c.if-not-has_ends.ensures {u = tt}) in
    let g = simp to_z-of_z at c.far.ensures.given in
    g ∙ core_is_far s (sym (c.if-not-has_corners.ensures {u = tt})) (sym e)

pub returns-clause-stroke : goal.returns-clause-stroke
returns-clause-stroke c =
    let fa = c.ranges.ax in
    let fb = c.ranges.ay in
    let fc = c.ranges.bx in
    let fd = c.ranges.by in
    simp to_z-of_z at c.far.ensures.stroke
