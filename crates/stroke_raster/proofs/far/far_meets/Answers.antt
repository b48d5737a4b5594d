use Rattle.std.proofs.Common.{rules, true, false, FitsSigned, arith}
use mir.Syntax.{w128}
use Rattle.std.proofs.lemmas.Int.{to_z-of_z}
use Rattle.stroke_raster.proofs.Scaling.{first_is_near, last_is_near, beside_is_near, past_last}
use Rattle.stroke_raster.proofs.far.far_meets.Goals as goal

pub returns-then-wide_dot-le0 : goal.returns-then-wide_dot-le0
returns-then-wide_dot-le0 c =
    let fa : FitsSigned w128 c.wide_dot.result = search rules in
    let fr : FitsSigned w128 c.args.trace.now.reach = search rules in
    let e = rw c.wide_dot.ensures.value at (simp to_z-of_z at c.if-wide_dot-le0.true) in
    first_is_near c.args.trace.now c.args.w c.is_short.result (omega (arith, c.args.trace.now.dots.at_least)) e (simp to_z-of_z at c.is_short.ensures)

pub returns-then-wide_dot-ge0 : goal.returns-then-wide_dot-ge0
returns-then-wide_dot-ge0 c =
    let t = c.args.trace.now in
    let fa : FitsSigned w128 c.wide_dot.result = search rules in
    let fb : FitsSigned w128 c.wide_dot-2.result = search rules in
    let fr : FitsSigned w128 t.reach = search rules in
    let e = rw c.wide_dot.ensures.value at (simp to_z-of_z at c.if-wide_dot-le0.false) in
    let f = rw (c.wide_dot-2.ensures.value, c.way_between-past.ensures) at (simp to_z-of_z at c.if-wide_dot-ge0.true) in
    let m = rw c.way_between-past.ensures at (simp to_z-of_z at c.is_short-then-wide_dot-ge0.ensures) in
    last_is_near t c.args.w c.is_short-then-wide_dot-ge0.result (omega (arith, t.dots.at_least)) e (past_last t c.args.w true f) m

pub returns : goal.returns
returns c =
    let t = c.args.trace.now in
    let fa : FitsSigned w128 c.wide_dot.result = search rules in
    let fb : FitsSigned w128 c.wide_dot-2.result = search rules in
    let fl : FitsSigned w128 t.limit = search rules in
    let e = rw c.wide_dot.ensures.value at (simp to_z-of_z at c.if-wide_dot-le0.false) in
    let f = rw (c.wide_dot-2.ensures.value, c.way_between-past.ensures) at (simp to_z-of_z at c.if-wide_dot-ge0.false) in
    beside_is_near t c.args.w c.is_far_beside.result (omega (arith, t.dots.at_least)) e (past_last t c.args.w false f) (simp to_z-of_z at c.is_far_beside.ensures)
