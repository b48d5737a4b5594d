use Rattle.std.proofs.Common.{rules, true, false, FitsSigned, arith}
use mir.Syntax.{w64, w128}
use Rattle.std.proofs.lemmas.Int.{to_z-of_z}
use Rattle.stroke_raster.proofs.Scaling.{first_is_near, last_is_near, beside_is_near, past_near}
use Rattle.stroke_raster.proofs.nearness.meets.Goals as goal

pub returns-then-along-le0 : goal.returns-then-along-le0
returns-then-along-le0 c =
    let fa : FitsSigned w64 c.dot_product-along.result = search rules in
    let fr : FitsSigned w128 c.args.trace.now.reach = search rules in
    let e = rw c.dot_product-along.ensures.value at (simp to_z-of_z at c.if-along-le0.true) in
    let m = simp to_z-of_z at c.is_short.ensures in
    first_is_near c.args.trace.now c.args.w c.is_short.result (omega (arith, c.args.trace.now.dots.at_least)) e m

pub returns-then-trace-along : goal.returns-then-trace-along
returns-then-trace-along c =
    let fa : FitsSigned w64 c.dot_product-along.result = search rules in
    let fl : FitsSigned w64 c.args.trace.now.along = search rules in
    let e = rw c.dot_product-along.ensures.value at (simp to_z-of_z at c.if-along-le0.false) in
    let f = rw c.dot_product-along.ensures.value at (simp to_z-of_z at c.if-trace-along.true) in
    let fr : FitsSigned w128 c.args.trace.now.reach = search rules in
    let m = rw c.way_between.ensures at (simp to_z-of_z at c.is_short-then-trace-along.ensures) in
    last_is_near c.args.trace.now c.args.w c.is_short-then-trace-along.result (omega (arith, c.args.trace.now.dots.at_least)) e (past_near c.args.trace.now c.args.w true c.requires.near f) m

pub returns : goal.returns
returns c =
    let fa : FitsSigned w64 c.dot_product-along.result = search rules in
    let fl : FitsSigned w64 c.args.trace.now.along = search rules in
    let e = rw c.dot_product-along.ensures.value at (simp to_z-of_z at c.if-along-le0.false) in
    let f = rw c.dot_product-along.ensures.value at (simp to_z-of_z at c.if-trace-along.false) in
    let fr : FitsSigned w128 c.args.trace.now.limit = search rules in
    beside_is_near c.args.trace.now c.args.w c.is_beside.result (omega (arith, c.args.trace.now.dots.at_least)) e (past_near c.args.trace.now c.args.w false c.requires.near f) (simp to_z-of_z at c.is_beside.ensures)
