use Rattle.std.proofs.Common.{◌≡◌, pos, ℤ, ◌+ℤ◌, ◌-ℤ◌, ◌*ℤ◌, refl, ap, arith, FitsSigned}
use mir.Syntax.{w32, w64}
use Rattle.std.proofs.lemmas.Int.{ints, to_z-of_z}
use Rattle.polygons.proofs.Tests.{lt_true, lt_false}
use Rattle.areas.specs.Sweeps.{in_column, pixel_of}
use Rattle.areas.proofs.SweptEdges.{column_within, rest_within, short_within, step_within}
use Rattle.areas.proofs.swept_edge.SweptEdge.below.Goals as goal

pub overflow_sub-column : goal.overflow_sub-column
overflow_sub-column c =
    let n = c.args.self in
    let h = c.requires.in_row in
    let step = step_within c.requires.r c.requires.y n c.requires.few c.requires.near h in
    let column = column_within c.requires.r c.requires.y n c.requires.few c.requires.near h in
    let rest = rest_within c.requires.r c.requires.y n h in
    let short = short_within c.requires.r c.requires.y n h in
    let fc : FitsSigned w64 n.column = omega (arith, ints, column) in
    let fs : FitsSigned w64 n.step = omega (arith, ints, step) in
    let fr : FitsSigned w64 n.rest = omega (arith, ints, rest) in
    let fh : FitsSigned w64 n.short = omega (arith, ints, short) in
    simp to_z-of_z (omega (arith, ints, step, column))

pub overflow_add-short : goal.overflow_add-short
overflow_add-short c =
    let n = c.args.self in
    let h = c.requires.in_row in
    let step = step_within c.requires.r c.requires.y n c.requires.few c.requires.near h in
    let column = column_within c.requires.r c.requires.y n c.requires.few c.requires.near h in
    let rest = rest_within c.requires.r c.requires.y n h in
    let short = short_within c.requires.r c.requires.y n h in
    let fc : FitsSigned w64 n.column = omega (arith, ints, column) in
    let fs : FitsSigned w64 n.step = omega (arith, ints, step) in
    let fr : FitsSigned w64 n.rest = omega (arith, ints, rest) in
    let fh : FitsSigned w64 n.short = omega (arith, ints, short) in
    let fn : FitsSigned w64 (n.column -ℤ n.step) = omega (arith, ints, step, column) in
    let fp : FitsSigned w64 (pos 16256 *ℤ n.rest) = omega (arith, ints, rest) in
    let fl : FitsSigned w64 (n.short +ℤ pos 16256 *ℤ n.rest) = omega (arith, ints, rest, short) in
    simp to_z-of_z (omega (arith, ints, rest, short))

pub overflow_sub-result : goal.overflow_sub-result
overflow_sub-result c =
    let n = c.args.self in
    let h = c.requires.in_row in
    let step = step_within c.requires.r c.requires.y n c.requires.few c.requires.near h in
    let column = column_within c.requires.r c.requires.y n c.requires.few c.requires.near h in
    let rest = rest_within c.requires.r c.requires.y n h in
    let short = short_within c.requires.r c.requires.y n h in
    let fc : FitsSigned w64 n.column = omega (arith, ints, column) in
    let fs : FitsSigned w64 n.step = omega (arith, ints, step) in
    let fr : FitsSigned w64 n.rest = omega (arith, ints, rest) in
    let fh : FitsSigned w64 n.short = omega (arith, ints, short) in
    let fn : FitsSigned w64 (n.column -ℤ n.step) = omega (arith, ints, step, column) in
    let fp : FitsSigned w64 (pos 16256 *ℤ n.rest) = omega (arith, ints, rest) in
    let fl : FitsSigned w64 (n.short +ℤ pos 16256 *ℤ n.rest) = omega (arith, ints, rest, short) in
    simp to_z-of_z (omega (arith, ints, step, column))

pub overflow_sub-result-else-short-whole : goal.overflow_sub-result-else-short-whole
overflow_sub-result-else-short-whole c =
    let n = c.args.self in
    let h = c.requires.in_row in
    let step = step_within c.requires.r c.requires.y n c.requires.few c.requires.near h in
    let column = column_within c.requires.r c.requires.y n c.requires.few c.requires.near h in
    let rest = rest_within c.requires.r c.requires.y n h in
    let short = short_within c.requires.r c.requires.y n h in
    let fc : FitsSigned w64 n.column = omega (arith, ints, column) in
    let fs : FitsSigned w64 n.step = omega (arith, ints, step) in
    let fr : FitsSigned w64 n.rest = omega (arith, ints, rest) in
    let fh : FitsSigned w64 n.short = omega (arith, ints, short) in
    let fn : FitsSigned w64 (n.column -ℤ n.step) = omega (arith, ints, step, column) in
    let fp : FitsSigned w64 (pos 16256 *ℤ n.rest) = omega (arith, ints, rest) in
    let fl : FitsSigned w64 (n.short +ℤ pos 16256 *ℤ n.rest) = omega (arith, ints, rest, short) in
    let fw : FitsSigned w64 c.pixel_of-whole.result = omega (arith, ints, c.pixel_of-whole.ensures.within) in
    let ax : FitsSigned w32 n.ax = omega (arith, ints, h.ax) in
    let ay : FitsSigned w32 n.ay = omega (arith, ints, h.ay) in
    let bx : FitsSigned w32 n.bx = omega (arith, ints, h.bx) in
    let by : FitsSigned w32 n.by = omega (arith, ints, h.by) in
    let whole : c.pixel_of-whole.result ≡ pixel_of n = simp to_z-of_z at c.pixel_of-whole.ensures.value in
    simp to_z-of_z (omega (arith, ints, rest, short, c.pixel_of-whole.ensures.within))

pub returns-then-short-whole : goal.returns-then-short-whole
returns-then-short-whole c =
    let n = c.args.self in
    let h = c.requires.in_row in
    let step = step_within c.requires.r c.requires.y n c.requires.few c.requires.near h in
    let column = column_within c.requires.r c.requires.y n c.requires.few c.requires.near h in
    let rest = rest_within c.requires.r c.requires.y n h in
    let short = short_within c.requires.r c.requires.y n h in
    let fc : FitsSigned w64 n.column = omega (arith, ints, column) in
    let fs : FitsSigned w64 n.step = omega (arith, ints, step) in
    let fr : FitsSigned w64 n.rest = omega (arith, ints, rest) in
    let fh : FitsSigned w64 n.short = omega (arith, ints, short) in
    let fn : FitsSigned w64 (n.column -ℤ n.step) = omega (arith, ints, step, column) in
    let fp : FitsSigned w64 (pos 16256 *ℤ n.rest) = omega (arith, ints, rest) in
    let fl : FitsSigned w64 (n.short +ℤ pos 16256 *ℤ n.rest) = omega (arith, ints, rest, short) in
    let fw : FitsSigned w64 c.pixel_of-whole.result = omega (arith, ints, c.pixel_of-whole.ensures.within) in
    let ax : FitsSigned w32 n.ax = omega (arith, ints, h.ax) in
    let ay : FitsSigned w32 n.ay = omega (arith, ints, h.ay) in
    let bx : FitsSigned w32 n.bx = omega (arith, ints, h.bx) in
    let by : FitsSigned w32 n.by = omega (arith, ints, h.by) in
    let whole : c.pixel_of-whole.result ≡ pixel_of n = simp to_z-of_z at c.pixel_of-whole.ensures.value in
    let less = simp to_z-of_z at c.if-short-whole.true in
    let t = lt_true (n.short +ℤ pos 16256 *ℤ n.rest) (pixel_of n) (omega (arith, ints, less, whole)) in
    simp to_z-of_z (rw t refl)

pub returns-else-short-whole : goal.returns-else-short-whole
returns-else-short-whole c =
    let n = c.args.self in
    let h = c.requires.in_row in
    let step = step_within c.requires.r c.requires.y n c.requires.few c.requires.near h in
    let column = column_within c.requires.r c.requires.y n c.requires.few c.requires.near h in
    let rest = rest_within c.requires.r c.requires.y n h in
    let short = short_within c.requires.r c.requires.y n h in
    let fc : FitsSigned w64 n.column = omega (arith, ints, column) in
    let fs : FitsSigned w64 n.step = omega (arith, ints, step) in
    let fr : FitsSigned w64 n.rest = omega (arith, ints, rest) in
    let fh : FitsSigned w64 n.short = omega (arith, ints, short) in
    let fn : FitsSigned w64 (n.column -ℤ n.step) = omega (arith, ints, step, column) in
    let fp : FitsSigned w64 (pos 16256 *ℤ n.rest) = omega (arith, ints, rest) in
    let fl : FitsSigned w64 (n.short +ℤ pos 16256 *ℤ n.rest) = omega (arith, ints, rest, short) in
    let fw : FitsSigned w64 c.pixel_of-whole.result = omega (arith, ints, c.pixel_of-whole.ensures.within) in
    let ax : FitsSigned w32 n.ax = omega (arith, ints, h.ax) in
    let ay : FitsSigned w32 n.ay = omega (arith, ints, h.ay) in
    let bx : FitsSigned w32 n.bx = omega (arith, ints, h.bx) in
    let by : FitsSigned w32 n.by = omega (arith, ints, h.by) in
    let whole : c.pixel_of-whole.result ≡ pixel_of n = simp to_z-of_z at c.pixel_of-whole.ensures.value in
    let fb : FitsSigned w64 (n.column -ℤ n.step -ℤ pos 1) = omega (arith, ints, step, column) in
    let fv : FitsSigned w64 (n.short +ℤ pos 16256 *ℤ n.rest -ℤ c.pixel_of-whole.result) =
    omega (arith, ints, rest, short, c.pixel_of-whole.ensures.within) in
    let more = simp to_z-of_z at c.if-short-whole.false in
    let t = lt_false (n.short +ℤ pos 16256 *ℤ n.rest) (pixel_of n) (omega (arith, ints, more, whole)) in
    let e = ap (λ (z : ℤ). n.short +ℤ pos 16256 *ℤ n.rest -ℤ z) whole in
    simp to_z-of_z (rw t (ap (λ (z : ℤ). in_column n (n.column -ℤ n.step -ℤ pos 1) z) e))
