use Rattle.std.proofs.Common.{rules, ◌∙◌, pos, ◌+ℤ◌, ◌-ℤ◌, ◌<ℤ◌, ◌≤ℤ◌, FitsSigned, arith}
use mir.Syntax.{w128}
use Rattle.std.proofs.lemmas.Int.{ints, to_z-of_z}
use Rattle.plot_frame.proofs.InBounds.{side_line_in}
use Rattle.plot_frame.proofs.Turned.{turned_axis, plain_axis}
use Rattle.plot_frame.proofs.lines.stretched_axis.Goals as goal

pub returns-then-side-lt0 : goal.returns-then-side-lt0
returns-then-side-lt0 c =
    let side = c.args.side in
    let h = c.requires.side in
    let r1 : FitsSigned w128 side.start = search rules in
    let r2 : FitsSigned w128 side.distance = search rules in
    let r3 : FitsSigned w128 side.least = search rules in
    let r4 : FitsSigned w128 side.extent = search rules in
    let k1 = h.start_in in
    let k2 = h.distance_in in
    let k4 = h.extent_in in
    let m = c.requires.margin in
    let em = c.from.ensures in
    let fm : FitsSigned w128 c.from.result = search rules in
    let f1 : FitsSigned w128 (side.start +ℤ c.from.result) = omega (arith, ints) in
    let f2 : FitsSigned w128 (pos 0 -ℤ side.distance) = omega (arith, ints) in
    let f4 : FitsSigned w128 (pos 0 -ℤ side.extent) = omega (arith, ints) in
    let n : side.extent <ℤ pos 0 = omega (arith, ints) in
    let e = rw c.from.ensures at (simp to_z-of_z at c.line_for.ensures.value) in
    let v = e ∙ turned_axis (side.start +ℤ pos c.args.margin) side.distance side.least side.extent n in
    record { value = v; line = rw v (side_line_in side c.args.margin h m) }

pub returns-else-side-lt0 : goal.returns-else-side-lt0
returns-else-side-lt0 c =
    let side = c.args.side in
    let h = c.requires.side in
    let r1 : FitsSigned w128 side.start = search rules in
    let r2 : FitsSigned w128 side.distance = search rules in
    let r3 : FitsSigned w128 side.least = search rules in
    let r4 : FitsSigned w128 side.extent = search rules in
    let k1 = h.start_in in
    let m = c.requires.margin in
    let em = c.from.ensures in
    let fm : FitsSigned w128 c.from.result = search rules in
    let f1 : FitsSigned w128 (side.start +ℤ c.from.result) = omega (arith, ints) in
    let n : pos 0 ≤ℤ side.extent = omega (arith, ints) in
    let e = rw c.from.ensures at (simp to_z-of_z at c.line_for-else-side-lt0.ensures.value) in
    let v = e ∙ plain_axis (side.start +ℤ pos c.args.margin) side.distance side.least side.extent n in
    record { value = v; line = rw v (side_line_in side c.args.margin h m) }
