use Rattle.std.proofs.Common.{rules, refl, arith, ◌<◌, ◌≤◌, ◌*◌, ◌^◌, ◌+ℤ◌, ◌-ℤ◌, pos, FitsSigned}
use mir.Syntax.{w128}
use Rattle.std.proofs.lemmas.Int.{ints, to_z-of_z}
use Rattle.std.proofs.lemmas.Nat.{mul-le}
use Rattle.stick_font.proofs.label.grid_point.Goals as goal

pub returns-clause-value : goal.returns-clause-value
returns-clause-value c =
    let column = c.args.cell.column in
    let line = c.args.cell.line in
    let unit = c.args.unit in
    let i = c.args.i in
    let j = c.args.j in
    let hc : column < 2 ^ 64 = search rules in
    let hl : line < 2 ^ 64 = search rules in
    let hu : unit < 256 = search rules in
    let hi : i < 256 = search rules in
    let hj : j < 256 = search rules in
    let m : unit * i ≤ 65025 = mul-le unit i 255 255 (omega arith) (omega arith) in
    let n : unit * j ≤ 65025 = mul-le unit j 255 255 (omega arith) (omega arith) in
    let f1 : FitsSigned w128 (pos unit) = omega (arith, ints) in
    let f2 : FitsSigned w128 (pos i) = omega (arith, ints) in
    let f3 : FitsSigned w128 (pos j) = omega (arith, ints) in
    let f4 : FitsSigned w128 (pos column) = omega (arith, ints) in
    let f5 : FitsSigned w128 (pos line) = omega (arith, ints) in
    let f6 : FitsSigned w128 (pos (18 * column)) = omega (arith, ints) in
    let f7 : FitsSigned w128 (pos (36 * line)) = omega (arith, ints) in
    let f8 : FitsSigned w128 (pos (unit * i)) = omega (arith, ints) in
    let f9 : FitsSigned w128 (pos (unit * j)) = omega (arith, ints) in
    let f10 : FitsSigned w128 (pos (18 * column) +ℤ pos (unit * i)) = omega (arith, ints) in
    let f11 : FitsSigned w128 (pos (unit * j) -ℤ pos (36 * line)) = omega (arith, ints) in
    rw (c.from-unit.ensures, c.from.ensures, c.from-2.ensures, c.from-3.ensures, c.from-4.ensures) (simp to_z-of_z refl)
