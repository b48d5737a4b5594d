use Rattle.std.proofs.Common.{rules, FitsSigned, arith}
use mir.Syntax.{w8}
use Rattle.std.proofs.lemmas.Int.{to_z-of_z}
use Rattle.full_font.proofs.Polylines.{length-points, slice_get-points}
use Rattle.full_font.proofs.characters.point_at.Goals as goal

pub overflow_mul-i : goal.overflow_mul-i
overflow_mul-i c = omega (arith, length-points c.args.line.now)

pub bounds-line-i : goal.bounds-line-i
bounds-line-i c = omega (arith, length-points c.args.line.now)

pub overflow_mul-i-2 : goal.overflow_mul-i-2
overflow_mul-i-2 c = omega (arith, length-points c.args.line.now)

pub overflow_add-i : goal.overflow_add-i
overflow_add-i c = omega (arith, length-points c.args.line.now)

pub bounds-line-i-2 : goal.bounds-line-i-2
bounds-line-i-2 c = omega (arith, length-points c.args.line.now)

pub returns : goal.returns
returns c =
    let read = slice_get-points c.args.line.now c.args.i c.requires in
    let fits : FitsSigned w8 c.y_of.result = search rules in
    simp to_z-of_z (rw (c.digit.ensures.value, c.y_of.ensures) read)
