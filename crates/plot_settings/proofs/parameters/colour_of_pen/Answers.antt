use Rattle.std.proofs.Common.{rules, ◌≡◌, true, ℤ, pos, int_le, nat_abs, sym, T, Fits, FitsSigned}
use mir.Syntax.{w8, w64}
use lib.Signed.{non_neg}
use Rattle.std.proofs.lemmas.Int.{to_z-of_z}
use Rattle.std.proofs.lemmas.Bool.{and_parts}
use Rattle.plot_settings.specs.Parameters.{is_byte}
use Rattle.plot_settings.proofs.parameters.colour_of_pen.Goals as goal

pen_fits : (z : ℤ) → is_byte z ≡ true → T (non_neg z) × Fits w8 (nat_abs z)
pen_fits z h = let p = and_parts (int_le (pos 0) z) (int_le z (pos 255)) h in (search rules, search rules)

pub overflow_cast-result : goal.overflow_cast-result
overflow_cast-result c = let f : FitsSigned w64 c.args.pen = c.ranges.pen in simp to_z-of_z (pen_fits c.args.pen (simp to_z-of_z at (sym c.if-is_byte.ensures)))
