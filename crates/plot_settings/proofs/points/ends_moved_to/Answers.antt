use Rattle.std.proofs.Common.{rules, refl, ◌+ℤ◌, ◌-ℤ◌, FitsSigned, arith}
use mir.Syntax.{w64}
use Rattle.std.proofs.lemmas.Int.{ints, to_z-of_z}
use Rattle.plot_settings.proofs.Moved.{moved_sound}
use Rattle.plot_settings.proofs.points.ends_moved_to.Goals as goal

pub returns : goal.returns
returns c =
    let e = c.args.ends in
    let ka = c.requires.first_in in
    let kd = c.requires.ends.distance_in in
    let fa : FitsSigned w64 c.args.first = c.ranges.first in
    let f1 : FitsSigned w64 e.first = search rules in
    let f2 : FitsSigned w64 e.last = search rules in
    let fd : FitsSigned w64 (e.last -ℤ e.first) = omega (arith, ints) in
    let fs : FitsSigned w64 (c.args.first +ℤ (e.last -ℤ e.first)) = omega (arith, ints) in
    record {
      value = simp to_z-of_z refl;
      sound = simp to_z-of_z (moved_sound e c.args.first c.requires.ends c.requires.first_in);
    }
