use Rattle.std.proofs.Common.{rules, refl, FitsSigned}
use mir.Syntax.{w32, w64}
use Rattle.std.proofs.lemmas.Int.{to_z-of_z}
use Rattle.hpgl_plot.specs.Paths.{curve_point}
use Rattle.hpgl_plot.proofs.curve.curve_point.Goals as goal

pub returns : goal.returns
unfolding curve_point
returns c =
    let f : FitsSigned w64 c.turn.result = search rules in
    let g : FitsSigned w32 c.args.curve.sweep = search rules in
    let e = simp to_z-of_z at c.chord_point.ensures in
    let h = simp to_z-of_z at c.turn.ensures in
    rw (e, h) refl
