use Rattle.std.proofs.Common.{◌+ℤ◌, arith, refl, FitsSigned}
use mir.Syntax.{w32}
use Rattle.std.proofs.lemmas.Int.{ints, to_z-of_z}
use Rattle.full_plot.proofs.plotter.FullPlotter.hatching_lines.Goals as goal

pub returns-clause-lines : goal.returns-clause-lines
returns-clause-lines c =
    let a = c.args.self.now.filling.fill.angle in
    let t = c.turn_of.result in
    let ha = c.args.self.now.filling_in.fill_in.angle_in in
    let hs = c.signed.ensures in
    let ht = c.turn_of.ensures.most in
    let hm = c.requires in
    let f1 : FitsSigned w32 c.signed.result = rw hs (omega (arith, ints, ha)) in
    let f2 : FitsSigned w32 t = omega (arith, ints, ht) in
    let f3 : FitsSigned w32 (c.signed.result +ℤ t) = rw hs (omega (arith, ints, ha, ht)) in
    let f4 : FitsSigned w32 (c.signed.result +ℤ t +ℤ c.args.more) = rw hs (omega (arith, ints, ha, ht, hm)) in
    let f5 : FitsSigned w32 c.args.more = omega (arith, ints, hm) in
    simp to_z-of_z (rw (c.hatching_distance.ensures.value, c.new.ensures, hs, c.turn_of.ensures.value) refl)
