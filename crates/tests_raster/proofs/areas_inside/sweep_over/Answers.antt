use Rattle.std.proofs.Common.{pos, ◌-ℤ◌, rules, to_z, FitsSigned}
use mir.Syntax.{w64}
use Rattle.std.proofs.lemmas.Int.{to_z-of_z}
use Rattle.tests_raster.proofs.areas_inside.sweep_over.Goals as goal

pub loop-preserved : goal.loop-preserved
loop-preserved c =
    let inv = c.loop.invariant in
    let fh : FitsSigned w64 (to_z w64 c.loop.height-bits -ℤ pos 16256) = search rules in
    simp to_z-of_z (record { edges = inv.edges; low = inv.low; follows = c.next_row.ensures.next inv.edges inv.low inv.follows })
