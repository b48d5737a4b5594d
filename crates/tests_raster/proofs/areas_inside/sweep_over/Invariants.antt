use Rattle.areas.specs.Sweeps.{IsSweeping}
use Rattle.tests_raster.proofs.areas_inside.sweep_over.Given as goal

-- the sweep has come to the row at this height
abbrev pub invariant-loop : goal.invariant-loop
invariant-loop l = IsSweeping l.dots.resolution l.height l.area
