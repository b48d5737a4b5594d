use Rattle.std.proofs.Common.{◌≡◌, ◌-◌, length}
use Rattle.polygons.specs.Sweeps.{IsCut, these, left}
use Rattle.polygons.proofs.sweep.Sweep.begin.Given as goal

abbrev pub invariant-climbs : goal.invariant-climbs
invariant-climbs l = record { cut : IsCut l.self; same : left l.self ≡ left l.fn.self; these_are : these l.self ≡ these l.fn.self }

abbrev pub decreases-climbs : goal.decreases-climbs
decreases-climbs l = length l.self.climbs.items - l.self.begun
