use Rattle.std.proofs.Common.{◌≡◌, map, take}
use Rattle.polygons.specs.Climbs.{crossing_at}
use Rattle.polygons.proofs.OnLines.{number_of}
use Rattle.polygons.proofs.sweep.Sweep.crossings.Given as goal

abbrev pub invariant-loop-climb : goal.invariant-loop-climb
invariant-loop-climb l =
    l.crossings.items ≡ map (crossing_at l.self.ruling.lines l.self.line l.self.edges.now) (map number_of (take l.climb-index l.self.active.items))
