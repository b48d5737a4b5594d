use Rattle.std.proofs.Common.{◌≡◌, ◌≤◌, length, take}
use Rattle.areas.specs.Sweeps.{AreNear}
use Rattle.areas.proofs.sweep.edges_near.Given as goal

-- what is written are those of the edges so far
abbrev pub invariant-loop-edge : goal.invariant-loop-edge
invariant-loop-edge l =
    AreNear l.dots.resolution (take l.edge-index l.edges) l.bottom l.top (take l.count l.room)
    × (l.count ≤ l.edge-index) × (length l.room ≡ length l.initial.room)
