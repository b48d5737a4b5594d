use Rattle.std.proofs.Common.{◌≡◌, ◌≤◌, length, take}
use Rattle.areas.specs.Crossings.{AreCrossings}
use Rattle.areas.proofs.sweep.crossings_of.Given as goal

-- what is written are the crossings with the edges so far
abbrev pub invariant-loop-edge : goal.invariant-loop-edge
invariant-loop-edge l =
    AreCrossings l.dots.resolution l.height l.columns (take l.edge-index l.near) (take l.count l.room)
    × (l.count ≤ l.edge-index) × (length l.room ≡ length l.initial.room)
