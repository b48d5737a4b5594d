use Rattle.std.proofs.Common.{◌≡◌, ◌≤◌, map, take, drop, length}
use Rattle.image_colours.specs.Dots.{index_of_planes}
use Rattle.image_colours.proofs.dot.index_of_planes.Given as goal

-- the index has the bits of the planes from a place on
abbrev pub invariant-loop-left : goal.invariant-loop-left
invariant-loop-left l = record {
  within : l.left ≤ length l.planes;
  counted : l.left ≤ l.count;
  index : l.index ≡ index_of_planes (drop l.left (take l.count (map (λ p. p.now) l.planes))) l.column;
}

abbrev pub decreases-loop-left : goal.decreases-loop-left
decreases-loop-left l = l.left
