use Rattle.std.proofs.Common.{◌≡◌, ◌≤◌, ℤ, List, drop, length, take}
use Rattle.plot_page.specs.Segments.{Segment}
use Rattle.areas.specs.Sweeps.{AreSwept}
use Rattle.areas.proofs.sweep.come.Given as goal

-- a sweep of the edges is one still
abbrev pub invariant-edges : goal.invariant-edges
invariant-edges l = record {
  swept : (edges : List Segment) (low : ℤ)
      → AreSwept l.dots.resolution edges low l.height (take l.waiting l.fn.near) (drop l.waiting l.fn.near)
      → AreSwept l.dots.resolution edges low l.height (take l.left l.near) (drop l.left l.near);
  few : l.left ≤ l.waiting;
  same : length l.near ≡ length l.fn.near;
}

abbrev pub decreases-edges : goal.decreases-edges
decreases-edges l = l.left
