use Rattle.std.proofs.Common.{◌≡◌, ◌+◌, ◌≤◌, ◌++◌, length, take, drop}
use Rattle.areas.specs.Crossings.{ranges_after}
use Rattle.areas.proofs.range.divide.Given as goal

-- the ranges that are written, and those of the crossings that are left, are all ranges
abbrev pub invariant-loop-crossing : goal.invariant-loop-crossing
invariant-loop-crossing l =
    (take l.count l.room ++ ranges_after l.rule l.columns l.upward l.downward l.first (drop l.crossing-index l.crossings)
    ≡ ranges_after l.rule l.columns 0 0 0 l.crossings)
    × (l.count ≤ l.crossing-index) × (l.upward + l.downward ≡ l.crossing-index) × (length l.room ≡ length l.initial.room)
