use Rattle.std.proofs.Common.{◌≡◌, ◌+◌, length}
use Rattle.areas.specs.Cuts.{count_to}
use Rattle.areas.proofs.among.count_to.Given as goal

-- those that were counted, and those that are left
abbrev pub invariant-areas : goal.invariant-areas
invariant-areas l = record {
  same : l.count + count_to l.end l.rest ≡ count_to l.end l.areas;
  few : l.count + length l.rest ≡ length l.areas;
}

abbrev pub decreases-areas : goal.decreases-areas
decreases-areas l = length l.rest
