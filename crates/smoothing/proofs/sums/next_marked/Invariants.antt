use Rattle.std.proofs.Common.{◌≡◌, ◌<◌, ◌≤◌, ◌-◌, ℕ, get_or}
use Rattle.smoothing.proofs.sums.next_marked.Given as goal

-- the cells so far are 0
abbrev pub invariant-eights : goal.invariant-eights
invariant-eights l = record {
  onward : l.from ≤ l.at;
  blank : (k : ℕ) → l.from ≤ k → k < l.at → get_or l.cells k 0 ≡ 0;
}

abbrev pub decreases-eights : goal.decreases-eights
decreases-eights l = l.end - l.at

abbrev pub invariant-cells : goal.invariant-cells
invariant-cells l = record {
  onward : l.from ≤ l.at;
  blank : (k : ℕ) → l.from ≤ k → k < l.at → get_or l.cells k 0 ≡ 0;
}

abbrev pub decreases-cells : goal.decreases-cells
decreases-cells l = l.end - l.at
