use Rattle.std.proofs.Common.{◌≡◌, ℕ, ◌-◌, ◌<◌, ◌≤◌, get_or}
use Rattle.picture_out.proofs.ppm.run_end.Given as goal

-- the cells so far are the same as the first
abbrev pub invariant-loop-next : goal.invariant-loop-next
invariant-loop-next l = record {
  onward : l.column < l.next;
  within : l.next ≤ l.end;
  same : (k : ℕ) → l.column ≤ k → k < l.next → get_or l.cells k 0 ≡ get_or l.cells l.column 0;
}

abbrev pub decreases-loop-next : goal.decreases-loop-next
decreases-loop-next l = l.end - l.next
