use Rattle.std.proofs.Common.{◌≡◌, ◌++◌, ◌≤◌, ◌-◌, take, length}
use Rattle.full_settings.proofs.line_parameters.first_gaps.Given as goal

-- those that were taken, and the rest, are all
abbrev pub invariant-list : goal.invariant-list
invariant-list l = record {
  all : take l.count l.list ++ l.rest ≡ l.fn.gaps;
  within : l.count ≤ 20;
  room : length l.list ≡ 20;
}

abbrev pub decreases-list : goal.decreases-list
decreases-list l = 20 - l.count
