use Rattle.std.proofs.Common.{◌≡◌, ◌++◌, ◌≤◌, ◌-◌, take, length}
use Rattle.hpgl_text.proofs.numbers.Numbers.leading.Given as goal

-- those that were taken, and the rest, are all
abbrev pub invariant-list : goal.invariant-list
invariant-list l = record {
  all : take l.count l.list ++ l.rest ≡ l.fn.self;
  within : l.count ≤ 7;
  room : length l.list ≡ 7;
}

abbrev pub decreases-list : goal.decreases-list
decreases-list l = 7 - l.count
