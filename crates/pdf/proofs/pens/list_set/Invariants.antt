use Rattle.std.proofs.Common.{◌≡◌, ◌≤◌, take, filter}
use Rattle.std.specs.List.{range_with_len}
use Rattle.plot_page.specs.Pens.{has_pen}
use Rattle.pdf.proofs.pens.list_set.Given as goal

-- the pens so far
abbrev pub invariant-loop-pen : goal.invariant-loop-pen
invariant-loop-pen l = record {
  list : take l.count l.list ≡ filter (has_pen l.set) (range_with_len 0 l.pen);
  few : l.count ≤ l.pen;
}
