use Rattle.std.proofs.Common.{◌≡◌, ◌≤◌, ◌++◌, length, drop}
use Rattle.conversion.specs.Vectors.{ends_after}
use Rattle.conversion.proofs.page_ends.page_ends.Given as goal

-- the ends that are left give the pages that are left
abbrev pub invariant-loop-end : goal.invariant-loop-end
invariant-loop-end l = record {
  pages : l.pages.items ++ ends_after l.fn.count l.at (drop l.end-index l.ends) ≡ ends_after l.fn.count 0 l.ends;
  within : l.at ≤ l.fn.count;
  few : length l.pages.items ≤ l.at;
}
