use Rattle.std.proofs.Common.{◌≡◌, ◌+◌, ◌*◌, ◌≤◌, drop}
use Rattle.image_rows.specs.Changes.{further}
use Rattle.image_rows.proofs.numbers.further.Given as goal

-- the number goes on with the bytes that are left
abbrev pub invariant-loop-at : goal.invariant-loop-at
invariant-loop-at l = record {
  bound : l.value ≤ l.fn.bits + 255 * l.at;
  so_far : further l.fn.bits l.input ≡ further l.value (drop l.at l.input);
}
