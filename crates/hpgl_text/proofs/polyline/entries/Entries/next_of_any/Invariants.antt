use Rattle.std.proofs.Common.{◌≡◌, ◌+◌, ◌<◌, ◌^◌, ◌++◌, length}
use Rattle.hpgl_text.specs.Carried.{entries_left}
use Rattle.hpgl_text.proofs.polyline.entries.Entries.next_of_any.Given as goal

-- what is left of the text has all the entries that are to come
abbrev pub invariant-pieces : goal.invariant-pieces
invariant-pieces l = record {
  same : l.self-inside.strays ++ entries_left l.self-inside.closed l.self-inside.coding l.self-inside.at l.self-inside.text.now ≡ l.fn.self;
  room : l.self-inside.at + length l.self-inside.text.now < 2 ^ 63;
}

abbrev pub decreases-pieces : goal.decreases-pieces
decreases-pieces l = length l.self-inside.text.now
