use Rattle.std.proofs.Common.{◌≡◌, ◌+◌, ◌<◌, ◌^◌, length}
use Rattle.hpgl_text.specs.Polylines.{strays}
use Rattle.hpgl_text.proofs.polyline.strays.StraysIterator.next.Given as goal

-- what is left of the gap has all the strays that are to come
abbrev pub invariant-blanks : goal.invariant-blanks
invariant-blanks l = record {
  same : strays l.self-inside.at l.self-inside.gap.now ≡ l.fn.self;
  room : l.self-inside.at + length l.self-inside.gap.now < 2 ^ 63;
}

abbrev pub decreases-blanks : goal.decreases-blanks
decreases-blanks l = length l.self-inside.gap.now
