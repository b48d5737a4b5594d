use Rattle.std.proofs.Common.{◌≡◌, ◌+◌, ◌^◌, ◌<◌, drop}
use Rattle.image_data.specs.Tiles.{following}
use Rattle.image_data.proofs.tiles.following.Given as goal

-- as many follow as there were so far, and those of the numbers that are left
abbrev pub invariant-loop-number : goal.invariant-loop-number
invariant-loop-number l = record {
  count : l.count ≡ l.number-index;
  small : l.previous < 2 ^ 32;
  left : following l.fn.last l.numbers ≡ l.count + following l.previous (drop l.number-index l.numbers);
}
