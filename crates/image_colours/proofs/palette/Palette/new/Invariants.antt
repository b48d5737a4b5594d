use Rattle.std.proofs.Common.{◌≡◌, ◌<◌, ℕ, get_or, length}
use Rattle.image_colours.specs.Palettes.{black, starting}
use Rattle.image_colours.proofs.palette.Palette.new.Given as goal

-- the entries before the index have their colours
abbrev pub invariant-loop-index : goal.invariant-loop-index
invariant-loop-index l = record {
  sized : length l.colours ≡ 256;
  filled : (k : ℕ) → k < l.index → get_or l.colours k black ≡ starting l.coding k;
}
