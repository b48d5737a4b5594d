use Rattle.std.proofs.Common.{◌≡◌, ◌<◌, ◌≤◌, length, take, fold}
use Rattle.rows.specs.Known.{AreKnown}
use Rattle.rows.specs.Palettes.{with_colour}
use Rattle.rows.proofs.smooth_palette.add_pixels.Given as goal

-- the colours of the pixels so far were added
abbrev pub invariant-loop-pixel : goal.invariant-loop-pixel
invariant-loop-pixel l = record {
  some : 0 < length l.colours.items;
  few : length l.colours.items ≤ 256;
  colours : l.colours.items ≡ fold with_colour l.fn.colours.items (take l.pixel-index l.pixels);
  known : AreKnown l.colours.items l.known;
}
