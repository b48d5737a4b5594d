use Rattle.std.proofs.Common.{◌≡◌, ◌<◌, ◌≤◌, length, take}
use Rattle.rows.specs.Palettes.{AreNumbers, colours_used}
use Rattle.rows.proofs.palette.palette_of.Given as goal

-- the colours and the numbers are those of the strokes so far
abbrev pub invariant-loop-stroke : goal.invariant-loop-stroke
invariant-loop-stroke l =
    let so_far = take l.stroke-index l.strokes in
    record {
      some : 0 < length l.colours.items;
      few : length l.colours.items ≤ 256;
      colours : l.colours.items ≡ colours_used l.pens so_far;
      numbers : AreNumbers l.pens so_far l.colours.items l.numbers.items;
    }
