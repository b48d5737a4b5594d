use Rattle.std.proofs.Common.{◌≡◌, ◌≤◌, ◌++◌, ◌*◌, ◌-◌, take, drop, flat_map}
use Rattle.picture_out.specs.Inks.{cell_colour}
use Rattle.picture_out.proofs.ppm.put_colours.Given as goal

-- the colours so far, and then what `out` held before
abbrev pub invariant-loop-column : goal.invariant-loop-column
invariant-loop-column g l = record {
  low : l.span.low ≤ l.column;
  within : l.column ≤ l.span.end;
  filled : l.out ≡ flat_map (cell_colour (g.I.Inks.inks l.inks)) (take l.column l.cells) ++ drop (3 * l.column) l.fn.out;
}

abbrev pub decreases-loop-column : goal.decreases-loop-column
decreases-loop-column g l = l.span.end - l.column
