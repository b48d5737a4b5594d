use Rattle.std.proofs.Common.{◌≡◌, ◌≤◌, true, drop}
use Rattle.hpgl_plot.specs.Machine.{seen, travelled_all}
use Rattle.hpgl_plot.proofs.Letters.{lines_from, label_lines, cell_from}
use Rattle.hpgl_plot.proofs.Travels.{IsKept}
use Rattle.hpgl_plot.proofs.plotter.Plotter.write.Given as goal

-- what is left of the label comes to what all of it comes to
abbrev pub invariant-loop-byte : goal.invariant-loop-byte
invariant-loop-byte l = record {
  kept : IsKept (seen l.fn.self) (seen l.self);
  column_in : l.cell.column ≤ l.byte-index;
  line_in : l.cell.line ≤ l.byte-index;
  ends : cell_from l.cell (drop l.byte-index l.bytes) ≡ cell_from (record { column = 0; line = 0 }) l.bytes;
  same : travelled_all (seen l.self) true (lines_from l.fn.self.state l.cell (drop l.byte-index l.bytes)) ≡ travelled_all (seen l.fn.self) true (label_lines l.fn.self.state l.bytes);
}
