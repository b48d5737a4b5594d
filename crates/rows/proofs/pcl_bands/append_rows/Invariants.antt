use Rattle.std.proofs.Common.{◌≡◌, ◌≤◌, ◌+◌, ◌*◌, take, length, flat_map}
use Rattle.picture_out.specs.Pcl as pcl
use Rattle.picture_out.specs.declared.pcl.TheConstants.{LONGEST_COMMAND}
use Rattle.stroke_raster.specs.Rows.{split_rows}
use Rattle.rows.proofs.pcl_bands.append_rows.Given as goal

-- the rows so far stand in the text
abbrev pub invariant-loop-i : goal.invariant-loop-i
invariant-loop-i l = record {
  so_far : take l.used l.text ≡ flat_map pcl.row (take l.i (split_rows l.stride l.rows l.bytes));
  most : l.used ≤ l.i * (l.stride + LONGEST_COMMAND);
  size : length l.text ≡ length l.fn.text;
}
