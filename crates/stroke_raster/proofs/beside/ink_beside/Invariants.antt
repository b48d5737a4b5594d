use Rattle.std.proofs.Common.{◌-◌, ◌*◌, ◌<◌, ◌≤◌}
use Rattle.stroke_raster.specs.Covers.{covers}
use Rattle.stroke_raster.specs.Edges.{IsEdge}
use Rattle.stroke_raster.specs.Parts.{ArePartInked, reached_in}
use Rattle.stroke_raster.proofs.beside.ink_beside.Given as goal

-- the rows so far are inked, and the edge is that of the next row
abbrev pub invariant-loop-row : goal.invariant-loop-row
invariant-loop-row l = record {
  inked : ArePartInked (covers l.trace.stroke.now l.page l.trace.dots) l.layout (record { low = l.edges.rows.low; end = l.row }) l.columns l.fn.bits l.bits;
  least : reached_in (covers l.trace.stroke.now l.page l.trace.dots) (record { low = l.edges.rows.low; end = l.row }) l.columns ≤ l.count;
  most : l.count ≤ (l.row - l.edges.rows.low) * (l.columns.end - l.columns.low);
  edge : l.row < l.edges.rows.end → IsEdge l.trace l.page l.columns.low l.edges l.row l.at;
}
