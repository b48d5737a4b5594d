use Rattle.std.proofs.Common.{arith, rules, ap, ◌∙◌, flat_map, ◌+◌, ◌≤◌}
use Rattle.std.proofs.lemmas.List.{take_all}
use Rattle.picture_out.specs.Pcl as pcl
use Rattle.picture_out.specs.declared.pcl.TheConstants.{LONGEST_COMMAND}
use Rattle.stroke_raster.specs.Rows.{split_rows}
use Rattle.stroke_raster.proofs.Rows.{length-split_rows}
use Rattle.rows.proofs.PclRows.{row_more}
use Rattle.rows.proofs.pcl_bands.append_rows.Goals as goal

pub loop-i-preserved : goal.loop-i-preserved
loop-i-preserved c =
    let inv = c.loop-i.invariant in
    let s = c.args.stride in
    let short : c.append_row-used.result ≤ c.loop-i.used + LONGEST_COMMAND + s = search (rules) in
    record {
      so_far = row_more s _ c.args.rows c.loop-i.i c.args.bytes.now _ _ c.loop-i-test.true (omega arith) inv.so_far c.append_row-used.ensures.text;
      most = omega (arith, inv.most, short);
      size = c.append_row-used.ensures.size ∙ inv.size;
    }

pub returns-clause-text : goal.returns-clause-text
returns-clause-text c =
    let rows = split_rows c.args.stride c.args.rows c.args.bytes.now in
    c.loop-i.invariant.so_far ∙ ap (flat_map pcl.row) (take_all c.loop-i.i rows (omega (arith, c.loop-i-test.false, length-split_rows c.args.stride c.args.rows c.args.bytes.now)))
