use Rattle.pieces.proofs.Texts.{◌then◌}
use Rattle.dxf.proofs.head.put_head.Goals as goal

pub returns : goal.returns
returns g c = record {
  puts = c.put_header.ensures.puts
      then c.put_section.ensures.puts
      then c.put_line_types.ensures.puts
      then c.put_table.ensures.puts
      then c.put_layer_zero.ensures.puts;
}
