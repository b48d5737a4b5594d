use Rattle.pieces.proofs.Texts.{◌then◌}
use Rattle.dxf.proofs.head.put_styles.Goals as goal

pub returns : goal.returns
returns g c = record {
  puts = c.put_table.ensures.puts
      then c.put_group.ensures.puts
      then c.put_group-2.ensures.puts
      then c.put_count.ensures.puts
      then c.put_count-2.ensures.puts
      then c.put_count-3.ensures.puts
      then c.put_count-4.ensures.puts
      then c.put_count-5.ensures.puts
      then c.put_count-6.ensures.puts
      then c.put_group-3.ensures.puts
      then c.put_group-4.ensures.puts
      then c.put_group-5.ensures.puts;
}
