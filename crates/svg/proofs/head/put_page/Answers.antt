use Rattle.pieces.proofs.Texts.{◌then◌}
use Rattle.svg.proofs.head.put_page.Goals as goal

pub returns : goal.returns
returns g c = record {
  puts = c.put.ensures.puts
      then c.put_millimetres.ensures.puts
      then c.put-2.ensures.puts
      then c.put_millimetres-2.ensures.puts
      then c.put-3.ensures.puts
      then c.put_number.ensures.puts
      then c.put-4.ensures.puts
      then c.put_number-2.ensures.puts
      then c.put-5.ensures.puts;
}
