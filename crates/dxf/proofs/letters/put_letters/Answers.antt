use Rattle.pieces.proofs.Texts.{◌then◌}
use Rattle.dxf.proofs.letters.put_letters.Goals as goal

pub returns : goal.returns
returns g c = record {
  puts = c.put_number.ensures.puts
      then c.put.ensures.puts
      then c.put_code_points.ensures.puts
      then c.put-2.ensures.puts;
}
