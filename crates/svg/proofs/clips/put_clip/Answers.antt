use Rattle.pieces.proofs.Texts.{◌then◌}
use Rattle.svg.proofs.clips.put_clip.Goals as goal

pub returns : goal.returns
returns g c = record {
  puts = c.put.ensures.puts
      then c.put_name.ensures.puts
      then c.put-2.ensures.puts
      then c.put_rectangle.ensures.puts
      then c.put-3.ensures.puts;
}
