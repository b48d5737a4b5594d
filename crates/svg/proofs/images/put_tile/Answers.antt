use Rattle.pieces.proofs.Texts.{◌then◌}
use Rattle.svg.proofs.images.put_tile.Goals as goal

pub returns : goal.returns
returns g c = record { puts = c.put_tile_start.ensures.puts then c.put_png.ensures.puts then c.put.ensures.puts }
