use Rattle.pieces.proofs.Texts.{◌then◌, puts_as}
use Rattle.svg.proofs.paths.put_pen.Goals as goal

pub returns : goal.returns
returns g c =
    let colour = puts_as c.put-3.ensures.puts c.colour_digits.ensures in
    let pen = c.put.ensures.puts then c.put_number.ensures.puts then c.put-2.ensures.puts in
    record { puts = pen then colour then c.put-4.ensures.puts then c.put_number-2.ensures.puts then c.put-5.ensures.puts }
