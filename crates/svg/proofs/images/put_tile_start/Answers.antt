use Rattle.std.proofs.Common.{ℕ, ap, decimal}
use Rattle.pieces.proofs.Texts.{◌then◌, puts_as}
use Rattle.svg.proofs.images.put_tile_start.Goals as goal

pub returns : goal.returns
returns g c =
    let row = puts_as c.put_number-2.ensures.puts (ap (λ (n : ℕ). decimal n) c.first_row.ensures) in
    record {
      puts = c.put.ensures.puts then c.put_number.ensures.puts then c.put-2.ensures.puts then row then c.put-3.ensures.puts then c.put_number-3.ensures.puts
          then c.put-4.ensures.puts then c.put_number-4.ensures.puts then c.put-5.ensures.puts;
    }
