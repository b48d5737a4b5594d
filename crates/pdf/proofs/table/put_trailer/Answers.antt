use Rattle.std.proofs.Common.{◌≡◌, ◌^◌, ◌-◌, ◌<◌, ap, arith, min, decimal, rules}
use Rattle.pieces.proofs.Texts.{◌then◌, puts_as}
use Rattle.pdf.proofs.table.put_trailer.Goals as goal

pub returns : goal.returns
returns g c =
    let small : c.args.at < 2 ^ 64 = search rules in
    let same : c.args.at ≡ min c.args.at (2 ^ 64 - 1) = omega (arith, small) in
    let at = puts_as c.put_number-2.ensures.puts (ap decimal same) in
    record { puts = c.put.ensures.puts then c.put_number.ensures.puts then c.put-2.ensures.puts then at then c.put-3.ensures.puts }
