use Rattle.std.proofs.Common.{ℕ, ap}
use Rattle.std.specs.Prelude.{decimal}
use Rattle.pieces.proofs.Texts.{◌then◌, puts_as}
use Rattle.dxf.proofs.layers.put_name.Goals as goal

pub returns : goal.returns
returns g c =
    let pen = puts_as c.put_number.ensures.puts (ap (λ (n : ℕ). decimal n) c.from.ensures) in
    record { puts = c.put_sheet.ensures.puts then c.put.ensures.puts then pen }
