use Rattle.std.proofs.Common.{ℕ, Option, ap, sym}
use Rattle.pieces.proofs.Texts.{◌then◌, puts_as}
use Rattle.dxf.specs.Layers.{sheet_name}
use Rattle.dxf.proofs.layers.put_sheet.Goals as goal

pub returns : goal.returns
returns g c =
    record {
      puts = puts_as (c.put.ensures.puts then c.put_number.ensures.puts then c.put-2.ensures.puts)
          (ap (λ (o : Option ℕ). sheet_name o) (sym c.in-Some.is));
    }
