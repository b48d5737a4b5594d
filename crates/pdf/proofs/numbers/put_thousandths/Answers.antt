use Rattle.std.proofs.Common.{◌∙◌}
use Rattle.pdf.proofs.Contained.{fills_as, ◌next◌}
use Rattle.pdf.proofs.numbers.put_thousandths.Goals as goal

pub returns : goal.returns
returns g c =
    let fraction = fills_as c.put.ensures.fills (c.as_bytes.ensures ∙ c.new.ensures) in
    record { fills = c.put_number.ensures.fills next fraction }
