use Rattle.std.proofs.Common.{◌∙◌}
use Rattle.pieces.proofs.Texts.{◌then◌, puts_as}
use Rattle.pdf.specs.Numbers.{points}
use Rattle.pdf.proofs.front.put_points.Goals as goal

pub returns : goal.returns
returns g c =
    let fraction = puts_as c.put.ensures.puts (c.as_bytes.ensures ∙ c.new.ensures) in
    record { puts = puts_as (c.put_number.ensures.puts then fraction) (λ i. points (c.count_of-count.ensures.value i) (c.from.ensures i)) }
