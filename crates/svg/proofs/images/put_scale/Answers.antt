use Rattle.std.proofs.Common.{◌++◌, ℕ, ap, codes, decimal}
use Rattle.pieces.proofs.Texts.{◌then◌, puts_as}
use Rattle.svg.proofs.images.put_scale.Goals as goal

pub returns : goal.returns
returns g c = record { puts = puts_as (c.put_number.ensures.puts then c.put.ensures.puts) (ap (λ (n : ℕ). decimal n ++ codes "e-9") c.dot_size.ensures) }
