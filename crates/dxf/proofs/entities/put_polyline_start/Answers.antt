use Rattle.std.proofs.Common.{ℕ, ap}
use Rattle.pieces.proofs.Texts.{◌then◌, puts_as}
use Rattle.dxf.specs.Groups.{count_group, size_group}
use Rattle.dxf.proofs.entities.put_polyline_start.Goals as goal

pub returns : goal.returns
returns g c =
    let flags = puts_as c.put_count-5.ensures.puts (ap (λ (n : ℕ). count_group 70 n) c.flags.ensures) in
    let from = puts_as c.put_size.ensures.puts (ap (λ (n : ℕ). size_group 40 n) c.width_of.ensures) in
    let to = puts_as c.put_size-2.ensures.puts (ap (λ (n : ℕ). size_group 41 n) c.width_of-2.ensures) in
    record {
      puts = c.put_start.ensures.puts
          then c.put_count.ensures.puts
          then c.put_count-2.ensures.puts
          then c.put_count-3.ensures.puts
          then c.put_count-4.ensures.puts
          then flags
          then from
          then to;
    }
