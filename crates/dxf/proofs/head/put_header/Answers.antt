use Rattle.std.proofs.Common.{ℕ, ap}
use Rattle.pieces.proofs.Texts.{◌then◌, puts_as}
use Rattle.dxf.specs.Groups.{size_group}
use Rattle.dxf.proofs.head.put_header.Goals as goal

pub returns : goal.returns
returns g c =
    let width = puts_as c.put_size.ensures.puts (ap (λ (n : ℕ). size_group 10 n) c.side.ensures) in
    let height = puts_as c.put_size-2.ensures.puts (ap (λ (n : ℕ). size_group 20 n) c.side-2.ensures) in
    record {
      puts = c.put_section.ensures.puts
          then c.put_group.ensures.puts
          then c.put_group-2.ensures.puts
          then c.put_group-3.ensures.puts
          then c.put_count.ensures.puts
          then c.put_count-2.ensures.puts
          then c.put_count-3.ensures.puts
          then c.put_group-4.ensures.puts
          then width
          then height
          then c.put_count-4.ensures.puts
          then c.put_group-5.ensures.puts
          then c.put_count-5.ensures.puts
          then c.put_group-6.ensures.puts;
    }
