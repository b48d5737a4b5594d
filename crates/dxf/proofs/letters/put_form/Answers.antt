use Rattle.std.proofs.Common.{ℕ, ◌*◌, ap}
use Rattle.pieces.proofs.Texts.{◌then◌, puts_as}
use Rattle.dxf.specs.Groups.{size_group}
use Rattle.dxf.proofs.letters.put_form.Goals as goal

pub returns : goal.returns
returns g c =
    let rotation = puts_as c.put_size.ensures.puts (ap (λ (n : ℕ). size_group 50 (1000 * n)) c.from.ensures) in
    record {
      puts = rotation
          then c.put_size-2.ensures.puts
          then c.put_leaning.ensures.puts
          then c.put_group.ensures.puts
          then c.put_mirrored.ensures.puts
          then c.put_fit.ensures.puts;
    }
