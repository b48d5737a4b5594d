use Rattle.std.proofs.Common.{ap}
use Rattle.pieces.proofs.Texts.{◌then◌, puts_as}
use Rattle.pdf.specs.Numbers.{points}
use Rattle.pdf.specs.Units.{count_of}
use Rattle.pdf.specs.declared.units.PageUnit.{PageUnit}
use Rattle.pdf.proofs.front.put_shared.Goals as goal

pub returns : goal.returns
returns g c =
    let width = puts_as c.put_points.ensures.puts (ap (λ (u : PageUnit). points (count_of u) c.args.page.now.width) c.unit_of-unit.ensures) in
    let height = puts_as c.put_points-2.ensures.puts (ap (λ (u : PageUnit). points (count_of u) c.args.page.now.height) c.unit_of-unit.ensures) in
    record {
      puts = c.put.ensures.puts
          then width
          then c.put-2.ensures.puts
          then height
          then c.put-3.ensures.puts
          then c.put_properties.ensures.puts
          then c.put-4.ensures.puts
          then c.put_resources.ensures.puts
          then c.put-5.ensures.puts
          then c.put_number.ensures.puts
          then c.put-6.ensures.puts;
    }
