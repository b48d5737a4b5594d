use Rattle.std.proofs.Common.{Bool, ap, sym}
use Rattle.pieces.proofs.Texts.{◌then◌, puts_as}
use Rattle.dxf.specs.Entities.{point_text}
use Rattle.dxf.specs.Letters.{fit_groups}
use Rattle.dxf.specs.declared.cuts.Point.{Point}
use Rattle.dxf.proofs.letters.put_fit.Goals as goal

pub returns-then-fit : goal.returns-then-fit
returns-then-fit g c =
    let point = puts_as c.put_point.ensures.puts (ap (λ (p : Point). point_text 11 21 p) c.point_at.ensures) in
    record { puts = puts_as (c.put_count.ensures.puts then point) (ap (λ (b : Bool). fit_groups b c.args.end) (sym c.if-fit.true)) }
