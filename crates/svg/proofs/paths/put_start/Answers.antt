use Rattle.std.proofs.Common.{ap}
use Rattle.pieces.proofs.Texts.{◌then◌, puts_as}
use Rattle.plot_page.specs.Segments.{Segment}
use Rattle.svg.specs.Numbers.{colour_digits}
use Rattle.svg.specs.Paths.{fill_text}
use Rattle.svg.proofs.paths.put_start.Goals as goal

pub returns : goal.returns
returns g c =
    let filled = puts_as c.put_fill.ensures.puts (ap (λ (s : Segment). fill_text c.args.rule (colour_digits s.colour)) c.stroke.view_is) in
    record { puts = c.put_pen_of.ensures.puts then filled then c.put_clipped.ensures.puts then c.put.ensures.puts }
