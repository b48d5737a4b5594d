use Rattle.std.proofs.Common.{ap}
use Rattle.pieces.proofs.Texts.{◌then◌, puts_as}
use Rattle.svg.specs.Commands.{MoveTo, command_text}
use Rattle.svg.specs.declared.places.Place.{Place}
use Rattle.svg.proofs.steps.put_begun.Goals as goal

pub returns : goal.returns
returns g c =
    let first = puts_as c.put_first.ensures.puts (ap (λ (p : Place). command_text (MoveTo p)) c.start_of.ensures.value) in
    record { puts = c.put_start.ensures.puts then first then c.put_line_of.ensures.puts }
