use Rattle.std.proofs.Common.{ap}
use Rattle.pieces.proofs.Texts.{◌then◌, puts_as}
use Rattle.svg.specs.Commands.{command_text, move}
use Rattle.svg.specs.declared.places.Place.{Place}
use Rattle.svg.proofs.steps.put_apart.Goals as goal

pub returns : goal.returns
returns g c =
    let moved = puts_as c.put_move.ensures.puts (ap (λ (p : Place). command_text (move c.args.from p)) c.start_of.ensures.value) in
    record { puts = moved then c.put_line_of.ensures.puts }
