use Rattle.command_line.proofs.ParseLaw.{parse_good}
use Rattle.command_line.proofs.parses.faultless_parses_pass.Goals as goal

pub returns : goal.returns
returns c = parse_good
