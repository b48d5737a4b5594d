use Rattle.rows.proofs.KnownNumbers.{number_is}
use Rattle.rows.proofs.sample_row.number_in.Goals as goal

pub returns-in-Some-clause-number : goal.returns-in-Some-clause-number
returns-in-Some-clause-number c = number_is c.args.palette.now c.args.colour c.in-Some.number (c.in-Some.ensures.number c.args.palette.now c.requires.known)
