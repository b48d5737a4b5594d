use Rattle.std.proofs.Common.{arith, codes}
use Rattle.command_line.proofs.line.picture_of.Goals as goal

pub returns-in_err-band-clause-refused : goal.returns-in_err-band-clause-refused
returns-in_err-band-clause-refused c = λ has. absurd (c.in_err-band.ensures.understood 1 4096 (omega arith) (has.within (codes "band")))

pub returns-in_err-first_row-clause-refused : goal.returns-in_err-first_row-clause-refused
returns-in_err-first_row-clause-refused c = λ has. absurd (c.in_err-first_row.ensures.understood 0 399999 (omega arith) (has.within (codes "from")))

pub returns-in_err-most_rows-clause-refused : goal.returns-in_err-most_rows-clause-refused
returns-in_err-most_rows-clause-refused c = λ has. absurd (c.in_err-most_rows.ensures.understood 1 400000 (omega arith) (has.within (codes "rows")))
