use Rattle.conversion.proofs.Printed.{marks_printed}
use Rattle.conversion.proofs.laws.marks_are_printed.Goals as goal

pub returns : goal.returns
returns c = λ row inks cells. marks_printed row 0 inks cells
