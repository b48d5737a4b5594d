use Rattle.full_notes.proofs.FewNotes.{few_notes}
use Rattle.full_notes.proofs.notes.FullNotes.new.Goals as goal

pub returns-clause-few : goal.returns-clause-few
returns-clause-few c = rw (c.none.ensures, c.new.ensures, c.first.ensures) (few_notes c.args.told.now c.args.plot.now)
