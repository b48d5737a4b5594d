use Rattle.hpgl_plot.proofs.NoteCounts.{notes_few}
use Rattle.hpgl_plot.proofs.notes.Notes.new.Goals as goal

pub returns-clause-few : goal.returns-clause-few
returns-clause-few c = rw (c.none.ensures, c.new.ensures) (notes_few c.args.plot.now)
