use Rattle.std.proofs.Common.{◌∙◌}
use Rattle.full_notes.proofs.ReadNumbers.{arc_numbers}
use Rattle.full_notes.proofs.reading.arc_read.Goals as goal

pub returns-clause-value : goal.returns-clause-value
returns-clause-value c =
    c.arc_from.ensures.value
    ∙ rw c.read_count.ensures (arc_numbers c.args.usual_chords c.leading-list.result.1 c.leading-list.result.0 c.args.numbers.now c.leading-list.ensures.values)
