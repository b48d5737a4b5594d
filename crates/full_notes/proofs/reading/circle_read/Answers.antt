use Rattle.std.proofs.Common.{◌∙◌}
use Rattle.full_notes.proofs.ReadNumbers.{circle_numbers}
use Rattle.full_notes.proofs.reading.circle_read.Goals as goal

pub returns-clause-value : goal.returns-clause-value
returns-clause-value c =
    c.circle_from.ensures.value
    ∙ rw c.read_count.ensures (circle_numbers c.args.usual_chords c.leading-list.result.1 c.leading-list.result.0 c.args.numbers.now c.leading-list.ensures.values)
