use Rattle.std.proofs.Common.{ap}
use Rattle.labels.specs.Moves.{moved_line}
use Rattle.labels.proofs.moves.move_line.Goals as goal

-- the three corners are moved, and the text stays
pub returns : goal.returns
returns c =
    rw (
      c.moved_place-line-inside.ensures.value,
      c.moved_place-line-inside-2.ensures.value,
      c.moved_place-line-inside-3.ensures.value,
    ) (ap (moved_line c.args.corner) c.line.view_is)
