use Rattle.std.proofs.Common.{◌≡◌, ◌++◌, length}
use Rattle.full_notes.specs.Notes.{notes_from}
use Rattle.full_notes.proofs.notes.FullNotesIterator.next.Given as goal

-- what is left on the item at hand, and on the items after it, is all
abbrev pub invariant-items : goal.invariant-items
invariant-items l = l.self-inside.item ++ notes_from l.self-inside.context l.self-inside.told.now l.self-inside.items ≡ l.fn.self

abbrev pub decreases-items : goal.decreases-items
decreases-items l = length l.self-inside.items
