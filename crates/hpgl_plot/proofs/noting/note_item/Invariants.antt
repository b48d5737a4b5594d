use Rattle.std.proofs.Common.{◌≡◌, ◌++◌, length}
use Rattle.hpgl_plot.specs.Notes.{notes_with}
use Rattle.hpgl_plot.proofs.noting.note_item.Given as goal

-- the notes so far, and those that are left on the item, are all
abbrev pub invariant-notes : goal.invariant-notes
invariant-notes l = l.notes.items ++ l.rest ≡ l.fn.notes.items ++ notes_with l.fn.own l.item

abbrev pub decreases-notes : goal.decreases-notes
decreases-notes l = length l.rest
