use Rattle.std.proofs.Common.{◌≡◌, length}
use Rattle.std.specs.List.{flat_map}
use Rattle.hpgl_plot.specs.Notes.{entry_note}
use Rattle.hpgl_plot.proofs.item_notes.next_noted.Given as goal

-- the entries that are left have all the notes that are to come
abbrev pub invariant-entries : goal.invariant-entries
invariant-entries l = flat_map (entry_note l.code) l.entries ≡ flat_map (entry_note l.fn.code) l.fn.entries

abbrev pub decreases-entries : goal.decreases-entries
decreases-entries l = length l.entries
