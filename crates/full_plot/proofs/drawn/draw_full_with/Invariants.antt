use Rattle.std.proofs.Common.{◌≡◌, ◌+◌, ◌++◌, length}
use Rattle.full_text.specs.Cut.{full_cut}
use Rattle.full_plot.specs.Drawings.{full_at_start_with, full_runs}
use Rattle.full_plot.specs.Labels.{labels_from, labels_kept, labels_of}
use Rattle.full_plot.specs.Machine.{seen}
use Rattle.full_plot.specs.Noted.{told_from, told_of}
use Rattle.full_notes.specs.Notes.{notes_from, notes_told}
use Rattle.full_plot.proofs.drawn.draw_full_with.Given as goal

-- the items that are left come to the outcome of the plot, and have the notes that are not counted yet, what is not told yet and
-- the labels that are not there yet
abbrev pub invariant-items : goal.invariant-items
invariant-items l = record {
  same : full_runs (seen l.plotter) l.items ≡ full_runs (full_at_start_with l.fn.encoding l.carousel l.page) (full_cut l.fn.text);
  noted : l.noted + length (notes_from (seen l.plotter).context (told_from (seen l.plotter) l.items) l.items)
      ≡ length (notes_told (told_of l.fn.encoding l.carousel l.page l.fn.text) (full_cut l.fn.text));
  told : l.told.items ++ told_from (seen l.plotter) l.items ≡ told_of l.fn.encoding l.carousel l.page l.fn.text;
  labelled : l.labels.items ++ labels_kept l.keeps_labels (labels_from (seen l.plotter) l.items)
      ≡ labels_kept l.keeps_labels (labels_of l.fn.encoding l.carousel l.page l.fn.text);
}

abbrev pub decreases-items : goal.decreases-items
decreases-items l = length l.items
