use Rattle.std.proofs.Common.{◌≡◌, ◌<◌, ◌≤◌, ◌^◌, List, ℕ, length, drop}
use Rattle.labels.specs.Sheets.{all_counted}
use Rattle.areas.specs.Views.{areas_in}
use Rattle.pdf.specs.Documents.{page_areas, pages_objects, sheet_labels, sheets}
use Rattle.pdf.specs.Texts.{letter_count}
use Rattle.pdf.specs.Units.{unit_of}
use Rattle.pdf.specs.Writings.{Adds}
use Rattle.pdf.proofs.AddedPages.{Follows}
use Rattle.pdf.proofs.pages.put_pages.Given as goal

-- the pages so far, and those of the sheets that are left follow
abbrev pub invariant-loop-index : goal.invariant-loop-index
invariant-loop-index g l =
    let view = l.fn.view in
    record {
      streams : List (List ℕ);
      follows : Follows view.page.now view.pens.now (sheets view.strokes.now 0 l.ends) (page_areas (areas_in view.areas) 0 l.ends) (sheet_labels (all_counted view.before view.labels.now) 0 l.ends)
          (sheets view.strokes.now l.from (drop l.index l.ends)) (page_areas (areas_in view.areas) l.from (drop l.index l.ends)) (sheet_labels (all_counted view.before l.rest) l.from (drop l.index l.ends)) streams;
      added : Adds g.K.Sink.state l.fn.text l.text l.fn.offsets l.offsets l.before (pages_objects (unit_of view.page.now) l.before streams);
      count : length streams ≡ l.index;
      letters : letter_count l.rest ≤ letter_count view.labels.now;
      from : l.from < 2 ^ 64;
    }
