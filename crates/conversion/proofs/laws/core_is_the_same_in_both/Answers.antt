use Rattle.std.proofs.Common.{◌≡◌, ℕ, List, [], ◌∷◌, length, ap, ◌∙◌, drop, slice_index_or, subst, take, All}
use Rattle.std.proofs.Math.Seq.{drop-nil, take-length, take-nil}
use Rattle.hpgl_text.specs.Cut.{cut}
use Rattle.hpgl_text.specs.Laws.{IsReadAlike}
use Rattle.full_text.specs.Cut.{full_cut}
use Rattle.hpgl_text.specs.Shapes.{ItemShape}
use Rattle.areas.specs.declared.area.Area.{Area}
use Rattle.full_notes.specs.Notes.{notes_told}
use Rattle.full_plot.specs.Drawings.{areas_of, areas_of_sheet, ends_in, finished, full_at_start, full_runs, image_ends_in, images_in, refusal_in, sheet_start, sheet_strokes, strokes_in}
use Rattle.full_plot.specs.Noted.{told_from}
use Rattle.full_plot.proofs.CorePlots.{draws_as_in_core}
use Rattle.full_plot.proofs.CoreNotes.{noted_as_in_core}
use Rattle.full_plot.proofs.Wider.{accepts_no_more}
use Rattle.page_images.specs.PageImages.{ImageShape}
use Rattle.page_images.specs.PageImages.{all_counted}
use Rattle.conversion.specs.Images.{images_of_sheet}
use Rattle.conversion.proofs.CoreTold.{told_alike}
use Rattle.conversion.proofs.laws.core_is_the_same_in_both.Goals as goal

-- no images are none of a sheet
none_of_sheet : (images : List ImageShape) (image_ends ends : List ℕ) (count : ℕ) → images ≡ [] → images_of_sheet images image_ends ends count 1 ≡ []
none_of_sheet images image_ends ends count none =
    let first = sheet_start ends count 1 in
    let from = slice_index_or (0 ∷ image_ends) 0 0 in
    let end = slice_index_or image_ends 0 0 in
    ap (λ (is : List ImageShape). images_of_sheet is image_ends ends count 1) none
    ∙ ap (λ (is : List ImageShape). all_counted first (drop from is)) (take-nil end)
    ∙ ap (all_counted first) (drop-nil from)

pub returns : goal.returns
returns c = λ page plot h.
    let plain = c.plots_without_escapes.ensures plot h.no_escape in
    let same : full_cut plot ≡ cut plot = plain ∙ c.core_is_in_full.ensures plot (subst (λ (items : List ItemShape). All IsReadAlike items) plain h.read_alike) in
    let end = length plot in
    let drawn = draws_as_in_core page (cut plot) end h.are_core in
    let all = finished end (full_runs (full_at_start page) (cut plot)) in
    record {
      accepted = λ accepted.
          ap (λ (items : List ItemShape). refusal_in (finished end (full_runs (full_at_start page) items))) same ∙ drawn.0
          ∙ accepts_no_more page [] (cut plot) accepted;
      strokes = λ accepted.
          ap (λ (items : List ItemShape). let o = finished end (full_runs (full_at_start page) items) in sheet_strokes (strokes_in o) (ends_in o) 1) same
          ∙ ap (λ (ends : List ℕ). sheet_strokes (strokes_in all) ends 1) drawn.2
          ∙ take-length (strokes_in all)
          ∙ drawn.1 (accepts_no_more page [] (cut plot) accepted);
      areas =
          ap (λ (items : List ItemShape). let o = finished end (full_runs (full_at_start page) items) in areas_of_sheet (areas_of o) (ends_in o) (length (strokes_in o)) 1) same
          ∙ ap (λ (areas : List Area). areas_of_sheet areas (ends_in all) (length (strokes_in all)) 1) drawn.3;
      images =
          ap (λ (items : List ItemShape). let o = finished end (full_runs (full_at_start page) items) in images_of_sheet (images_in o) (image_ends_in o) (ends_in o) (length (strokes_in o)) 1) same
          ∙ none_of_sheet (images_in all) (image_ends_in all) (ends_in all) (length (strokes_in all)) drawn.4;
      notes =
          ap (λ (items : List ItemShape). length (notes_told (told_from (full_at_start page) items) items)) same
          ∙ ap length (told_alike (told_from (full_at_start page) (cut plot)) (cut plot) h.are_core)
          ∙ ap length (noted_as_in_core (cut plot) h.are_core);
    }
