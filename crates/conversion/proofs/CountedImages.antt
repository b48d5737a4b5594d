-- Images are as many, and lie where they lie, however the strokes before them are counted.
use Rattle.std.proofs.Common.{◌≡◌, ◌++◌, ◌&&◌, ℕ, Bool, List, [], ◌∷◌, flat_map, refl, ap}
use Rattle.std.proofs.lemmas.List.{length-map}
use Rattle.areas.specs.Shapes.{ShapeList, shapes}
use Rattle.hpgl_plot.specs.declared.note.Note.{Note}
use Rattle.image_places.specs.Extents.{are_images_off_page}
use Rattle.page_fit.specs.Census.{is_beside}
use Rattle.page_fit.specs.Extents.{reach}
use Rattle.page_images.specs.PageImages.{ImageShape, all_counted, counted}
use Rattle.plot_page.specs.declared.page.Page.{Page}
use Rattle.plot_report.specs.Report.{full_report_of, image_line, note_line, page_line, shape_lines, sheets_line}
use Rattle.plot_report.specs.declared.report_page.ReportPage.{ReportPage}

pub off_counted : (page : Page) (first : ℕ) (images : List ImageShape)
    → are_images_off_page page (all_counted first images) ≡ are_images_off_page page images
off_counted page first [] = refl
off_counted page first (i ∷ images) = ap (λ (b : Bool). is_beside page (reach i.frame) && b) (off_counted page first images)

lines_counted : (first : ℕ) (images : List ImageShape) → flat_map image_line (all_counted first images) ≡ flat_map image_line images
lines_counted first [] = refl
lines_counted first (i ∷ images) = ap (λ (lines : List ℕ). image_line i ++ lines) (lines_counted first images)

-- so a report says the same of them
pub report_counted : (page : ReportPage) (sheets : ℕ) (list : ShapeList) (first : ℕ) (images : List ImageShape) (notes : List Note)
    → full_report_of page sheets list (all_counted first images) notes ≡ full_report_of page sheets list images notes
report_counted page sheets list first images notes =
    let count = length-map images (counted first) in
    let lines = lines_counted first images in
    λ k. page_line page ++ sheets_line sheets ++ shape_lines (count k) (shapes list.strokes list.areas) ++ lines k ++ flat_map note_line notes
