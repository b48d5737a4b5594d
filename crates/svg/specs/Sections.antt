-- Sections: strokes with their areas and their labels, cut where images are drawn.
use Rattle.std.specs.Prelude.{ℕ, ◌+◌, max, min, nat_eq, Bool, ◌&&◌, List, [], ◌∷◌, ◌++◌, length, drop, if◌then◌else◌, codes}
use Rattle.std.specs.List.{slice_index_or}
use Rattle.areas.specs.declared.area.Area.{Area}
use Rattle.labels.specs.Labels.{LabelShape}
use Rattle.labels.specs.Sheets.{count_to}
use Rattle.page_images.specs.PageImages.{ImageShape, images_between}
use Rattle.plot_page.specs.Segments.{Segment}
use Rattle.plot_page.specs.declared.page.Page.{Page}
use Rattle.plot_page.specs.declared.pens.PenSet.{PenSet}
use Rattle.stroke_runs.specs.Sheets.{between}
use Rattle.svg.specs.Documents.{foot_text, open_text, sheets_text, start_text}
use Rattle.svg.specs.Images.{image_text}
use Rattle.svg.specs.Parts.{parts_text}
use Rattle.svg.specs.Sheets.{Sheet, labelled_sheets, sheet_between}

-- what a document shows: strokes, the areas whose edges they are, their labels, and the images among them
pub record Contents : Type 0 where
  pub strokes : List Segment
  pub areas : List Area
  pub labels : List LabelShape
  pub images : List ImageShape

abbrev pub without_images : List Segment → List Area → List LabelShape → Contents
without_images strokes areas labels = record { strokes = strokes; areas = areas; labels = labels; images = [] }

-- a section: strokes between two images
abbrev pub section_text : Page → PenSet → Sheet → List ℕ
section_text page pens s = parts_text page pens s.strokes s.areas s.labels

abbrev pub section_between : Contents → ℕ → ℕ → List LabelShape → Sheet
section_between c at end labels = sheet_between c.strokes c.areas at end labels

-- the strokes after the first `at`, up to and including number `end`, with these images among them, and these labels left
abbrev pub sections_text : Page → PenSet → Contents → ℕ → ℕ → List LabelShape → List ImageShape → List ℕ
sections_text page pens c at end labels [] = section_text page pens (section_between c at end labels)
sections_text page pens c at end labels (i ∷ images) =
    section_text page pens (section_between c at (min i.before end) labels) ++ image_text page i
    ++ sections_text page pens c (max at (min i.before end)) end (drop (count_to (min i.before end) labels) labels) images

-- a sheet as a group: it ends after so many strokes
abbrev pub pictured_sheet : Page → PenSet → Contents → ℕ → ℕ → ℕ → List LabelShape → List ImageShape → List ℕ
pictured_sheet page pens c number at end labels images =
    open_text number ++ sections_text page pens c at end labels images ++ codes "</g>\n"

-- the end of a sheet: the end of the plot ends one, too
abbrev pub end_among : Contents → ℕ → ℕ
end_among c end = min end (length c.strokes)

abbrev pub images_until : Contents → List ℕ → ℕ → ℕ
images_until c image_ends k = slice_index_or image_ends k (length c.images)

-- neither strokes nor images
abbrev pub is_bare : List Segment → List ImageShape → Bool
is_bare strokes images = nat_eq (length strokes) 0 && nat_eq (length images) 0

-- the sheets after the first `at` strokes and the first `from` images, by how many of them there were when each one ended
abbrev pub pictured_after : Page → PenSet → Contents → List ℕ → ℕ → ℕ → ℕ → ℕ → List ℕ → List LabelShape → List ℕ
pictured_after page pens c image_ends k number at from [] labels = []
pictured_after page pens c image_ends k number at from (end ∷ ends) labels =
    let images = images_between from (images_until c image_ends k) c.images in
    let stop = end_among c end in
    if is_bare (between c.strokes at stop) images
    then pictured_after page pens c image_ends (k + 1) number at from ends labels else
    pictured_sheet page pens c (number + 1) at stop labels images
    ++ pictured_after page pens c image_ends (k + 1) (number + 1) stop (images_until c image_ends k) ends (drop (count_to stop labels) labels)

-- what is shown with these images: without images as parts
abbrev pub shown_with : Page → PenSet → Contents → List ImageShape → List ℕ
shown_with page pens c [] = parts_text page pens c.strokes c.areas c.labels
shown_with page pens c (i ∷ images) = sections_text page pens c 0 (length c.strokes) c.labels (i ∷ images)

abbrev pub shown_text : Page → PenSet → Contents → List ℕ
shown_text page pens c = shown_with page pens c c.images

-- all sheets, by how many strokes and how many images there were when each one ended
abbrev pub sheets_with : Page → PenSet → Contents → List ℕ → List ℕ → List ImageShape → List ℕ
sheets_with page pens c ends image_ends [] = sheets_text page pens 0 (labelled_sheets c.strokes c.areas ends c.labels)
sheets_with page pens c ends image_ends (i ∷ images) =
    pictured_after page pens c image_ends 0 0 0 0 (ends ++ length c.strokes ∷ []) c.labels

abbrev pub shown_sheets : Page → PenSet → Contents → List ℕ → List ℕ → List ℕ
shown_sheets page pens c ends image_ends = sheets_with page pens c ends image_ends c.images

-- the document of strokes on a page, and of the images among them; without images it is `svg_bytes`
abbrev pub svg_document : Page → PenSet → Contents → List ℕ
svg_document page pens c = start_text page pens c.strokes ++ shown_text page pens c ++ foot_text

-- the document of all sheets; without images it is `sheets_bytes`
abbrev pub sheets_document : Page → PenSet → Contents → List ℕ → List ℕ → List ℕ
sheets_document page pens c ends image_ends =
    start_text page pens c.strokes ++ shown_sheets page pens c ends image_ends ++ foot_text
