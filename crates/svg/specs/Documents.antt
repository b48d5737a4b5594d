-- A whole SVG document.
use Rattle.std.specs.Prelude.{ℕ, ◌+◌, ◌*◌, List, [], ◌∷◌, ◌++◌, codes, decimal}
use Rattle.areas.specs.declared.area.Area.{Area}
use Rattle.labels.specs.Labels.{LabelShape}
use Rattle.plot_page.specs.Segments.{Segment}
use Rattle.plot_page.specs.declared.page.Page.{Page}
use Rattle.plot_page.specs.declared.pens.PenSet.{PenSet}
use Rattle.svg.specs.Clips.{clips_of, clips_text}
use Rattle.svg.specs.Numbers.{millimetres}
use Rattle.svg.specs.Parts.{parts_text}
use Rattle.svg.specs.Sheets.{Sheet, labelled_sheets}

-- the page in millimetres, and in grains
abbrev pub page_text : Page → List ℕ
page_text page =
    codes " width=\"" ++ millimetres page.width ++ codes "mm\" height=\"" ++ millimetres page.height
    ++ codes "mm\" viewBox=\"0 0 " ++ decimal (16 * page.width) ++ codes " " ++ decimal (16 * page.height) ++ codes "\">\n"

-- what comes before the clip paths
abbrev pub head_text : Page → List ℕ
head_text page =
    codes "<?xml version=\"1.0\" encoding=\"UTF-8\"?>\n<svg xmlns=\"http://www.w3.org/2000/svg\"" ++ page_text page
    ++ codes "<g fill=\"none\" stroke-linecap=\"round\" stroke-linejoin=\"round\">\n"

-- what comes after the paths
abbrev pub foot_text : List ℕ
foot_text = codes "</g></svg>\n"

-- the head, and the clip paths of these strokes
abbrev pub start_text : Page → PenSet → List Segment → List ℕ
start_text page pens strokes = head_text page ++ clips_text (clips_of page pens strokes)

-- the document of strokes on a page, of the areas whose edges they are, and of their labels
abbrev pub svg_bytes : Page → PenSet → List Segment → List Area → List LabelShape → List ℕ
svg_bytes page pens strokes areas labels =
    start_text page pens strokes ++ parts_text page pens strokes areas labels ++ foot_text

-- the start of the group of a sheet
abbrev pub open_text : ℕ → List ℕ
open_text number = codes "<g id=\"sheet-" ++ decimal number ++ codes "\">\n"

-- a sheet of this number as a group
abbrev pub sheet_text : Page → PenSet → ℕ → Sheet → List ℕ
sheet_text page pens number sheet =
    open_text number ++ parts_text page pens sheet.strokes sheet.areas sheet.labels ++ codes "</g>\n"

-- the sheets after so many others
abbrev pub sheets_text : Page → PenSet → ℕ → List Sheet → List ℕ
sheets_text page pens before [] = []
sheets_text page pens before (sheet ∷ sheets) =
    sheet_text page pens (before + 1) sheet ++ sheets_text page pens (before + 1) sheets

-- the document of all sheets on a page, one above another, by how many strokes there were when each one ended, and of the
-- areas and the labels of these strokes
abbrev pub sheets_bytes : Page → PenSet → List Segment → List Area → List ℕ → List LabelShape → List ℕ
sheets_bytes page pens strokes areas ends labels =
    start_text page pens strokes ++ sheets_text page pens 0 (labelled_sheets strokes areas ends labels) ++ foot_text
