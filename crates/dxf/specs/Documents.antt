-- A whole DXF document. DXF R12 (AC1009) in ASCII.
use Rattle.std.specs.Prelude.{ℕ, ◌+◌, ◌*◌, List, [], ◌∷◌, ◌++◌, Some, None, codes}
use Rattle.areas.specs.declared.area.Area.{Area}
use Rattle.labels.specs.Labels.{LabelShape}
use Rattle.plot_page.specs.Segments.{Segment}
use Rattle.plot_page.specs.declared.page.Page.{Page}
use Rattle.plot_page.specs.declared.pens.PenSet.{PenSet}
use Rattle.svg.specs.Sheets.{Sheet, labelled_sheets}
use Rattle.dxf.specs.Groups.{count_group, group, size_group}
use Rattle.dxf.specs.Layers.{layer_entry, layers_of, layers_text}
use Rattle.dxf.specs.Parts.{parts_text}
use Rattle.dxf.specs.declared.groups.TheConstants.{GRAIN}
use Rattle.dxf.specs.declared.sheets.Section.{Section}
use Rattle.dxf.specs.declared.sheets.Section.TheVariants.{Layers, Entities}

-- a section, a table, and their ends
abbrev pub section_start : List ℕ → List ℕ
section_start name = group 0 (codes "SECTION") ++ group 2 name

abbrev pub section_end : List ℕ
section_end = group 0 (codes "ENDSEC")

abbrev pub table_start : List ℕ → ℕ → List ℕ
table_start name most = group 0 (codes "TABLE") ++ group 2 name ++ count_group 70 most

abbrev pub table_end : List ℕ
table_end = group 0 (codes "ENDTAB")

-- a side of the page in parts: a plotter unit is 16 grains
abbrev pub side : ℕ → ℕ
side units = 16 * GRAIN * units

-- the version, the corners of the page, and the unit, which is the millimetre
abbrev pub header_text : Page → List ℕ
header_text page =
    section_start (codes "HEADER") ++ group 9 (codes "$ACADVER") ++ group 1 (codes "AC1009")
    ++ group 9 (codes "$EXTMIN") ++ count_group 10 0 ++ count_group 20 0 ++ count_group 30 0
    ++ group 9 (codes "$EXTMAX") ++ size_group 10 (side page.width) ++ size_group 20 (side page.height) ++ count_group 30 0
    ++ group 9 (codes "$INSUNITS") ++ count_group 70 4 ++ section_end

-- the one line type
abbrev pub line_types_text : List ℕ
line_types_text =
    table_start (codes "LTYPE") 1 ++ group 0 (codes "LTYPE") ++ group 2 (codes "CONTINUOUS") ++ count_group 70 0
    ++ group 3 (codes "Solid line") ++ count_group 72 65 ++ count_group 73 0 ++ count_group 40 0 ++ table_end

-- the one style of letters
abbrev pub styles_text : List ℕ
styles_text =
    table_start (codes "STYLE") 1 ++ group 0 (codes "STYLE") ++ group 2 (codes "STANDARD") ++ count_group 70 0
    ++ count_group 40 0 ++ count_group 41 1 ++ count_group 50 0 ++ count_group 71 0 ++ count_group 42 1
    ++ group 3 (codes "txt") ++ group 4 [] ++ table_end

-- what comes before the layers of pens: there are at most 32,767 layers, the greatest count; layer 0 is always there
abbrev pub start_text : Page → List ℕ
start_text page =
    header_text page ++ section_start (codes "TABLES") ++ line_types_text ++ table_start (codes "LAYER") 32767
    ++ layer_entry (codes "0") 7

-- what comes between the layers and the entities
abbrev pub middle_text : List ℕ
middle_text = table_end ++ styles_text ++ section_end ++ section_start (codes "ENTITIES")

-- what comes after the entities
abbrev pub foot_text : List ℕ
foot_text = section_end ++ group 0 (codes "EOF")

-- the document of strokes on a page, of the areas whose edges they are, and of their labels
abbrev pub dxf_bytes : Page → PenSet → List Segment → List Area → List LabelShape → List ℕ
dxf_bytes page pens strokes areas labels =
    start_text page ++ layers_text (layers_of None pens strokes) ++ middle_text
    ++ parts_text (layers_of None pens strokes) pens strokes areas labels ++ foot_text

-- the layers of a sheet of this number, or its entities
abbrev pub sheet_text : Section → PenSet → ℕ → Sheet → List ℕ
sheet_text Layers pens number sheet = layers_text (layers_of (Some number) pens sheet.strokes)
sheet_text Entities pens number sheet =
    parts_text (layers_of (Some number) pens sheet.strokes) pens sheet.strokes sheet.areas sheet.labels

-- the sheets after so many others
abbrev pub sheets_text : Section → PenSet → ℕ → List Sheet → List ℕ
sheets_text section pens before [] = []
sheets_text section pens before (sheet ∷ sheets) =
    sheet_text section pens (before + 1) sheet ++ sheets_text section pens (before + 1) sheets

-- the document of all sheets on a page, one above another, by how many strokes there were when each one ended, and of the
-- areas and the labels of these strokes
abbrev pub dxf_sheets_bytes : Page → PenSet → List Segment → List Area → List ℕ → List LabelShape → List ℕ
dxf_sheets_bytes page pens strokes areas ends labels =
    start_text page ++ sheets_text Layers pens 0 (labelled_sheets strokes areas ends labels) ++ middle_text
    ++ sheets_text Entities pens 0 (labelled_sheets strokes areas ends labels) ++ foot_text
