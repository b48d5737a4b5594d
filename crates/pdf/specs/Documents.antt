-- A whole PDF document, of version 1.5, or 1.6 if its pages have larger units.
use Rattle.std.specs.Prelude.{◌≡◌, ℕ, zero, suc, ◌+◌, ◌==◌, ◌&&◌, ◌||◌, Bool, false, List, [], ◌∷◌, ◌++◌, length, take, drop}
use Rattle.std.specs.Prelude.{◌*◌, filter, Some, codes, decimal, if◌then◌else◌}
use Rattle.std.specs.List.{list_any, range_with_len}
use Rattle.std.specs.Str.{chars}
use Rattle.deflate.specs.Zlib.{unzlib}
use Rattle.areas.specs.declared.area.Area.{Area}
use Rattle.labels.specs.Labels.{LabelShape}
use Rattle.labels.specs.Sheets.{all_counted, count_to, labels_to}
use Rattle.plot_page.specs.Segments.{Segment}
use Rattle.plot_page.specs.declared.page.Page.{Page}
use Rattle.plot_page.specs.declared.pens.PenSet.{PenSet}
use Rattle.stroke_runs.specs.Drawn.{is_drawn}
use Rattle.stroke_runs.specs.Sheets.{sheet_areas}
use Rattle.pieces.specs.Texts.{counted}
use Rattle.pdf.specs.Contents.{content_text}
use Rattle.pdf.specs.Numbers.{points, two_digits, utf_16_text}
use Rattle.pdf.specs.Objects.{objects_text, offsets_of, reference_text, table_text, trailer_text}
use Rattle.pdf.specs.Texts.{shows_row}
use Rattle.pdf.specs.Units.{count_of, unit_of}
use Rattle.pdf.specs.declared.units.PageUnit.{PageUnit}
use Rattle.pdf.specs.declared.units.PageUnit.TheVariants.{One, Two, Three}

-- the strokes of each sheet, of which the first one begins after so many strokes; each ends after so many
abbrev pub sheets : List Segment → ℕ → List ℕ → List (List Segment)
sheets strokes from [] = []
sheets strokes from (end ∷ ends) = drop from (take end strokes) ∷ sheets strokes end ends

-- the areas of each sheet, and those after them, by its strokes
abbrev pub page_areas : List Area → ℕ → List ℕ → List (List Area)
page_areas areas from [] = []
page_areas areas from (end ∷ ends) = sheet_areas from areas ∷ page_areas areas end ends

-- the labels of each sheet, by how many of its strokes there were: those before whose strokes the sheet ends
abbrev pub sheet_labels : List LabelShape → ℕ → List ℕ → List (List LabelShape)
sheet_labels labels from [] = []
sheet_labels labels from (end ∷ ends) =
    all_counted from (labels_to end labels) ∷ sheet_labels (drop (count_to end labels) labels) end ends

-- a stroke of this pen is drawn
abbrev pub has_drawn : PenSet → List Segment → ℕ → Bool
has_drawn pens [] pen = false
has_drawn pens (s ∷ strokes) pen = (is_drawn pens s && (pen == s.pen)) || has_drawn pens strokes pen

-- the pens that draw a stroke, by their numbers
abbrev pub pens_drawn : PenSet → List Segment → List ℕ
pens_drawn pens strokes = filter (has_drawn pens strokes) (range_with_len 0 256)

-- the rows that have a letter of a label that is shown, by their numbers
abbrev pub rows_shown : PenSet → List Segment → List LabelShape → List ℕ
rows_shown pens strokes labels = filter (λ row. list_any (shows_row pens strokes row) labels) (range_with_len 0 256)

-- the version: units of more than a point are of PDF 1.6
abbrev pub version_text : PageUnit → List ℕ
version_text One = codes "%PDF-1.5\n"
version_text Two = codes "%PDF-1.6\n"
version_text Three = codes "%PDF-1.6\n"

-- the version, and a comment with bytes that no text has
abbrev pub header_text : PageUnit → List ℕ
header_text unit = version_text unit ++ (codes "%" ++ 226 ∷ 227 ∷ 207 ∷ 211 ∷ 10 ∷ [])

-- the first object: the root, whose layers are listed in the fourth one
abbrev pub catalog_text : List ℕ
catalog_text = codes "<</Type/Catalog/Pages 3 0 R/OCProperties<</OCGs 4 0 R/D<</Order 4 0 R/ON 4 0 R>>>>>>"

-- a title in UTF-16 after the byte order mark; an empty one is none
abbrev pub title_text : List ℕ → List ℕ
title_text title =
    if length title == 0 then [] else codes "/Title<FEFF" ++ utf_16_text (chars title) ++ codes ">"

-- the second one: this version of the program made the document
abbrev pub info_text : List ℕ → List ℕ → List ℕ
info_text version title = codes "<</Producer(plotraster " ++ version ++ codes ")" ++ title_text title ++ codes ">>"

-- references to layers, from this number on
abbrev pub layers_text : ℕ → List ℕ → List ℕ
layers_text number [] = []
layers_text number (pen ∷ pens) = reference_text number ++ layers_text (number + 1) pens

-- the same, each after the name by which a content calls it
abbrev pub properties_text : ℕ → List ℕ → List ℕ
properties_text number [] = []
properties_text number (pen ∷ pens) =
    codes "/P" ++ decimal pen ++ reference_text number ++ properties_text (number + 1) pens

-- how many objects fonts of these rows are: an encoding, and two for each row
abbrev pub font_count : List ℕ → ℕ
font_count [] = 0
font_count (row ∷ rows) = 1 + 2 * length (row ∷ rows)

-- references to fonts, from this number on, each after the name by which a content calls it
abbrev pub fonts_text : ℕ → List ℕ → List ℕ
fonts_text number [] = []
fonts_text number (row ∷ rows) =
    codes "/F" ++ decimal row ++ reference_text number ++ fonts_text (number + 2) rows

-- the fonts, if there is one, which come after the encoding of this number
abbrev pub resources_text : ℕ → List ℕ → List ℕ
resources_text encoding [] = []
resources_text encoding (row ∷ rows) = codes "/Font<<" ++ fonts_text (encoding + 1) (row ∷ rows) ++ codes ">>"

-- references to the pages of sheets that end there, each three objects
abbrev pub kids_text : ℕ → List ℕ → List ℕ
kids_text number [] = []
kids_text number (end ∷ ends) = reference_text number ++ kids_text (number + 3) ends

-- what all pages have: their size, the names of layers and of fonts, and how many pages there are
abbrev pub shared_text : Page → List ℕ → List ℕ → ℕ → List ℕ
shared_text page pens rows count =
    codes "<</Type/Pages/MediaBox[0 0 " ++ points (count_of (unit_of page)) page.width ++ codes " " ++ points (count_of (unit_of page)) page.height
    ++ codes "]/Resources<</Properties<<" ++ properties_text 5 pens ++ codes ">>"
    ++ resources_text (5 + length pens) rows ++ codes ">>/Count " ++ decimal count ++ codes "/Kids["

-- the third one: the pages, which come after the layers and the fonts
abbrev pub pages_text : Page → List ℕ → List ℕ → List ℕ → List ℕ
pages_text page pens rows ends =
    shared_text page pens rows (length ends) ++ kids_text (5 + length pens + font_count rows) ends ++ codes "]>>"

-- the fourth one: all layers
abbrev pub list_text : List ℕ → List ℕ
list_text pens = codes "[" ++ layers_text 5 pens ++ codes "]"

-- a layer: it is called `Pen 2`
abbrev pub layer_object : ℕ → List ℕ
layer_object pen = codes "<</Type/OCG/Name(Pen " ++ decimal pen ++ codes ")>>"

abbrev pub layer_objects : List ℕ → List (List ℕ)
layer_objects [] = []
layer_objects (pen ∷ pens) = layer_object pen ∷ layer_objects pens

-- so many times the name of a glyph
abbrev pub names_text : ℕ → List ℕ
names_text zero = []
names_text (suc n) = codes "/a" ++ names_text n

-- the encoding of all fonts: each byte is a letter that is 3/5 wide. What it looks like is not seen
abbrev pub encoding_text : List ℕ
encoding_text = codes "<</Differences[0" ++ names_text 256 ++ codes "]>>"

-- a font, with this encoding and with the Unicode of its bytes
abbrev pub font_object : ℕ → ℕ → List ℕ
font_object encoding unicode =
    codes "<</Type/Font/Subtype/Type1/BaseFont/Courier/Encoding" ++ reference_text encoding ++ codes "/ToUnicode"
    ++ reference_text unicode ++ codes ">>"

-- each byte is a code point of this row. ISO 32000-1, 9.10.3.
abbrev pub unicode_text : ℕ → List ℕ
unicode_text row =
    codes "/CIDInit /ProcSet findresource begin\n12 dict begin\nbegincmap\n"
    ++ codes "/CIDSystemInfo<</Registry(Adobe)/Ordering(UCS)/Supplement 0>>def\n/CMapName/Row" ++ two_digits row
    ++ codes " def\n/CMapType 2 def\n1 begincodespacerange\n<00><ff>\nendcodespacerange\n1 beginbfrange\n<00><ff><"
    ++ two_digits row ++ codes "00>\nendbfrange\nendcmap\nCMapName currentdict/CMap defineresource pop\nend\nend\n"

abbrev pub unicode_object : ℕ → List ℕ
unicode_object row =
    codes "<</Length " ++ decimal (length (unicode_text row)) ++ codes ">>stream\n" ++ unicode_text row
    ++ codes "\nendstream"

-- two objects for each row after so many objects
abbrev pub row_objects : ℕ → ℕ → List ℕ → List (List ℕ)
row_objects encoding before [] = []
row_objects encoding before (row ∷ rows) =
    font_object encoding (before + 2) ∷ unicode_object row ∷ row_objects encoding (before + 2) rows

-- the encoding and the fonts, if there is one, after so many objects
abbrev pub font_objects : ℕ → List ℕ → List (List ℕ)
font_objects before [] = []
font_objects before (row ∷ rows) = encoding_text ∷ row_objects (before + 1) (before + 1) (row ∷ rows)

-- how many points the unit of a page has, if they are more than one
abbrev pub user_unit : PageUnit → List ℕ
user_unit One = []
user_unit Two = codes "/UserUnit 2"
user_unit Three = codes "/UserUnit 3"

-- a page with this unit, whose content is the object of this number
abbrev pub page_object : PageUnit → ℕ → List ℕ
page_object unit content =
    codes "<</Type/Page/Parent 3 0 R" ++ user_unit unit ++ codes "/Contents" ++ reference_text content ++ codes ">>"

-- its content, whose length is in the object of this number
abbrev pub stream_object : ℕ → List ℕ → List ℕ
stream_object size stream =
    codes "<</Filter/FlateDecode/Length" ++ reference_text size ++ codes ">>stream\n" ++ stream ++ codes "\nendstream"

-- a page after so many objects: the page, its content, and how long that is, a count that stops at its greatest
abbrev pub page_objects : PageUnit → ℕ → List ℕ → List (List ℕ)
page_objects unit before stream =
    page_object unit (before + 2) ∷ stream_object (before + 3) stream ∷ decimal (counted (length stream)) ∷ []

abbrev pub pages_objects : PageUnit → ℕ → List (List ℕ) → List (List ℕ)
pages_objects unit before [] = []
pages_objects unit before (stream ∷ streams) = page_objects unit before stream ++ pages_objects unit (before + 3) streams

-- all objects
abbrev pub objects : List ℕ → List ℕ → Page → List ℕ → List ℕ → List ℕ → List (List ℕ) → List (List ℕ)
objects version title page pens rows ends streams =
    (catalog_text ∷ info_text version title ∷ pages_text page pens rows ends ∷ list_text pens ∷ [])
    ++ layer_objects pens ++ font_objects (4 + length pens) rows
    ++ pages_objects (unit_of page) (4 + length pens + font_count rows) streams

-- what comes after objects that begin there: their table, which begins at `at`
abbrev pub end_text : List ℕ → ℕ → List ℕ
end_text offsets at = table_text offsets ++ trailer_text (length offsets) at

-- a document of these objects, whose pages have this unit
abbrev pub document_text : PageUnit → List (List ℕ) → List ℕ
document_text unit all =
    header_text unit ++ objects_text 0 all
    ++ end_text (offsets_of (length (header_text unit)) 0 all) (length (header_text unit ++ objects_text 0 all))

-- a document with a layer for each of these pens, a font for each of these rows, and a page for each sheet, whose
-- contents are in these streams
abbrev pub pdf_bytes : List ℕ → List ℕ → Page → List ℕ → List ℕ → List ℕ → List (List ℕ) → List ℕ
pdf_bytes version title page pens rows ends streams =
    document_text (unit_of page) (objects version title page pens rows ends streams)

-- zlib streams (RFC 1950) of the contents of these sheets, which have these areas and these labels
abbrev pub AreStreams : Page → PenSet → List (List Segment) → List (List Area) → List (List LabelShape) → List (List ℕ) → Type 0
AreStreams page pens [] [] [] [] = Unit {0}
AreStreams page pens (strokes ∷ sheets) (areas ∷ others) (labels ∷ rest) (stream ∷ streams) =
    (unzlib stream ≡ Some (content_text page pens strokes areas labels)) × AreStreams page pens sheets others rest streams
AreStreams page pens _ _ _ _ = ⊥
