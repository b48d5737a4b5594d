-- What was put into a document.
use Rattle.std.specs.Prelude.{◌≡◌, ℕ, ◌+◌, List, [], ◌∷◌, ◌++◌, length, take, map, codes, decimal, Result, Some}
use Rattle.deflate.specs.Zlib.{unzlib}
use Rattle.devices.specs.declared.fault.WriteFault.{WriteFault}
use Rattle.devices.specs.Sinks.{SinkState}
use Rattle.areas.specs.declared.area.Area.{Area}
use Rattle.labels.specs.Labels.{LabelShape}
use Rattle.pieces.specs.Texts.{Puts, WritesText, count_of, counted}
use Rattle.pieces.specs.declared.text.Text.{Text}
use Rattle.plot_page.specs.Segments.{Segment}
use Rattle.plot_page.specs.declared.page.Page.{Page}
use Rattle.plot_page.specs.declared.pens.PenSet.{PenSet}
use Rattle.pdf.specs.Documents.{AreStreams, page_areas, page_objects, pages_objects, pdf_bytes, pens_drawn, rows_shown}
use Rattle.pdf.specs.Documents.{sheet_labels, sheets, stream_object}
use Rattle.pdf.specs.Objects.{objects_text, offsets_of, reference_text}
use Rattle.pdf.specs.Units.{unit_of}
use Rattle.pdf.specs.declared.units.PageUnit.{PageUnit}

-- what comes before the body of an object, and after it
abbrev pub object_start : ℕ → List ℕ
object_start before = decimal (before + 1) ++ codes " 0 obj\n"

abbrev pub object_end : List ℕ
object_end = codes "\nendobj\n"

-- what comes before a stream, whose length is the object of this number
abbrev pub stream_start : ℕ → List ℕ
stream_start size = codes "<</Filter/FlateDecode/Length" ++ reference_text size ++ codes ">>stream\n"

-- where objects begin, as counts say
abbrev pub places : ℕ → ℕ → List (List ℕ) → List ℕ
places at before bodies = map counted (offsets_of at before bodies)

-- objects were put after so many others, and where they begin is noted
pub record Adds {K : Type 0} (state : K → SinkState) (old new : Text K) (offsets after : List ℕ) (before : ℕ) (bodies : List (List ℕ)) : Type 0 where
  pub puts : Puts state old new (objects_text before bodies)
  pub noted : take (before + length bodies) after ≡ take before offsets ++ places (count_of old) before bodies
  pub size : length after ≡ length offsets

-- a zlib stream of a text was put, of so many bytes
pub record PutsStream {K : Type 0} (state : K → SinkState) (old new : Text K) (text : List ℕ) (size : ℕ) : Type 0 where
  pub stream : List ℕ
  pub reads : unzlib stream ≡ Some text
  pub puts : Puts state old new stream
  pub counts : size ≡ counted (length stream)

-- the same as an object
pub record AddsStream {K : Type 0} (state : K → SinkState) (old new : Text K) (offsets after : List ℕ) (before : ℕ) (text : List ℕ) (size : ℕ) : Type 0 where
  pub stream : List ℕ
  pub reads : unzlib stream ≡ Some text
  pub adds : Adds state old new offsets after before (stream_object (before + 2) stream ∷ [])
  pub counts : size ≡ counted (length stream)

-- a page was put, whose content is in a stream of a text
pub record AddsPage {K : Type 0} (state : K → SinkState) (old new : Text K) (offsets after : List ℕ) (unit : PageUnit) (before : ℕ) (text : List ℕ) : Type 0 where
  pub stream : List ℕ
  pub reads : unzlib stream ≡ Some text
  pub adds : Adds state old new offsets after before (page_objects unit before stream)

-- pages were put, whose contents are in streams
pub record AddsPages {K : Type 0} (state : K → SinkState) (old new : Text K) (offsets after : List ℕ) (before : ℕ) (page : Page) (pens : PenSet)
    (pages : List (List Segment)) (areas : List (List Area)) (labels : List (List LabelShape)) : Type 0 where
  pub streams : List (List ℕ)
  pub are : AreStreams page pens pages areas labels streams
  pub adds : Adds state old new offsets after before (pages_objects (unit_of page) before streams)

-- a document was written whose contents are in streams, or the sink failed after a first part of it
pub record WritesPdf (old new : SinkState) (version title : List ℕ) (page : Page) (pens : PenSet) (strokes : List Segment) (areas : List Area)
    (ends : List ℕ) (labels : List LabelShape) (result : Result ℕ WriteFault) : Type 0 where
  pub streams : List (List ℕ)
  pub are : AreStreams page pens (sheets strokes 0 ends) (page_areas areas 0 ends) (sheet_labels labels 0 ends) streams
  pub writes : WritesText old new
      (pdf_bytes version title page (pens_drawn pens strokes) (rows_shown pens strokes labels) ends streams) result
