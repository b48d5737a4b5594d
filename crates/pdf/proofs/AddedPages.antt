-- Pages that are put one after another, and the whole document.
use Rattle.std.proofs.Common.{◌≡◌, ℕ, suc, ◌+◌, ◌*◌, List, [], ◌∷◌, ◌++◌, length, take, drop, Some, Result, refl, ap, sym, ◌∙◌, append_assoc, append-nil, length-append, codes, decimal, arith, subst}
use Rattle.deflate.specs.Zlib.{unzlib}
use Rattle.devices.specs.declared.fault.WriteFault.{WriteFault}
use Rattle.devices.specs.Sinks.{SinkState}
use Rattle.areas.specs.declared.area.Area.{Area}
use Rattle.labels.specs.Labels.{LabelShape}
use Rattle.labels.specs.Sheets.{all_counted, count_to, labels_to}
use Rattle.pieces.specs.Texts.{Puts, count_of}
use Rattle.pieces.specs.declared.text.Text.{Text}
use Rattle.pieces.proofs.Texts.{puts_as, ◌then◌}
use Rattle.plot_page.specs.Segments.{Segment}
use Rattle.plot_page.specs.declared.page.Page.{Page}
use Rattle.plot_page.specs.declared.pens.PenSet.{PenSet}
use Rattle.stroke_runs.specs.Sheets.{sheet_areas}
use Rattle.pdf.specs.Contents.{content_text}
use Rattle.pdf.specs.Documents.{AreStreams, catalog_text, end_text, font_count, font_objects, header_text, info_text, layer_objects, list_text, objects, page_areas, page_object, page_objects, pages_objects, pages_text, pdf_bytes, pens_drawn, rows_shown, sheet_labels, sheets, stream_object}
use Rattle.pdf.specs.Units.{unit_of}
use Rattle.pdf.specs.declared.units.PageUnit.{PageUnit}
use Rattle.pdf.specs.Writings.{Adds, AddsPage, AddsStream, PutsStream, WritesPdf, object_end, object_start, stream_start}
use Rattle.pdf.proofs.AddedObjects.{added_as, added_more, document_added, object_added}
use Rattle.pdf.proofs.FontLists.{fonts_size}
use Rattle.pdf.proofs.Lists.{layer_objects_size}

-- one page more
pub pages_join : (unit : PageUnit) (before : ℕ) (xs : List (List ℕ)) (x : List ℕ) → pages_objects unit before (xs ++ x ∷ []) ≡ pages_objects unit before xs ++ page_objects unit (before + 3 * length xs) x
pages_join unit before [] x =
    append-nil (page_objects unit before x) ∙ ap (λ (k : ℕ). page_objects unit k x) (let e : before ≡ before + 3 * 0 = omega arith in e)
pages_join unit before (y ∷ ys) x =
    ap (λ (z : List (List ℕ)). page_objects unit before y ++ z) (pages_join unit (before + 3) ys x)
    ∙ sym (append_assoc (page_objects unit before y) (pages_objects unit (before + 3) ys) (page_objects unit (before + 3 + 3 * length ys) x))
    ∙ ap (λ (k : ℕ). (page_objects unit before y ++ pages_objects unit (before + 3) ys) ++ page_objects unit k x)
    (let e : before + 3 + 3 * length ys ≡ before + 3 * length (y ∷ ys) = omega arith in e)

pub pages_size : (unit : PageUnit) (before : ℕ) (xs : List (List ℕ)) → length (pages_objects unit before xs) ≡ 3 * length xs
pages_size unit before [] = refl
pages_size unit before (x ∷ xs) =
    length-append (page_objects unit before x) (pages_objects unit (before + 3) xs) ∙ ap (λ (k : ℕ). 3 + k) (pages_size unit (before + 3) xs)
    ∙ (let e : 3 + 3 * length xs ≡ 3 * length (x ∷ xs) = omega arith in e)

pub streams_size : (page : Page) (pens : PenSet) (pages : List (List Segment)) (areas : List (List Area)) (labels : List (List LabelShape)) (streams : List (List ℕ)) → AreStreams page pens pages areas labels streams
    → length streams ≡ length pages
streams_size page pens [] [] [] [] h = refl
streams_size page pens [] [] [] (x ∷ xs) h = absurd h
streams_size page pens [] [] (l ∷ ls) [] h = absurd h
streams_size page pens [] [] (l ∷ ls) (x ∷ xs) h = absurd h
streams_size page pens [] (a ∷ bs) [] [] h = absurd h
streams_size page pens [] (a ∷ bs) [] (x ∷ xs) h = absurd h
streams_size page pens [] (a ∷ bs) (l ∷ ls) [] h = absurd h
streams_size page pens [] (a ∷ bs) (l ∷ ls) (x ∷ xs) h = absurd h
streams_size page pens (s ∷ ss) [] [] [] h = absurd h
streams_size page pens (s ∷ ss) [] [] (x ∷ xs) h = absurd h
streams_size page pens (s ∷ ss) [] (l ∷ ls) [] h = absurd h
streams_size page pens (s ∷ ss) [] (l ∷ ls) (x ∷ xs) h = absurd h
streams_size page pens (s ∷ ss) (a ∷ bs) [] [] h = absurd h
streams_size page pens (s ∷ ss) (a ∷ bs) [] (x ∷ xs) h = absurd h
streams_size page pens (s ∷ ss) (a ∷ bs) (l ∷ ls) [] h = absurd h
streams_size page pens (s ∷ ss) (a ∷ bs) (l ∷ ls) (x ∷ xs) h = ap (λ (k : ℕ). suc k) (streams_size page pens ss bs ls xs h.1)

pub sheets_size : (strokes : List Segment) (from : ℕ) (ends : List ℕ) → length (sheets strokes from ends) ≡ length ends
sheets_size strokes from [] = refl
sheets_size strokes from (end ∷ ends) = ap (λ (k : ℕ). suc k) (sheets_size strokes end ends)

-- the object of a stream
pub stream_added : {K : Type 0} {state : K → SinkState} {a b c d e f : Text K} {o p : List ℕ} {before size : ℕ} {text : List ℕ}
    → Puts state a b (object_start before) → take (before + 1) p ≡ take before o ++ count_of a ∷ [] → length p ≡ length o
    → Puts state b c (stream_start (before + 2)) → PutsStream state c d text size → Puts state d e (codes "\nendstream") → Puts state e f object_end
    → AddsStream state a f o p before text size
stream_added begin noted length_is start stream end last = record {
  stream = stream.stream;
  reads = stream.reads;
  adds = object_added begin noted length_is (start then stream.puts then end) last;
  counts = stream.counts;
}

-- the objects of a page
pub page_added : (unit : PageUnit) {K : Type 0} {state : K → SinkState} {a b c d : Text K} {o p q r : List ℕ} {before size : ℕ} {text : List ℕ}
    → Adds state a b o p before (page_object unit (before + 2) ∷ []) → AddsStream state b c p q (before + 1) text size
    → Adds state c d q r (before + 2) (decimal size ∷ []) → AddsPage state a d o r unit before text
page_added unit {before = before} {size = size} first second third =
    let stream = second.stream in
    let sum : before + 1 + 2 ≡ before + 3 = omega arith in
    let two = added_more first second.adds refl in
    record {
      stream = stream;
      reads = second.reads;
      adds = added_as (added_more two third refl)
          (ap (λ (k : ℕ). page_object unit (before + 2) ∷ stream_object k stream ∷ decimal size ∷ []) sum
          ∙ ap (λ (k : ℕ). page_object unit (before + 2) ∷ stream_object (before + 3) stream ∷ decimal k ∷ []) second.counts);
    }

-- the pages of the sheets that are left
abbrev pub Follows : Page → PenSet → List (List Segment) → List (List Area) → List (List LabelShape) → List (List Segment) → List (List Area) → List (List LabelShape) → List (List ℕ) → Type 0
Follows page pens all areas labels left edged others streams = (rest : List (List ℕ)) → AreStreams page pens left edged others rest → AreStreams page pens all areas labels (streams ++ rest)

pub next_follows : (page : Page) (pens : PenSet) (all : List (List Segment)) (areas : List (List Area)) (labels : List (List LabelShape)) (strokes sheet : List Segment) (edged : List Area) (left shown after : List LabelShape) (from end : ℕ) (ends others : List ℕ) (streams : List (List ℕ)) (stream : List ℕ)
    → Follows page pens all areas labels (sheets strokes from ends) (page_areas edged from ends) (sheet_labels left from ends) streams → ends ≡ end ∷ others → sheet ≡ drop from (take end strokes)
    → shown ≡ all_counted from (labels_to end left) → after ≡ drop (count_to end left) left
    → unzlib stream ≡ Some (content_text page pens sheet (sheet_areas from edged) shown)
    → Follows page pens all areas labels (sheets strokes end others) (page_areas edged end others) (sheet_labels after end others) (streams ++ stream ∷ [])
next_follows page pens all areas labels strokes sheet edged left shown after from end ends others streams stream so_far next is has moved read rest h =
    let here = sheet_areas from edged in
    let P : List ℕ → Type 0 = λ zs. Follows page pens all areas labels (sheets strokes from zs) (page_areas edged from zs) (sheet_labels left from zs) streams in
    let Q : List Segment → Type 0 = λ z. unzlib stream ≡ Some (content_text page pens z here shown) in
    let S : List LabelShape → Type 0 = λ z. unzlib stream ≡ Some (content_text page pens (drop from (take end strokes)) here z) in
    let T : List LabelShape → Type 0 = λ z. AreStreams page pens (sheets strokes end others) (page_areas edged end others) (sheet_labels z end others) rest in
    let R : List (List ℕ) → Type 0 = λ z. AreStreams page pens all areas labels z in
    subst R (sym (append_assoc streams (stream ∷ []) rest)) (subst P next so_far (stream ∷ rest) (subst S has (subst Q is read), subst T moved h))

-- one page more
pub page_more : (unit : PageUnit) {K : Type 0} {state : K → SinkState} {a b c : Text K} {o p q : List ℕ} {before next : ℕ} (streams : List (List ℕ)) (stream : List ℕ)
    → Adds state a b o p before (pages_objects unit before streams) → Adds state b c p q next (page_objects unit next stream) → next ≡ before + 3 * length streams
    → Adds state a c o q before (pages_objects unit before (streams ++ stream ∷ []))
page_more unit {before = before} {next = next} streams stream first second is =
    let size : next ≡ before + length (pages_objects unit before streams) = is ∙ ap (λ (k : ℕ). before + k) (sym (pages_size unit before streams)) in
    added_as (added_more first second size) (ap (λ (k : ℕ). pages_objects unit before streams ++ page_objects unit k stream) is ∙ sym (pages_join unit before streams stream))

-- all pages were written
pub all_follow : (page : Page) (pens : PenSet) (all : List (List Segment)) (areas : List (List Area)) (labels : List (List LabelShape)) (strokes : List Segment) (edged : List Area) (shown : List LabelShape) (from : ℕ) (ends : List ℕ) (streams : List (List ℕ))
    → Follows page pens all areas labels (sheets strokes from ends) (page_areas edged from ends) (sheet_labels shown from ends) streams → ends ≡ [] → AreStreams page pens all areas labels streams
all_follow page pens all areas labels strokes edged shown from ends streams so_far none =
    let P : List ℕ → Type 0 = λ z. Follows page pens all areas labels (sheets strokes from z) (page_areas edged from z) (sheet_labels shown from z) streams in
    let R : List (List ℕ) → Type 0 = λ z. AreStreams page pens all areas labels z in
    subst R (append-nil streams) (subst P none so_far [] tt)

-- the first four objects
abbrev pub front : List ℕ → List ℕ → Page → List ℕ → List ℕ → List ℕ → List (List ℕ)
front version title page pens rows ends = catalog_text ∷ info_text version title ∷ pages_text page pens rows ends ∷ list_text pens ∷ []

-- the objects of a document
pub objects_added : {K : Type 0} {state : K → SinkState} {a b c d e : Text K} {o p q r s : List ℕ} {layers fonts : ℕ} (version title : List ℕ) (page : Page) (pens rows ends : List ℕ) (streams : List (List ℕ))
    → Adds state a b o p 0 (front version title page pens rows ends) → Adds state b c p q 4 (layer_objects pens) → Adds state c d q r layers (font_objects layers rows)
    → Adds state d e r s fonts (pages_objects (unit_of page) fonts streams) → layers ≡ 4 + length pens → fonts ≡ 4 + length pens + font_count rows
    → Adds state a e o s 0 (objects version title page pens rows ends streams)
objects_added {state = state} {c = c} {d = d} {e = e} {q = q} {r = r} {s = s} version title page pens rows ends streams first second third fourth is are =
    let four = front version title page pens rows ends in
    let third' = subst (λ (k : ℕ). Adds state c d q r k (font_objects k rows)) is third in
    let fourth' = subst (λ (k : ℕ). Adds state d e r s k (pages_objects (unit_of page) k streams)) are fourth in
    let all_fonts = font_objects (4 + length pens) rows in
    let after : 4 + length pens ≡ 0 + length (four ++ layer_objects pens) = omega (arith, length-append four (layer_objects pens), layer_objects_size pens) in
    let later : 4 + length pens + font_count rows ≡ 0 + length (four ++ layer_objects pens ++ all_fonts) =
    omega (arith, length-append (four ++ layer_objects pens) all_fonts, length-append four (layer_objects pens), layer_objects_size pens, fonts_size (4 + length pens) rows) in
    added_more (added_more (added_more first second refl) third' after) fourth' later

-- how many objects a document has
pub objects_size : (version title : List ℕ) (page : Page) (pens rows ends : List ℕ) (pages : List (List Segment)) (areas : List (List Area)) (labels : List (List LabelShape)) (streams : List (List ℕ)) (set : PenSet)
    → AreStreams page set pages areas labels streams → length pages ≡ length ends
    → length (objects version title page pens rows ends streams) ≡ 4 + length pens + font_count rows + 3 * length ends
objects_size version title page pens rows ends pages areas labels streams set are same =
    let four = front version title page pens rows ends in
    let fonts = font_objects (4 + length pens) rows in
    omega (
      arith,
      length-append (four ++ layer_objects pens ++ fonts) (pages_objects (unit_of page) (4 + length pens + font_count rows) streams),
      length-append (four ++ layer_objects pens) fonts,
      length-append four (layer_objects pens),
      layer_objects_size pens,
      fonts_size (4 + length pens) rows,
      pages_size (unit_of page) (4 + length pens + font_count rows) streams,
      streams_size page set pages areas labels streams are,
      same,
    )

-- the whole document was put into a new text
pub pdf_put : {K : Type 0} {state : K → SinkState} {a b c d e f g : Text K} {o p q r s : List ℕ} (layers fonts all : ℕ) (version title : List ℕ) (page : Page) (set : PenSet) (strokes : List Segment) (areas : List Area) (ends : List ℕ) (labels : List LabelShape) (pens rows : List ℕ) (streams : List (List ℕ))
    → count_of a ≡ 0 → Puts state a b (header_text (unit_of page)) → Adds state b c o p 0 (front version title page pens rows ends) → Adds state c d p q 4 (layer_objects pens)
    → Adds state d e q r layers (font_objects layers rows) → Adds state e f r s fonts (pages_objects (unit_of page) fonts streams) → Puts state f g (end_text (take all s) (count_of f))
    → AreStreams page set (sheets strokes 0 ends) (page_areas areas 0 ends) (sheet_labels labels 0 ends) streams
    → layers ≡ 4 + length pens → fonts ≡ 4 + length pens + font_count rows → all ≡ fonts + 3 * length ends
    → pens ≡ pens_drawn set strokes → rows ≡ rows_shown set strokes labels
    → Puts state a g (pdf_bytes version title page (pens_drawn set strokes) (rows_shown set strokes labels) ends streams)
pdf_put {s = s} layers fonts all version title page set strokes areas ends labels pens rows streams new head first second third fourth end are layers_is fonts_is all_is pens_are rows_are =
    let bodies = objects version title page pens rows ends streams in
    let added = objects_added version title page pens rows ends streams first second third fourth layers_is fonts_is in
    let count : all ≡ length bodies =
    omega (arith, all_is, fonts_is, objects_size version title page pens rows ends (sheets strokes 0 ends) (page_areas areas 0 ends) (sheet_labels labels 0 ends) streams set are (sheets_size strokes 0 ends)) in
    puts_as (document_added (unit_of page) {all = bodies} new head added (ap (λ (k : ℕ). take k s) count) end)
    (ap (λ (z : List ℕ). pdf_bytes version title page z rows ends streams) pens_are
    ∙ ap (λ (z : List ℕ). pdf_bytes version title page (pens_drawn set strokes) z ends streams) rows_are)

-- the same sink before and after
pub pdf_as : {a b c d : SinkState} {version title : List ℕ} {page : Page} {pens : PenSet} {strokes : List Segment} {areas : List Area} {ends : List ℕ} {labels : List LabelShape} {result : Result ℕ WriteFault}
    → c ≡ a → d ≡ b → WritesPdf c d version title page pens strokes areas ends labels result → WritesPdf a b version title page pens strokes areas ends labels result
pdf_as {a = a} {d = d} {version = version} {title = title} {page = page} {pens = pens} {strokes = strokes} {areas = areas} {ends = ends} {labels = labels} {result = result} p q h =
    subst (λ (t : SinkState). WritesPdf a t version title page pens strokes areas ends labels result) q
    (subst (λ (t : SinkState). WritesPdf t d version title page pens strokes areas ends labels result) p h)
