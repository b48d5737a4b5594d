-- A report is not too long to be counted.
use Rattle.std.proofs.Common.{◌≡◌, ℕ, ◌+◌, ◌*◌, ◌^◌, ◌<◌, ◌≤◌, ◌/◌, ◌%◌, ◌==◌, List, [], ◌∷◌, ◌++◌, flat_map, length, zero, suc, nat_eq, cond, Bool, true, false, codes, decimal, ℤ, pos, negsuc, arith, refl, length-append, lit≤, get_or, if◌then◌else◌}
use Rattle.std.specs.Fmt.{digit_glyph, digits, digits_onto, signed_decimal}
use Rattle.std.specs.List.{join_with_byte, range_with_len}
use Rattle.plot_page.specs.Segments.{Segment}
use Rattle.areas.specs.Shapes.{Shape, ShapeList, shapes}
use Rattle.page_images.specs.Frames.{row_count}
use Rattle.page_images.specs.PageImages.{ImageShape}
use Rattle.hpgl_plot.specs.declared.note.Note.{Note}
use Rattle.hpgl_plot.specs.declared.note.NoteKind.{NoteKind}
use Rattle.hpgl_plot.specs.declared.note.NoteKind.TheVariants.{Skipped, Bad, Stray, Axis, Open}
use Rattle.hpgl_text.specs.Bytes.{escape}
use Rattle.plot_report.specs.declared.report_page.ReportPage.{ReportPage}
use Rattle.plot_report.specs.declared.summary.StrokeSummary.{StrokeSummary}
use Rattle.plot_report.specs.Report.{all_edges, area_line, areas_among, areas_line, edges_line, full_report_of, image_line, images_line, kind_words, letters, line, note_line, page_line, pen_line, pen_lines, pen_shape_lines, report_of, shape_lines, shapes_of, sheets_line, space, strokes_among, strokes_line, strokes_of, summary_line, summary_of}

either_few : (b : Bool) (xs ys : List ℕ) (n : ℕ) → length xs ≤ n → length ys ≤ n → length (cond b xs ys) ≤ n
either_few true xs ys n h k = h
either_few false xs ys n h k = k

-- a number has at most 64 digits
onto_few : (k n : ℕ) (acc : List ℕ) → length (digits_onto k 10 false n acc) ≤ k + length acc
onto_few zero n acc = omega arith
onto_few (suc k) n acc =
    let c = digit_glyph false (n % 10) in
    let more : length (digits_onto k 10 false (n / 10) (c ∷ acc)) ≤ k + suc (length acc) = onto_few k (n / 10) (c ∷ acc) in
    either_few (n / 10 == 0) (c ∷ acc) (digits_onto k 10 false (n / 10) (c ∷ acc)) (suc k + length acc) (omega arith) (omega (arith, more))

number_few : (n : ℕ) → length (decimal n) ≤ 64
unfolding digits
number_few n = omega (arith, onto_few 64 n [])

decimal_few : (n : ℕ) → length (decimal n) ≤ 65
decimal_few n = omega (arith, number_few n)

signed_few : (z : ℤ) → length (signed_decimal z) ≤ 65
signed_few (pos n) = decimal_few n
signed_few (negsuc n) = omega (arith, number_few (suc n))

-- words of at most 65 letters
abbrev AreShort : List (List ℕ) → Type 0
AreShort [] = Unit {0}
AreShort (w ∷ ws) = (length w ≤ 65) × AreShort ws

join_few : (ws : List (List ℕ)) → AreShort ws → length (join_with_byte space ws) ≤ 66 * length ws
join_few [] h = omega arith
join_few (w ∷ []) h = omega (arith, h.0)
join_few (w ∷ v ∷ ws) h =
    let rest : length (join_with_byte space (v ∷ ws)) ≤ 66 * length (v ∷ ws) = join_few (v ∷ ws) h.1 in
    omega (arith, h.0, rest, length-append w (space ∷ join_with_byte space (v ∷ ws)))

line_few : (ws : List (List ℕ)) → AreShort ws → length ws ≤ 12 → length (line ws) ≤ 1000
line_few ws h few = omega (arith, few, join_few ws h, length-append (join_with_byte space ws) (codes "\n"))

page_few : (page : ReportPage) → length (page_line page) ≤ 1000
page_few page =
    line_few (codes "page" ∷ decimal page.width ∷ decimal page.height ∷ signed_decimal page.left ∷ signed_decimal page.below ∷ [])
    (lit≤ tt, (decimal_few page.width, (decimal_few page.height, (signed_few page.left, (signed_few page.below, tt))))) (lit≤ tt)

strokes_few : (strokes : List Segment) → length (strokes_line strokes) ≤ 1000
strokes_few strokes = line_few (codes "strokes" ∷ decimal (length strokes) ∷ []) (lit≤ tt, (decimal_few (length strokes), tt)) (lit≤ tt)

sheets_few : (sheets : ℕ) → length (sheets_line sheets) ≤ 1000
sheets_few sheets = line_few (codes "sheets" ∷ decimal sheets ∷ []) (lit≤ tt, (decimal_few sheets, tt)) (lit≤ tt)

summary_few : (pen : ℕ) (s : StrokeSummary) → length (summary_line pen s) ≤ 1000
summary_few pen s =
    line_few (codes "pen" ∷ decimal pen ∷ codes "strokes" ∷ decimal s.strokes ∷ codes "widest" ∷ decimal s.widest ∷ codes "box" ∷ signed_decimal s.least_x ∷ signed_decimal s.least_y ∷ signed_decimal s.greatest_x ∷ signed_decimal s.greatest_y ∷ [])
    (lit≤ tt, (decimal_few pen, (lit≤ tt, (decimal_few s.strokes, (lit≤ tt, (decimal_few s.widest, (lit≤ tt, (signed_few s.least_x, (signed_few s.least_y, (signed_few s.greatest_x, (signed_few s.greatest_y, tt))))))))))) (lit≤ tt)

pen_few : (pen : ℕ) (ss : List Segment) → length (pen_line pen ss) ≤ 1000
pen_few pen [] = omega arith
pen_few pen (s ∷ ss) = summary_few pen (summary_of (s ∷ ss))

edges_few : (pen areas : ℕ) (s : StrokeSummary) → length (edges_line pen areas s) ≤ 1000
edges_few pen areas s =
    line_few (codes "pen" ∷ decimal pen ∷ codes "areas" ∷ decimal areas ∷ codes "edges" ∷ decimal s.strokes ∷ codes "box" ∷ signed_decimal s.least_x ∷ signed_decimal s.least_y ∷ signed_decimal s.greatest_x ∷ signed_decimal s.greatest_y ∷ [])
    (lit≤ tt, (decimal_few pen, (lit≤ tt, (decimal_few areas, (lit≤ tt, (decimal_few s.strokes, (lit≤ tt, (signed_few s.least_x, (signed_few s.least_y, (signed_few s.greatest_x, (signed_few s.greatest_y, tt))))))))))) (lit≤ tt)

area_few : (pen : ℕ) (areas : List Shape) → length (area_line pen areas) ≤ 1000
area_few pen [] = omega arith
area_few pen (a ∷ more) = edges_few pen (length (a ∷ more)) (summary_of (all_edges (a ∷ more)))

areas_few : (areas : ℕ) → length (areas_line areas) ≤ 1000
areas_few areas = either_few (nat_eq areas 0) [] (line (codes "areas" ∷ decimal areas ∷ [])) 1000 (omega arith) (line_few (codes "areas" ∷ decimal areas ∷ []) (lit≤ tt, (decimal_few areas, tt)) (lit≤ tt))

images_few : (images : ℕ) → length (images_line images) ≤ 1000
images_few images = either_few (nat_eq images 0) [] (line (codes "images" ∷ decimal images ∷ [])) 1000 (omega arith) (line_few (codes "images" ∷ decimal images ∷ []) (lit≤ tt, (decimal_few images, tt)) (lit≤ tt))

image_few : (i : ImageShape) → length (image_line i) ≤ 1000
image_few i =
    let s = summary_of (i.frame ∷ []) in
    line_few (codes "image" ∷ decimal i.image.width ∷ decimal (row_count i.image.numbers) ∷ decimal i.image.settings.resolution ∷ codes "box" ∷ signed_decimal s.least_x ∷ signed_decimal s.least_y ∷ signed_decimal s.greatest_x ∷ signed_decimal s.greatest_y ∷ [])
    (lit≤ tt, (decimal_few i.image.width, (decimal_few (row_count i.image.numbers), (decimal_few i.image.settings.resolution, (lit≤ tt, (signed_few s.least_x, (signed_few s.least_y, (signed_few s.greatest_x, (signed_few s.greatest_y, tt))))))))) (lit≤ tt)

all_images_few : (images : List ImageShape) → length (flat_map image_line images) ≤ 1000 * length images
all_images_few [] = omega arith
all_images_few (i ∷ images) = omega (arith, image_few i, all_images_few images, length-append (image_line i) (flat_map image_line images))

lines_few : (pen : ℕ) (shapes : List Shape) → length (pen_shape_lines pen shapes) ≤ 2000
lines_few pen shapes =
    omega (arith, pen_few pen (strokes_among shapes), area_few pen (areas_among shapes), length-append (pen_line pen (strokes_among shapes)) (area_line pen (areas_among shapes)))

range_few : (f : ℕ → List ℕ) (a n : ℕ) → ((k : ℕ) → length (f k) ≤ 2000) → length (flat_map f (range_with_len a n)) ≤ 2000 * n
range_few f a zero h = omega arith
range_few f a (suc n) h = omega (arith, h a, range_few f (a + 1) n h, length-append (f a) (flat_map f (range_with_len (a + 1) n)))

pub shapes_few : (images : ℕ) (shapes : List Shape) → length (shape_lines images shapes) ≤ 513000
unfolding shape_lines
shapes_few images shapes =
    let a = strokes_line (strokes_among shapes) in
    let b = areas_line (length (areas_among shapes)) in
    let k = images_line images in
    let f : ℕ → List ℕ = λ pen. pen_shape_lines pen (shapes_of pen shapes) in
    let p = flat_map f (range_with_len 1 255) in
    omega (arith, strokes_few (strokes_among shapes), areas_few (length (areas_among shapes)), range_few f 1 255 (λ k. lines_few k (shapes_of k shapes)), images_few images, length-append a b, length-append (a ++ b) k, length-append ((a ++ b) ++ k) p)

pens_few : (strokes : List Segment) → length (pen_lines strokes) ≤ 510000
unfolding pen_lines
pens_few strokes = range_few (λ (pen : ℕ). pen_line pen (strokes_of pen strokes)) 1 255 (λ k. omega (arith, pen_few k (strokes_of k strokes)))

few_of_two : (b : Bool) (x y : List ℕ) → length x ≤ 3 → length y ≤ 3 → length (if b then x else y) ≤ 3
few_of_two true x y h k = h
few_of_two false x y h k = k

letters_few : (code : List ℕ) → length code ≡ 2 → length (letters code) ≤ 3
letters_few code two = few_of_two (get_or code 0 0 == escape) (codes "ESC") code (lit≤ tt) (omega (arith, two))

kind_few : (at : ℕ) (kind : NoteKind) (code : List ℕ) → length code ≡ 2 → length (line (codes "note" ∷ decimal at ∷ kind_words kind code)) ≤ 1000
kind_few at Skipped code two = line_few (codes "note" ∷ decimal at ∷ codes "skipped" ∷ letters code ∷ []) (lit≤ tt, (decimal_few at, (lit≤ tt, (omega (arith, letters_few code two), tt)))) (lit≤ tt)
kind_few at Bad code two = line_few (codes "note" ∷ decimal at ∷ codes "bad" ∷ letters code ∷ []) (lit≤ tt, (decimal_few at, (lit≤ tt, (omega (arith, letters_few code two), tt)))) (lit≤ tt)
kind_few at (Stray byte) code two = line_few (codes "note" ∷ decimal at ∷ codes "stray" ∷ decimal byte ∷ []) (lit≤ tt, (decimal_few at, (lit≤ tt, (decimal_few byte, tt)))) (lit≤ tt)
kind_few at Axis code two = line_few (codes "note" ∷ decimal at ∷ codes "axis" ∷ letters code ∷ []) (lit≤ tt, (decimal_few at, (lit≤ tt, (omega (arith, letters_few code two), tt)))) (lit≤ tt)
kind_few at Open code two = line_few (codes "note" ∷ decimal at ∷ codes "open" ∷ letters code ∷ []) (lit≤ tt, (decimal_few at, (lit≤ tt, (omega (arith, letters_few code two), tt)))) (lit≤ tt)

-- a word before those of a note
pub kind_joined : (word : List ℕ) (kind : NoteKind) (code : List ℕ) → word ++ (space ∷ join_with_byte space (kind_words kind code)) ≡ join_with_byte space (word ∷ kind_words kind code)
kind_joined word Skipped code = refl
kind_joined word Bad code = refl
kind_joined word (Stray byte) code = refl
kind_joined word Axis code = refl
kind_joined word Open code = refl

pub note_few : (note : Note) → length note.code ≡ 2 → length (note_line note) ≤ 1000
note_few note two = kind_few note.at note.kind note.code two

pub report_few : (page : ReportPage) (strokes : List Segment) (notes : List Note) → length notes ≤ 67108864 → length (flat_map note_line notes) ≤ 1000 * length notes → length (report_of page strokes notes) < 2 ^ 64
report_few page strokes notes most few =
    let a = page_line page in
    let b = strokes_line strokes in
    let p = pen_lines strokes in
    let n = flat_map note_line notes in
    omega (arith, most, few, page_few page, strokes_few strokes, pens_few strokes, length-append a b, length-append (a ++ b) p, length-append ((a ++ b) ++ p) n)

pub full_report_few : (page : ReportPage) (sheets : ℕ) (list : ShapeList) (images : List ImageShape) (notes : List Note) → length images ≤ 67108864 → length notes ≤ 67108864 → length (flat_map note_line notes) ≤ 1000 * length notes → length (full_report_of page sheets list images notes) < 2 ^ 64
full_report_few page sheets list images notes few_images most few =
    let a = page_line page in
    let k = sheets_line sheets in
    let p = shape_lines (length images) (shapes list.strokes list.areas) in
    let m = flat_map image_line images in
    let n = flat_map note_line notes in
    omega (arith, most, few, few_images, page_few page, sheets_few sheets, shapes_few (length images) (shapes list.strokes list.areas), all_images_few images, length-append a k, length-append (a ++ k) p, length-append ((a ++ k) ++ p) m, length-append (((a ++ k) ++ p) ++ m) n)
