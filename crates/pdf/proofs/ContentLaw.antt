-- The bytes of a content, read back, are its operators.
use Rattle.std.proofs.Common.{◌≡◌, ℕ, zero, suc, ◌+◌, ◌*◌, ◌^◌, ◌<◌, ◌≤◌, ℤ, pos, neg_ℤ, nat_abs, int_lt, ◌-ℤ◌, max, ◌==◌, nat_lt, Bool, true, false, cond, List, [], ◌∷◌, ◌++◌, length, map, take, drop, Option, Some, None, is_some, refl, sym, subst, arith}
use Rattle.std.proofs.Math.Nat.{div-lt_iff_lt-mul}
use Rattle.std.proofs.lemmas.Bool.Decides.{nat_tests}
use Rattle.std.proofs.lemmas.Int.{ints}
use Rattle.std.proofs.lemmas.List.Elements.{All-head, All-tail}
use Rattle.std.specs.List.{All, list_any}
use Rattle.labels.specs.Labels.{IsLine, LabelShape, LineShape}
use Rattle.plot_page.specs.Segments.{Segment}
use Rattle.plot_page.specs.declared.page.Page.{Page}
use Rattle.plot_page.specs.declared.pens.PenSet.{PenSet}
use Rattle.polygons.specs.declared.lines.Rule.{Rule}
use Rattle.areas.specs.Shapes.{Shape, area_shape, shapes, shapes_after, stroke_shape}
use Rattle.areas.specs.declared.area.Area.{Area}
use Rattle.stroke_runs.proofs.RunLaws.{all_of}
use Rattle.stroke_runs.specs.Drawn.{begins_drawn, drawn_shapes, is_joined}
use Rattle.stroke_runs.specs.Laws.{joined}
use Rattle.stroke_runs.specs.Ranges.{IsInRange}
use Rattle.stroke_runs.specs.Runs.{runs_of, shape_runs_after, stroke_run}
use Rattle.stroke_runs.specs.Shown.{is_shown, is_whole_page}
use Rattle.pdf.specs.ContentReader.{read_content}
use Rattle.pdf.specs.Contents.{chain_end, clip_operators, content_operators, content_text, end_operators, fill_operators, labels_operators, line_operators, lines_operators, pieces_operators, rest_operators, run_operators, runs_operators, start_operators, stroke_operators, text_operators, texts_operators}
use Rattle.pdf.specs.Numbers.{nearest, rounded}
use Rattle.pdf.specs.Operators.{Operator, BeginText, Clip, ClosePath, EndText, Invisible, Layer, LineEnds, LineJoins, LineWidth, NoPaint, Rectangle, Save, Scale, StrokeColour, TextMatrix}
use Rattle.pdf.specs.Units.{unit_of}
use Rattle.pdf.specs.Ranges.{AreInRange}
use Rattle.pdf.specs.Texts.{Piece, byte_of, has_letters, has_text, matrix_of, pieces, row_of, with_byte, written}
use Rattle.pdf.proofs.ContentReads.{AllFit, AreBytes, IsSmall, text_read}

both_fit : (xs ys : List Operator) → AllFit xs → AllFit ys → AllFit (xs ++ ys)
both_fit [] ys h k = k
both_fit (x ∷ xs) ys h k = (h.0, both_fit xs ys h.1 k)

-- each of these strokes is in range
abbrev EachIn : List Segment → Type 0
EachIn [] = Unit {0}
EachIn (s ∷ ss) = IsInRange s × EachIn ss

each_in : (ss : List Segment) → All IsInRange ss → EachIn ss
each_in [] h = tt
each_in (s ∷ ss) h = (All-head IsInRange s ss h, each_in ss (All-tail IsInRange s ss h))

first_ones : (ss ts : List Segment) → EachIn (ss ++ ts) → EachIn ss
first_ones [] ts h = tt
first_ones (s ∷ ss) ts h = (h.0, first_ones ss ts h.1)

after_first : (ss ts : List Segment) → EachIn (ss ++ ts) → EachIn ts
after_first [] ts h = h
after_first (s ∷ ss) ts h = after_first ss ts h.1

both_in : (ss ts : List Segment) → EachIn ss → EachIn ts → EachIn (ss ++ ts)
both_in [] ts h k = k
both_in (s ∷ ss) ts h k = (h.0, both_in ss ts h.1 k)

taken_in : (k : ℕ) (ss : List Segment) → EachIn ss → EachIn (take k ss)
taken_in zero ss h = tt
taken_in (suc k) [] h = tt
taken_in (suc k) (s ∷ ss) h = (h.0, taken_in k ss h.1)

left_in : (k : ℕ) (ss : List Segment) → EachIn ss → EachIn (drop k ss)
left_in zero ss h = h
left_in (suc k) [] h = tt
left_in (suc k) (s ∷ ss) h = left_in k ss h.1

-- each stroke of these shapes is in range
abbrev AllIn : List Shape → Type 0
AllIn [] = Unit {0}
AllIn (s ∷ ss) = EachIn s.strokes × AllIn ss

all_both : (xs ys : List Shape) → AllIn xs → AllIn ys → AllIn (xs ++ ys)
all_both [] ys h k = k
all_both (x ∷ xs) ys h k = (h.0, all_both xs ys h.1 k)

strokes_in : (ss : List Segment) → EachIn ss → AllIn (map stroke_shape ss)
strokes_in [] h = tt
strokes_in (s ∷ ss) h = ((h.0, tt), strokes_in ss h.1)

shapes_in : (at : ℕ) (ss : List Segment) (areas : List Area) → EachIn ss → AllIn (shapes_after at ss areas)
shapes_in at ss [] h = strokes_in (drop at ss) (left_in at ss h)
shapes_in at ss (a ∷ bs) h =
    all_both (map stroke_shape (drop at (take a.first ss))) (area_shape ss a ∷ shapes_after a.end ss bs) (strokes_in (drop at (take a.first ss)) (left_in at (take a.first ss) (taken_in a.first ss h)))
    (left_in a.first (take a.end ss) (taken_in a.end ss h), shapes_in a.end ss bs h)

drawn_step : (b : Bool) (s : Shape) (ss : List Shape) → EachIn s.strokes → AllIn ss → AllIn (cond b (s ∷ ss) ss)
drawn_step true s ss h k = (h, k)
drawn_step false s ss h k = k

drawn_in : (pens : PenSet) (ss : List Shape) → AllIn ss → AllIn (drawn_shapes pens ss)
drawn_in pens [] h = tt
drawn_in pens (s ∷ ss) h = drawn_step (begins_drawn pens s.strokes) s (drawn_shapes pens ss) h.0 (drawn_in pens ss h.1)

runs_in : (rs : List (List Segment)) → EachIn (joined rs) → AllIn (map stroke_run rs)
runs_in [] h = tt
runs_in (run ∷ rs) h = (first_ones run (joined rs) h, runs_in rs (after_first run (joined rs) h))

strokes_runs_in : (ss : List Segment) → EachIn ss → AllIn (map stroke_run (runs_of ss))
strokes_runs_in ss h =
    let P : List Segment → Type 0 = λ ts. EachIn ts in
    runs_in (runs_of ss) (subst P (sym (all_of ss)) h)

run_step : (b : Bool) (s : Shape) (before : List Segment) (area others : List Shape) → EachIn before → EachIn s.strokes → AllIn area → AllIn others
    → AllIn (cond b (map stroke_run (runs_of before) ++ s ∷ area) others)
run_step true s before area others h k p q = all_both (map stroke_run (runs_of before)) (s ∷ area) (strokes_runs_in before h) (k, p)
run_step false s before area others h k p q = q

all_runs_in : (before : List Segment) (ss : List Shape) → EachIn before → AllIn ss → AllIn (shape_runs_after before ss)
all_runs_in before [] h k = strokes_runs_in before h
all_runs_in before (s ∷ ss) h k =
    run_step (is_some s.rule) s before (shape_runs_after [] ss) (shape_runs_after (before ++ s.strokes) ss) h k.0 (all_runs_in [] ss tt k.1)
    (all_runs_in (before ++ s.strokes) ss (both_in before s.strokes h k.0) k.1)

small : (z : ℤ) → nat_abs z ≤ 134217712 → IsSmall z
small z h = omega (arith, h)

line_fits : (s : Segment) → IsInRange s → AllFit (line_operators s)
line_fits s h = ((small s.bx h.bx, small s.by h.by), tt)

stroke_fits : (s : Segment) → IsInRange s → AllFit (stroke_operators s)
stroke_fits s h = ((small s.ax h.ax, small s.ay h.ay), line_fits s h)

closing_fits : (b : Bool) → AllFit (cond b (ClosePath ∷ []) [])
closing_fits true = (tt, tt)
closing_fits false = tt

chain_fits : (rule : Option Rule) (first last : Segment) → AllFit (chain_end rule first last)
chain_fits None first last = tt
chain_fits (Some rule) first last = closing_fits (is_joined last first)

rest_step : (b : Bool) (rule : Option Rule) (first last s : Segment) (ss : List Segment) → IsInRange s
    → AllFit (rest_operators rule first s ss) → AllFit (rest_operators rule s s ss)
    → AllFit (cond b (line_operators s ++ rest_operators rule first s ss) (chain_end rule first last ++ stroke_operators s ++ rest_operators rule s s ss))
rest_step true rule first last s ss h p q = both_fit (line_operators s) (rest_operators rule first s ss) (line_fits s h) p
rest_step false rule first last s ss h p q =
    both_fit (chain_end rule first last ++ stroke_operators s) (rest_operators rule s s ss)
    (both_fit (chain_end rule first last) (stroke_operators s) (chain_fits rule first last) (stroke_fits s h)) q

rest_fits : (rule : Option Rule) (first last : Segment) (ss : List Segment) → EachIn ss → AllFit (rest_operators rule first last ss)
rest_fits rule first last [] h = chain_fits rule first last
rest_fits rule first last (s ∷ ss) h = rest_step (is_joined last s) rule first last s ss h.0 (rest_fits rule first s ss h.1) (rest_fits rule s s ss h.1)

clip_fits : (b : Bool) (s : Segment) → IsInRange s → AllFit (cond b [] (Rectangle s.window ∷ Clip ∷ NoPaint ∷ []))
clip_fits true s h = tt
clip_fits false s h = ((small s.window.x0 h.x0, small s.window.y0 h.y0, small s.window.x1 h.x1, small s.window.y1 h.y1), (tt, (tt, tt)))

start_fits : (page : Page) (s : Segment) → IsInRange s → AllFit (start_operators page s)
start_fits page s h =
    let pen : s.pen < 2 ^ 62 = omega (arith, h.pen) in
    let width : max 24 s.width < 2 ^ 62 = omega (arith, h.width) in
    both_fit ((Layer s.pen ∷ Save ∷ []) ++ clip_operators page s.window) (StrokeColour s.colour ∷ LineWidth (max 24 s.width) ∷ [])
    (both_fit (Layer s.pen ∷ Save ∷ []) (clip_operators page s.window) (pen, (tt, tt)) (clip_fits (is_whole_page page s.window) s h))
    ((h.red, h.green, h.blue), (width, tt))

fill_fits : (rule : Option Rule) (s : Segment) → IsInRange s → AllFit (fill_operators rule s.colour)
fill_fits None s h = tt
fill_fits (Some rule) s h = ((h.red, h.green, h.blue), tt)

end_fits : (rule : Option Rule) → AllFit (end_operators rule)
end_fits None = (tt, (tt, (tt, tt)))
end_fits (Some rule) = (tt, (tt, (tt, tt)))

run_fits : (page : Page) (rule : Option Rule) (ss : List Segment) → EachIn ss → AllFit (run_operators page rule ss)
run_fits page rule [] h = tt
run_fits page rule (s ∷ ss) h =
    let start = start_operators page s in
    let fill = fill_operators rule s.colour in
    let stroke = stroke_operators s in
    let rest = rest_operators rule s s ss in
    both_fit (start ++ fill ++ stroke ++ rest) (end_operators rule)
    (both_fit (start ++ fill ++ stroke) rest
    (both_fit (start ++ fill) stroke (both_fit start fill (start_fits page s h.0) (fill_fits rule s h.0)) (stroke_fits s h.0)) (rest_fits rule s s ss h.1)) (end_fits rule)

runs_fit : (page : Page) (rs : List Shape) → AllIn rs → AllFit (runs_operators page rs)
runs_fit page [] h = tt
runs_fit page (run ∷ rs) h =
    both_fit (run_operators page run.rule run.strokes) (runs_operators page rs) (run_fits page run.rule run.strokes h.0) (runs_fit page rs h.1)

-- letters: a row and a byte
written_step : (b : Bool) (n : ℕ) → nat_lt n 65536 ≡ b → cond b n 65533 < 65536
written_step true n e = grind (arith, nat_tests, e)
written_step false n e = omega arith

written_in : (n : ℕ) → written n < 65536
written_in n = written_step (nat_lt n 65536) n refl

abbrev PieceFits : Piece → Type 0
PieceFits p = (p.row < 2 ^ 62) × AreBytes p.bytes

abbrev PiecesFit : List Piece → Type 0
PiecesFit [] = Unit {0}
PiecesFit (p ∷ ps) = PieceFits p × PiecesFit ps

byte_step : (b : Bool) (row byte : ℕ) (p : Piece) (ps : List Piece) → row < 2 ^ 62 → byte < 256 → PiecesFit (p ∷ ps) → PiecesFit (cond b (record { row = row; bytes = byte ∷ p.bytes } ∷ ps) (record { row = row; bytes = byte ∷ [] } ∷ p ∷ ps))
byte_step true row byte p ps h k m = ((h, (k, m.0.1)), m.1)
byte_step false row byte p ps h k m = ((h, (k, tt)), m)

more_fit : (row byte : ℕ) (ps : List Piece) → row < 2 ^ 62 → byte < 256 → PiecesFit ps → PiecesFit (with_byte row byte ps)
more_fit row byte [] h k m = ((h, (k, tt)), tt)
more_fit row byte (p ∷ ps) h k m = byte_step (row == p.row) row byte p ps h k m

pieces_fit : (points : List ℕ) → PiecesFit (pieces points)
pieces_fit [] = tt
pieces_fit (n ∷ ns) =
    let in_16 = written_in n in
    more_fit (row_of n) (byte_of n) (pieces ns) (omega (arith, in_16)) (omega arith) (pieces_fit ns)

piece_operators_fit : (ps : List Piece) → PiecesFit ps → AllFit (pieces_operators ps)
piece_operators_fit [] h = tt
piece_operators_fit (p ∷ ps) h = (h.0.0, (h.0.1, piece_operators_fit ps h.1))

-- the numbers of a matrix
nearest_small : (n d : ℕ) → 1 ≤ d → nearest n d < n + 2
nearest_small n zero h = absurd (omega (arith, h))
nearest_small n (suc e) h =
    let some : 0 < 2 * suc e = omega arith in
    let below : 2 * n + suc e < (n + 2) * (2 * suc e) = omega arith in
    (div-lt_iff_lt-mul some).1 below

sign_step : (b : Bool) (n : ℕ) → n < 2 ^ 62 → IsSmall (cond b (neg_ℤ (pos n)) (pos n))
sign_step true n h = omega (arith, ints, h)
sign_step false n h = omega (arith, h)

rounded_small : (times : ℕ) (z : ℤ) (d : ℕ) → 1 ≤ d → times * nat_abs z < 2 ^ 61 → IsSmall (rounded times z d)
rounded_small times z d h k =
    let near = nearest_small (times * nat_abs z) d h in
    sign_step (int_lt z (pos 0)) (nearest (times * nat_abs z) d) (omega (arith, near, k))

less : (a b : ℤ) → nat_abs a ≤ 134217712 → nat_abs b ≤ 134217712 → nat_abs (a -ℤ b) ≤ 268435456
less a b h k = omega (arith, ints, h, k)

text_step : (b : Bool) (l : LineShape) → has_letters l ≡ b → IsLine l → AllFit (cond b (TextMatrix (matrix_of l) l.start.x l.start.y ∷ pieces_operators (pieces l.text)) [])
text_step true l e h =
    let some : 1 ≤ 3 * length l.text = grind (arith, nat_tests, e) in
    let ax = less l.end.x l.start.x h.end_in.x_in h.start_in.x_in in
    let ay = less l.end.y l.start.y h.end_in.y_in h.start_in.y_in in
    let tx = less l.top.x l.start.x h.top_in.x_in h.start_in.x_in in
    let ty = less l.top.y l.start.y h.top_in.y_in h.start_in.y_in in
    let a = rounded_small 5000 (l.end.x -ℤ l.start.x) (3 * length l.text) some (omega (arith, ax)) in
    let b = rounded_small 5000 (l.end.y -ℤ l.start.y) (3 * length l.text) some (omega (arith, ay)) in
    let c = rounded_small 16000 (l.top.x -ℤ l.start.x) 9 (omega arith) (omega (arith, tx)) in
    let d = rounded_small 16000 (l.top.y -ℤ l.start.y) 9 (omega arith) (omega (arith, ty)) in
    ((a, b, c, d, small l.start.x h.start_in.x_in, small l.start.y h.start_in.y_in), piece_operators_fit (pieces l.text) (pieces_fit l.text))
text_step false l e h = tt

lines_fit : (ls : List LineShape) → All IsLine ls → AllFit (lines_operators ls)
lines_fit [] h = tt
lines_fit (l ∷ ls) h = both_fit (text_operators l) (lines_operators ls) (text_step (has_letters l) l refl (All-head IsLine l ls h)) (lines_fit ls (All-tail IsLine l ls h))

label_step : (b : Bool) (l : LabelShape) → AreInRange l → AllFit (cond b (lines_operators l.lines) [])
label_step true l h = lines_fit l.lines h
label_step false l h = tt

labels_fit : (pens : PenSet) (strokes : List Segment) (ls : List LabelShape) → All AreInRange ls → AllFit (labels_operators pens strokes ls)
labels_fit pens strokes [] h = tt
labels_fit pens strokes (l ∷ ls) h =
    both_fit (cond (is_shown pens strokes l) (lines_operators l.lines) []) (labels_operators pens strokes ls) (label_step (is_shown pens strokes l) l (All-head AreInRange l ls h)) (labels_fit pens strokes ls (All-tail AreInRange l ls h))

texts_step : (b : Bool) (pens : PenSet) (strokes : List Segment) (ls : List LabelShape) → All AreInRange ls → AllFit (cond b ((BeginText ∷ Invisible ∷ []) ++ labels_operators pens strokes ls ++ (EndText ∷ [])) [])
texts_step true pens strokes ls h =
    both_fit ((BeginText ∷ Invisible ∷ []) ++ labels_operators pens strokes ls) (EndText ∷ []) (tt, (tt, labels_fit pens strokes ls h)) (tt, tt)
texts_step false pens strokes ls h = tt

pub bytes_read : (page : Page) (pens : PenSet) (strokes : List Segment) (areas : List Area) (labels : List LabelShape) → All IsInRange strokes → All AreInRange labels
    → read_content (content_text page pens strokes areas labels) ≡ Some (content_operators page pens strokes areas labels)
bytes_read page pens strokes areas labels h k =
    let ss = drawn_shapes pens (shapes strokes areas) in
    let lines = runs_operators page (shape_runs_after [] ss) in
    let texts = texts_operators pens strokes labels in
    let lines_in = runs_fit page (shape_runs_after [] ss) (all_runs_in [] ss tt (drawn_in pens (shapes strokes areas) (shapes_in 0 strokes areas (each_in strokes h)))) in
    let texts_in = texts_step (list_any (has_text pens strokes) labels) pens strokes labels k in
    text_read (content_operators page pens strokes areas labels) (both_fit ((Scale (unit_of page) ∷ LineEnds ∷ LineJoins ∷ []) ++ lines) texts (tt, (tt, (tt, lines_in))) texts_in)
