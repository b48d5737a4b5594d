-- Reading the operators of a content finds the texts of its labels.
use Rattle.std.proofs.Common.{◌≡◌, ℕ, ◌+◌, ◌*◌, ◌==◌, ◌&&◌, List, [], ◌∷◌, ◌++◌, map, filter, Bool, true, false, cond, max, refl, ap, sym, ◌∙◌, append_assoc, append-nil, subst, Option, Some, None}
use Rattle.std.specs.List.{list_any}
use Rattle.std.proofs.Math.Nat.{div-add-mod}
use Rattle.std.proofs.lemmas.Bool.{or_parts}
use Rattle.std.proofs.lemmas.Bool.Decides.{Decides-eqb}
use Rattle.std.proofs.lemmas.List.{map-append}
use Rattle.labels.specs.Labels.{LabelShape, LineShape}
use Rattle.plot_page.specs.Segments.{Segment}
use Rattle.plot_page.specs.declared.colour.Colour.{Colour}
use Rattle.plot_page.specs.declared.page.Page.{Page}
use Rattle.plot_page.specs.declared.pens.PenSet.{PenSet}
use Rattle.plot_page.specs.declared.window.Window.{Window}
use Rattle.polygons.specs.declared.lines.Rule.{Rule}
use Rattle.areas.specs.Shapes.{Shape, shapes}
use Rattle.areas.specs.declared.area.Area.{Area}
use Rattle.stroke_runs.specs.Drawn.{is_joined}
use Rattle.stroke_runs.specs.Runs.{shape_runs}
use Rattle.stroke_runs.specs.Shown.{is_shown, is_whole_page}
use Rattle.pdf.specs.Contents.{chain_end, clip_operators, content_operators, end_operators, fill_operators, labels_operators, line_operators, lines_operators, pieces_operators, rest_operators, run_operators, runs_operators, start_operators, stroke_operators, text_operators, texts_operators}
use Rattle.pdf.specs.Operators.{Operator, Layer, LineWidth, Rectangle, Clip, ClosePath, NoPaint, Save, StrokeColour, BeginText, Invisible, EndText, TextMatrix}
use Rattle.pdf.specs.TextReadings.{PlacedText, letters_shown, placed, texts_from, texts_of}
use Rattle.pdf.specs.Texts.{Piece, byte_of, has_letters, has_text, matrix_of, pieces, row_of, shown_lines, with_byte, written}

-- operators that place and show no text
abbrev Silent : List Operator → Type 0
Silent os = (row : ℕ) (others : List Operator) → texts_from row (os ++ others) ≡ texts_from row others

silent_both : (xs ys : List Operator) → Silent xs → Silent ys → Silent (xs ++ ys)
silent_both xs ys p q = λ row others. ap (texts_from row) (append_assoc xs ys others) ∙ p row (ys ++ others) ∙ q row others

silent_closing : (b : Bool) → Silent (cond b (ClosePath ∷ []) [])
silent_closing true = λ row others. refl
silent_closing false = λ row others. refl

silent_chain : (rule : Option Rule) (first last : Segment) → Silent (chain_end rule first last)
silent_chain None first last = λ row others. refl
silent_chain (Some rule) first last = silent_closing (is_joined last first)

silent_step : (b : Bool) (rule : Option Rule) (first last s : Segment) (ss : List Segment) → Silent (rest_operators rule first s ss) → Silent (rest_operators rule s s ss)
    → Silent (cond b (line_operators s ++ rest_operators rule first s ss) (chain_end rule first last ++ stroke_operators s ++ rest_operators rule s s ss))
silent_step true rule first last s ss p q = silent_both (line_operators s) (rest_operators rule first s ss) (λ row others. refl) p
silent_step false rule first last s ss p q =
    silent_both (chain_end rule first last ++ stroke_operators s) (rest_operators rule s s ss)
    (silent_both (chain_end rule first last) (stroke_operators s) (silent_chain rule first last) (λ row others. refl)) q

silent_rest : (rule : Option Rule) (first last : Segment) (ss : List Segment) → Silent (rest_operators rule first last ss)
silent_rest rule first last [] = silent_chain rule first last
silent_rest rule first last (s ∷ ss) = silent_step (is_joined last s) rule first last s ss (silent_rest rule first s ss) (silent_rest rule s s ss)

silent_fill : (rule : Option Rule) (c : Colour) → Silent (fill_operators rule c)
silent_fill None c = λ row others. refl
silent_fill (Some rule) c = λ row others. refl

silent_end : (rule : Option Rule) → Silent (end_operators rule)
silent_end None = λ row others. refl
silent_end (Some rule) = λ row others. refl

silent_clip : (b : Bool) (w : Window) → Silent (cond b [] (Rectangle w ∷ Clip ∷ NoPaint ∷ []))
silent_clip true w = λ row others. refl
silent_clip false w = λ row others. refl

silent_start : (page : Page) (s : Segment) → Silent (start_operators page s)
silent_start page s =
    silent_both ((Layer s.pen ∷ Save ∷ []) ++ clip_operators page s.window) (StrokeColour s.colour ∷ LineWidth (max 24 s.width) ∷ [])
    (silent_both (Layer s.pen ∷ Save ∷ []) (clip_operators page s.window) (λ row others. refl) (silent_clip (is_whole_page page s.window) s.window)) (λ row others. refl)

silent_run : (page : Page) (rule : Option Rule) (ss : List Segment) → Silent (run_operators page rule ss)
silent_run page rule [] = λ row others. refl
silent_run page rule (s ∷ ss) =
    let start = start_operators page s in
    let fill = fill_operators rule s.colour in
    let stroke = stroke_operators s in
    let rest = rest_operators rule s s ss in
    silent_both (start ++ fill ++ stroke ++ rest) (end_operators rule)
    (silent_both (start ++ fill ++ stroke) rest
    (silent_both (start ++ fill) stroke (silent_both start fill (silent_start page s) (silent_fill rule s.colour)) (λ row others. refl)) (silent_rest rule s s ss)) (silent_end rule)

silent_runs : (page : Page) (rs : List Shape) → Silent (runs_operators page rs)
silent_runs page [] = λ row others. refl
silent_runs page (run ∷ rs) =
    silent_both (run_operators page run.rule run.strokes) (runs_operators page rs) (silent_run page run.rule run.strokes) (silent_runs page rs)

-- the letters of a piece
abbrev of_row : ℕ → List ℕ → List ℕ
of_row row bytes = map (λ byte. 256 * row + byte) bytes

-- one letter before pieces
begun : (b : Bool) (row other byte : ℕ) (bytes : List ℕ) (ps : List Piece) (from : ℕ) (others : List Operator) → (row == other) ≡ b
    → letters_shown from (pieces_operators (cond b (record { row = row; bytes = byte ∷ bytes } ∷ ps) (record { row = row; bytes = byte ∷ [] } ∷ record { row = other; bytes = bytes } ∷ ps)) ++ others)
    ≡ (256 * row + byte) ∷ (of_row other bytes ++ letters_shown other (pieces_operators ps ++ others))
begun true row other byte bytes ps from others h =
    ap (λ (k : ℕ). (256 * row + byte) ∷ (of_row k bytes ++ letters_shown k (pieces_operators ps ++ others))) ((Decides-eqb row other).0 h)
begun false row other byte bytes ps from others h = refl

letter_before : (row byte : ℕ) (ps : List Piece) (from : ℕ) (others : List Operator)
    → letters_shown from (pieces_operators (with_byte row byte ps) ++ others) ≡ (256 * row + byte) ∷ letters_shown row (pieces_operators ps ++ others)
letter_before row byte [] from others = refl
letter_before row byte (p ∷ ps) from others = begun (row == p.row) row p.row byte p.bytes ps from others refl

-- the letters of a line, after which another text is placed, or none
letters_read : (points : List ℕ) (from : ℕ) (others : List Operator) → ((row : ℕ) → letters_shown row others ≡ [])
    → letters_shown from (pieces_operators (pieces points) ++ others) ≡ map written points
letters_read [] from others none = none from
letters_read (point ∷ points) from others none =
    letter_before (row_of point) (byte_of point) (pieces points) from others
    ∙ ap (λ (k : ℕ). k ∷ letters_shown (row_of point) (pieces_operators (pieces points) ++ others)) (div-add-mod (written point) 256)
    ∙ ap (λ (zs : List ℕ). written point ∷ zs) (letters_read points (row_of point) others none)

-- pieces place no text
pieces_on : (ps : List Piece) (from : ℕ) (others : List Operator) (texts : List PlacedText) → ((row : ℕ) → texts_from row others ≡ texts)
    → texts_from from (pieces_operators ps ++ others) ≡ texts
pieces_on [] from others texts h = h from
pieces_on (p ∷ ps) from others texts h = pieces_on ps p.row others texts h

-- these operators show these texts, and no letters before them
abbrev Shows : List Operator → List PlacedText → Type 0
Shows os texts = ((row : ℕ) → texts_from row os ≡ texts) × ((row : ℕ) → letters_shown row os ≡ [])

text_shows : (b : Bool) (l : LineShape) (others : List Operator) (texts : List PlacedText) → Shows others texts
    → Shows (cond b (TextMatrix (matrix_of l) l.start.x l.start.y ∷ pieces_operators (pieces l.text)) [] ++ others) (cond b (placed l ∷ texts) texts)
text_shows true l others texts h = (
  λ row. ap (λ (zs : List ℕ). let t : PlacedText = record { text = zs; matrix = matrix_of l; x = l.start.x; y = l.start.y } in t ∷ texts_from row (pieces_operators (pieces l.text) ++ others))
      (letters_read l.text row others h.1)
      ∙ ap (λ (zs : List PlacedText). placed l ∷ zs) (pieces_on (pieces l.text) row others texts h.0),
  λ row. refl,
)
text_shows false l others texts h = h

shows_as : (os ps : List Operator) (xs ys : List PlacedText) → os ≡ ps → xs ≡ ys → Shows os xs → Shows ps ys
shows_as os ps xs ys p q h =
    let P : List Operator → Type 0 = λ z. Shows z xs in
    let Q : List PlacedText → Type 0 = λ z. Shows ps z in
    subst Q q (subst P p h)

kept_text : (b : Bool) (l : LineShape) (ls : List LineShape) (texts : List PlacedText)
    → cond b (placed l ∷ (map placed ls ++ texts)) (map placed ls ++ texts) ≡ map placed (cond b (l ∷ ls) ls) ++ texts
kept_text true l ls texts = refl
kept_text false l ls texts = refl

lines_show : (ls : List LineShape) (others : List Operator) (texts : List PlacedText) → Shows others texts
    → Shows (lines_operators ls ++ others) (map placed (filter has_letters ls) ++ texts)
lines_show [] others texts h = h
lines_show (l ∷ ls) others texts h =
    let rest = map placed (filter has_letters ls) ++ texts in
    shows_as (text_operators l ++ (lines_operators ls ++ others)) (lines_operators (l ∷ ls) ++ others) (cond (has_letters l) (placed l ∷ rest) rest) (map placed (filter has_letters (l ∷ ls)) ++ texts)
    (sym (append_assoc (text_operators l) (lines_operators ls) others)) (kept_text (has_letters l) l (filter has_letters ls) texts)
    (text_shows (has_letters l) l (lines_operators ls ++ others) rest (lines_show ls others texts h))

label_shows : (b : Bool) (ls : List LineShape) (others : List Operator) (texts : List PlacedText) → Shows others texts
    → Shows (cond b (lines_operators ls) [] ++ others) (map placed (cond b (filter has_letters ls) []) ++ texts)
label_shows true ls others texts h = lines_show ls others texts h
label_shows false ls others texts h = h

labels_show : (pens : PenSet) (strokes : List Segment) (ls : List LabelShape) (others : List Operator) (texts : List PlacedText) → Shows others texts
    → Shows (labels_operators pens strokes ls ++ others) (map placed (shown_lines pens strokes ls) ++ texts)
labels_show pens strokes [] others texts h = h
labels_show pens strokes (l ∷ ls) others texts h =
    let shown = is_shown pens strokes l in
    let first = cond shown (filter has_letters l.lines) [] in
    let rest = shown_lines pens strokes ls in
    shows_as (cond shown (lines_operators l.lines) [] ++ (labels_operators pens strokes ls ++ others)) (labels_operators pens strokes (l ∷ ls) ++ others)
    (map placed first ++ (map placed rest ++ texts)) (map placed (first ++ rest) ++ texts)
    (sym (append_assoc (cond shown (lines_operators l.lines) []) (labels_operators pens strokes ls) others))
    (sym (append_assoc (map placed first) (map placed rest) texts) ∙ ap (λ (z : List PlacedText). z ++ texts) (sym (map-append placed first rest)))
    (label_shows shown l.lines (labels_operators pens strokes ls ++ others) (map placed rest ++ texts) (labels_show pens strokes ls others texts h))

-- without a label that is shown and has a letter there is no line
kept_none : (b : Bool) (l : LineShape) (ls : List LineShape) → b ≡ false → filter has_letters ls ≡ [] → cond b (l ∷ filter has_letters ls) (filter has_letters ls) ≡ []
kept_none true l ls h none = absurd (cc)
kept_none false l ls h none = none

none_kept : (ls : List LineShape) → list_any has_letters ls ≡ false → filter has_letters ls ≡ []
none_kept [] h = refl
none_kept (l ∷ ls) h =
    let parts = or_parts (has_letters l) (list_any has_letters ls) h in
    kept_none (has_letters l) l ls parts.0 (none_kept ls parts.1)

label_none : (b : Bool) (ls : List LineShape) → (b && list_any has_letters ls) ≡ false → cond b (filter has_letters ls) [] ≡ []
label_none true ls h = none_kept ls h
label_none false ls h = refl

none_shown : (pens : PenSet) (strokes : List Segment) (ls : List LabelShape) → list_any (has_text pens strokes) ls ≡ false → shown_lines pens strokes ls ≡ []
none_shown pens strokes [] h = refl
none_shown pens strokes (l ∷ ls) h =
    let parts = or_parts (has_text pens strokes l) (list_any (has_text pens strokes) ls) h in
    ap (λ (z : List LineShape). z ++ shown_lines pens strokes ls) (label_none (is_shown pens strokes l) l.lines parts.0) ∙ none_shown pens strokes ls parts.1

texts_shown : (b : Bool) (pens : PenSet) (strokes : List Segment) (ls : List LabelShape) → list_any (has_text pens strokes) ls ≡ b
    → texts_from 0 (cond b ((BeginText ∷ Invisible ∷ []) ++ labels_operators pens strokes ls ++ (EndText ∷ [])) []) ≡ map placed (shown_lines pens strokes ls)
texts_shown true pens strokes ls h =
    (labels_show pens strokes ls (EndText ∷ []) [] (λ row. refl, λ row. refl)).0 0 ∙ append-nil (map placed (shown_lines pens strokes ls))
texts_shown false pens strokes ls h = ap (map placed) (sym (none_shown pens strokes ls h))

pub content_texts : (page : Page) (pens : PenSet) (strokes : List Segment) (areas : List Area) (labels : List LabelShape)
    → texts_of (content_operators page pens strokes areas labels) ≡ map placed (shown_lines pens strokes labels)
content_texts page pens strokes areas labels =
    silent_runs page (shape_runs pens (shapes strokes areas)) 0 (texts_operators pens strokes labels) ∙ texts_shown (list_any (has_text pens strokes) labels) pens strokes labels refl
