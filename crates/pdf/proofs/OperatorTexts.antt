-- The content of a page is the text of its operators.
use Rattle.std.proofs.Common.{◌≡◌, ℕ, List, [], ◌∷◌, ◌++◌, Bool, true, false, cond, max, codes, decimal, refl, ap, sym, ◌∙◌, append_assoc, append-nil, Option, Some, None}
use Rattle.plot_page.specs.Segments.{Segment}
use Rattle.plot_page.specs.declared.colour.Colour.{Colour}
use Rattle.plot_page.specs.declared.page.Page.{Page}
use Rattle.plot_page.specs.declared.pens.PenSet.{PenSet}
use Rattle.plot_page.specs.declared.window.Window.{Window}
use Rattle.polygons.specs.declared.lines.Rule.{Rule}
use Rattle.polygons.specs.declared.lines.Rule.TheVariants.{OddCounts, Winding}
use Rattle.areas.specs.Shapes.{Shape, shapes}
use Rattle.areas.specs.declared.area.Area.{Area}
use Rattle.stroke_runs.specs.Drawn.{is_joined}
use Rattle.stroke_runs.specs.Runs.{shape_runs}
use Rattle.labels.specs.Labels.{LabelShape, LineShape}
use Rattle.stroke_runs.specs.Shown.{is_whole_page, is_shown}
use Rattle.pdf.specs.Contents.{chain_end, clip_operators, content_text, end_operators, fill_operators, labels_operators, line_operators, lines_operators, rest_operators, run_operators, runs_operators, start_operators, stroke_operators, text_operators, texts_operators}
use Rattle.pdf.specs.Units.{unit_of}
use Rattle.pdf.specs.Operators.{Operator, Clip, ClosePath, Layer, LineWidth, NoPaint, Rectangle, Save, StrokeColour, Scale, LineEnds, LineJoins, BeginText, Invisible, EndText, colour_text, fill_colour_text, operator_text, operators_text, place_text, width_text}
use Rattle.pdf.specs.RunTexts.{begin_text, chain_end_text, clip_text, end_text, fill_text, head_text, layer_text, line_text, rest_text, run_text, runs_text, shapes_text, start_text, stroke_text, window_text}

join : (xs ys : List Operator) → operators_text (xs ++ ys) ≡ operators_text xs ++ operators_text ys
join [] ys = refl
join (x ∷ xs) ys =
    ap (λ (z : List ℕ). operator_text x ++ z) (join xs ys) ∙ sym (append_assoc (operator_text x) (operators_text xs) (operators_text ys))

-- texts of two parts
both : (xs ys : List Operator) (a b : List ℕ) → operators_text xs ≡ a → operators_text ys ≡ b → operators_text (xs ++ ys) ≡ a ++ b
both xs ys a b p q = join xs ys ∙ ap (λ (z : List ℕ). z ++ operators_text ys) p ∙ ap (λ (z : List ℕ). a ++ z) q

of_layer : (pen : ℕ) → operators_text (Layer pen ∷ Save ∷ []) ≡ layer_text pen
of_layer pen = append_assoc (codes "/OC /P" ++ decimal pen) (codes " BDC\n") (codes "q\n")

of_window : (b : Bool) (w : Window) → operators_text (cond b [] (Rectangle w ∷ Clip ∷ NoPaint ∷ [])) ≡ cond b [] (window_text w)
of_window true w = refl
of_window false w = refl

of_set : (c : Colour) (width : ℕ) → operators_text (StrokeColour c ∷ LineWidth width ∷ []) ≡ colour_text c ++ width_text width
of_set c width = ap (λ (z : List ℕ). colour_text c ++ z) (append-nil (width_text width))

of_start : (page : Page) (s : Segment) → operators_text (start_operators page s) ≡ start_text page s
of_start page s =
    both ((Layer s.pen ∷ Save ∷ []) ++ clip_operators page s.window) (StrokeColour s.colour ∷ LineWidth (max 24 s.width) ∷ []) (layer_text s.pen ++ clip_text page s.window) _
    (both (Layer s.pen ∷ Save ∷ []) (clip_operators page s.window) (layer_text s.pen) (clip_text page s.window) (of_layer s.pen) (of_window (is_whole_page page s.window) s.window))
    (of_set s.colour (max 24 s.width))
    ∙ sym (append_assoc (layer_text s.pen ++ clip_text page s.window) (colour_text s.colour) (width_text (max 24 s.width)))

of_line : (s : Segment) → operators_text (line_operators s) ≡ line_text s
of_line s = append-nil (line_text s)

of_stroke : (s : Segment) → operators_text (stroke_operators s) ≡ stroke_text s
of_stroke s = ap (λ (z : List ℕ). (place_text s.ax s.ay ++ codes " m\n") ++ z) (append-nil (line_text s))

of_closing : (b : Bool) → operators_text (cond b (ClosePath ∷ []) []) ≡ cond b (codes "h\n") []
of_closing true = refl
of_closing false = refl

of_chain : (rule : Option Rule) (first last : Segment) → operators_text (chain_end rule first last) ≡ chain_end_text rule first last
of_chain None first last = refl
of_chain (Some rule) first last = of_closing (is_joined last first)

-- a stroke that goes on a chain, or that begins another one, and those after it
rest_step : (b : Bool) (rule : Option Rule) (first last s : Segment) (ss : List Segment)
    → operators_text (rest_operators rule first s ss) ≡ rest_text rule first s ss → operators_text (rest_operators rule s s ss) ≡ rest_text rule s s ss
    → operators_text (cond b (line_operators s ++ rest_operators rule first s ss) (chain_end rule first last ++ stroke_operators s ++ rest_operators rule s s ss))
    ≡ cond b (line_text s ++ rest_text rule first s ss) (chain_end_text rule first last ++ stroke_text s ++ rest_text rule s s ss)
rest_step true rule first last s ss p q = both (line_operators s) (rest_operators rule first s ss) (line_text s) (rest_text rule first s ss) (of_line s) p
rest_step false rule first last s ss p q =
    both (chain_end rule first last ++ stroke_operators s) (rest_operators rule s s ss) (chain_end_text rule first last ++ stroke_text s) (rest_text rule s s ss)
    (both (chain_end rule first last) (stroke_operators s) (chain_end_text rule first last) (stroke_text s) (of_chain rule first last) (of_stroke s)) q

of_rest : (rule : Option Rule) (first last : Segment) (ss : List Segment) → operators_text (rest_operators rule first last ss) ≡ rest_text rule first last ss
of_rest rule first last [] = of_chain rule first last
of_rest rule first last (s ∷ ss) = rest_step (is_joined last s) rule first last s ss (of_rest rule first s ss) (of_rest rule s s ss)

of_fill : (rule : Option Rule) (c : Colour) → operators_text (fill_operators rule c) ≡ fill_text rule c
of_fill None c = refl
of_fill (Some rule) c = append-nil (fill_colour_text c)

of_end : (rule : Option Rule) → operators_text (end_operators rule) ≡ end_text rule
of_end None = refl
of_end (Some OddCounts) = refl
of_end (Some Winding) = refl

of_run : (page : Page) (rule : Option Rule) (ss : List Segment) → operators_text (run_operators page rule ss) ≡ run_text page rule ss
of_run page rule [] = refl
of_run page rule (s ∷ ss) =
    let start = start_operators page s in
    let fill = fill_operators rule s.colour in
    let stroke = stroke_operators s in
    let rest = rest_operators rule s s ss in
    both (start ++ fill ++ stroke ++ rest) (end_operators rule) (begin_text page rule s ++ rest_text rule s s ss) (end_text rule)
    (both (start ++ fill ++ stroke) rest (begin_text page rule s) (rest_text rule s s ss)
    (both (start ++ fill) stroke (start_text page s ++ fill_text rule s.colour) (stroke_text s)
    (both start fill (start_text page s) (fill_text rule s.colour) (of_start page s) (of_fill rule s.colour)) (of_stroke s)) (of_rest rule s s ss)) (of_end rule)

of_runs : (page : Page) (rs : List Shape) → operators_text (runs_operators page rs) ≡ runs_text page rs
of_runs page [] = refl
of_runs page (run ∷ rs) =
    both (run_operators page run.rule run.strokes) (runs_operators page rs) (run_text page run.rule run.strokes) (runs_text page rs) (of_run page run.rule run.strokes) (of_runs page rs)

-- the shapes of a page, and its texts
pub of_content : (page : Page) (pens : PenSet) (strokes : List Segment) (areas : List Area) (labels : List LabelShape)
    → content_text page pens strokes areas labels ≡ shapes_text page pens strokes areas ++ operators_text (texts_operators pens strokes labels)
of_content page pens strokes areas labels =
    let rs = shape_runs pens (shapes strokes areas) in
    both ((Scale (unit_of page) ∷ LineEnds ∷ LineJoins ∷ []) ++ runs_operators page rs) (texts_operators pens strokes labels) (shapes_text page pens strokes areas) (operators_text (texts_operators pens strokes labels))
    (both (Scale (unit_of page) ∷ LineEnds ∷ LineJoins ∷ []) (runs_operators page rs) (head_text page) (runs_text page rs) refl (of_runs page rs)) refl

-- one line more
pub of_lines : (l : LineShape) (ls : List LineShape) → operators_text (lines_operators (l ∷ ls)) ≡ operators_text (text_operators l) ++ operators_text (lines_operators ls)
of_lines l ls = join (text_operators l) (lines_operators ls)

-- one label more
pub of_labels : (pens : PenSet) (strokes : List Segment) (l : LabelShape) (ls : List LabelShape)
    → operators_text (labels_operators pens strokes (l ∷ ls)) ≡ operators_text (labels_operators pens strokes (l ∷ [])) ++ operators_text (labels_operators pens strokes ls)
of_labels pens strokes l ls =
    join (cond (is_shown pens strokes l) (lines_operators l.lines) []) (labels_operators pens strokes ls)
    ∙ ap (λ (z : List Operator). operators_text z ++ operators_text (labels_operators pens strokes ls)) (sym (append-nil (cond (is_shown pens strokes l) (lines_operators l.lines) [])))

-- a label that is not shown, and one that is
pub of_label : (b : Bool) (lines : List LineShape) → operators_text (cond b (lines_operators lines) [] ++ []) ≡ cond b (operators_text (lines_operators lines)) []
of_label true lines = ap operators_text (append-nil (lines_operators lines))
of_label false lines = refl

-- the whole text, if a label is shown
pub of_texts : (os : List Operator) → operators_text ((BeginText ∷ Invisible ∷ []) ++ os ++ (EndText ∷ [])) ≡ (codes "BT\n3 Tr\n" ++ operators_text os) ++ codes "ET\n"
of_texts os = both ((BeginText ∷ Invisible ∷ []) ++ os) (EndText ∷ []) (codes "BT\n3 Tr\n" ++ operators_text os) (codes "ET\n") refl refl
