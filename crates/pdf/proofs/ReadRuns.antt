-- Reading the operators of runs gives their shapes.
use Rattle.std.proofs.Common.{◌≡◌, ℕ, ℤ, List, [], ◌∷◌, ◌++◌, map, Bool, true, false, cond, max, ◌&&◌, ◌==◌, refl, ap, sym, ◌∙◌, append_assoc, append-nil, pos, Option, Some, None, flat_map, is_some}
use Rattle.std.specs.Ordering.{int_eq}
use Rattle.std.proofs.lemmas.Bool.{and_parts}
use Rattle.std.proofs.lemmas.List.{map-append}
use Rattle.std.proofs.lemmas.Bool.Decides.{Decides-eqb, Decides-int_eq}
use Rattle.plot_page.specs.Segments.{Segment}
use Rattle.plot_page.specs.declared.colour.Colour.{Colour}
use Rattle.plot_page.specs.declared.page.Page.{Page}
use Rattle.plot_page.specs.declared.pens.PenSet.{PenSet}
use Rattle.plot_page.specs.declared.window.Window.{Window}
use Rattle.polygons.specs.declared.lines.Rule.{Rule}
use Rattle.areas.specs.Shapes.{Shape, shapes, stroke_shape}
use Rattle.areas.specs.declared.area.Area.{Area}
use Rattle.stroke_runs.specs.Drawn.{begins_drawn, drawn, drawn_shapes, is_alike, is_joined, is_same_colour, is_same_window}
use Rattle.stroke_runs.specs.Runs.{runs_of, shape_runs, shape_runs_after, stroke_run}
use Rattle.stroke_runs.specs.Laws.{AreAlike, AreRuns, split}
use Rattle.stroke_runs.proofs.RunLaws.{alike_of}
use Rattle.stroke_runs.proofs.ShapeLaws.{all_shapes, drawn_strokes}
use Rattle.labels.specs.Labels.{LabelShape, LineShape}
use Rattle.std.specs.List.{list_any}
use Rattle.stroke_runs.specs.Shown.{drawn_as, is_shown, shown_as_first, whole_page, widened}
use Rattle.pdf.specs.Contents.{chain_end, content_operators, end_operators, fill_operators, labels_operators, line_operators, lines_operators, pieces_operators, rest_operators, run_operators, runs_operators, start_operators, stroke_operators, text_operators, texts_operators}
use Rattle.pdf.specs.Units.{unit_of}
use Rattle.pdf.specs.Operators.{Operator, Layer, LineWidth, Rectangle, Clip, ClosePath, NoPaint, Save, StrokeColour, Scale, LineEnds, LineJoins, BeginText, Invisible, EndText, TextMatrix}
use Rattle.pdf.specs.Readings.{Graphics, Line, Painted, Reading, after, black, fill_by, line_painted, painted_line, read, shape_painted, start_of}
use Rattle.pdf.specs.Texts.{Piece, has_letters, has_text, matrix_of, pieces}
use Rattle.pdf.proofs.Contents.{AreBegun, are_begun}

read_join : (r : Reading) (xs ys : List Operator) → read r (xs ++ ys) ≡ read (read r xs) ys
read_join r [] ys = refl
read_join r (x ∷ xs) ys = read_join (after r x) xs ys

abbrev reading : ℕ → Graphics → List Graphics → Window → ℤ → ℤ → ℤ → ℤ → List Line → List Painted → Reading
reading pen set saved rectangle start_x start_y x y lines painted =
    record { pen = pen; set = set; saved = saved; rectangle = rectangle; start_x = start_x; start_y = start_y; x = x; y = y; lines = lines; painted = painted }

-- what is set at the start of a page
abbrev plain : Page → Graphics
plain page = record { colour = black; fill = black; width = 1; window = whole_page page }

-- how a stroke is drawn, with this colour inside lines, and its line
abbrev graphics_of : Colour → Segment → Graphics
graphics_of fill s = record { colour = s.colour; fill = fill; width = max 24 s.width; window = s.window }

abbrev line_of : Segment → Line
line_of s = record { ax = s.ax; ay = s.ay; bx = s.bx; by = s.by }

-- after the last stroke of a chain
abbrev along : ℕ → Graphics → List Graphics → Window → Segment → Segment → List Line → List Painted → Reading
along pen set saved w first last lines painted = reading pen set saved w first.ax first.ay last.bx last.by lines painted

joined_parts : (last s : Segment) → is_joined last s ≡ true → (s.ax ≡ last.bx) × (s.ay ≡ last.by)
joined_parts last s h =
    let both = and_parts (int_eq s.ax last.bx) (int_eq s.ay last.by) h in
    ((Decides-int_eq s.ax last.bx).0 both.0, (Decides-int_eq s.ay last.by).0 both.1)

more_lines : (lines : List Line) (a b : Line) (others : List Line) → a ≡ b → (lines ++ a ∷ []) ++ others ≡ lines ++ b ∷ others
more_lines lines a b others is = append_assoc lines (a ∷ []) others ∙ ap (λ (z : Line). lines ++ z ∷ others) is

same_line : (last s : Segment) → is_joined last s ≡ true → record { ax = last.bx; ay = last.by; bx = s.bx; by = s.by } ≡ line_of s
same_line last s h =
    let both = joined_parts last s h in
    let first : record { ax = last.bx; ay = last.by; bx = s.bx; by = s.by } ≡ record { ax = s.ax; ay = last.by; bx = s.bx; by = s.by } =
    ap (λ (z : ℤ). let line : Line = record { ax = z; ay = last.by; bx = s.bx; by = s.by } in line) (sym both.0) in
    first ∙ ap (λ (z : ℤ). let line : Line = record { ax = s.ax; ay = z; bx = s.bx; by = s.by } in line) (sym both.1)

-- a path has these lines
abbrev Drawn : ℕ → Graphics → List Graphics → Window → List Line → List Painted → Reading → Type 0
Drawn pen set saved w lines painted r =
    (start_x : ℤ) × (start_y : ℤ) × (x : ℤ) × (y : ℤ) × (r ≡ reading pen set saved w start_x start_y x y lines painted)

lines_as : (pen : ℕ) (set : Graphics) (saved : List Graphics) (w : Window) (lines others : List Line) (painted : List Painted) (r q : Reading)
    → r ≡ q → lines ≡ others → Drawn pen set saved w lines painted q → Drawn pen set saved w others painted r
lines_as pen set saved w lines others painted r q is same d = (
  d.0,
  d.1,
  d.2,
  d.3,
  is ∙ d.4 ∙ ap (λ (k : List Line). reading pen set saved w d.0 d.1 d.2 d.3 k painted) same,
)

-- where a chain is closed it leads back, so that no line is drawn
closing_read : (b : Bool) (pen : ℕ) (set : Graphics) (saved : List Graphics) (w : Window) (first last : Segment) (lines : List Line) (painted : List Painted)
    → is_joined last first ≡ b
    → read (along pen set saved w first last lines painted) (cond b (ClosePath ∷ []) []) ≡ along pen set saved w first last lines painted
closing_read true pen set saved w first last lines painted h =
    let r = along pen set saved w first last lines painted in
    ap (λ (b : Bool). cond b r (reading pen set saved w first.ax first.ay first.ax first.ay (lines ++ record { ax = last.bx; ay = last.by; bx = first.ax; by = first.ay } ∷ []) painted)) h
closing_read false pen set saved w first last lines painted h = refl

chain_read : (rule : Option Rule) (pen : ℕ) (set : Graphics) (saved : List Graphics) (w : Window) (first last : Segment) (lines : List Line) (painted : List Painted)
    → read (along pen set saved w first last lines painted) (chain_end rule first last) ≡ along pen set saved w first last lines painted
chain_read None pen set saved w first last lines painted = refl
chain_read (Some rule) pen set saved w first last lines painted = closing_read (is_joined last first) pen set saved w first last lines painted refl

-- the rest of a run is read as its lines
module _ (rule : Option Rule) (pen : ℕ) (set : Graphics) (saved : List Graphics) (w : Window) (painted : List Painted) where
  abbrev RestRead : Segment → Segment → List Segment → Type 0
  RestRead first last ss = (lines : List Line)
      → Drawn pen set saved w (lines ++ map line_of ss) painted (read (along pen set saved w first last lines painted) (rest_operators rule first last ss))

  rest_step : (b : Bool) (first last s : Segment) (ss : List Segment) (lines : List Line)
      → is_joined last s ≡ b → RestRead first s ss → RestRead s s ss
      → Drawn pen set saved w (lines ++ map line_of (s ∷ ss)) painted
      (read (along pen set saved w first last lines painted)
      (cond b (line_operators s ++ rest_operators rule first s ss) (chain_end rule first last ++ stroke_operators s ++ rest_operators rule s s ss)))
  rest_step true first last s ss lines h on apart =
      let a : Line = record { ax = last.bx; ay = last.by; bx = s.bx; by = s.by } in
      let r = read (along pen set saved w first s (lines ++ a ∷ []) painted) (rest_operators rule first s ss) in
      lines_as pen set saved w ((lines ++ a ∷ []) ++ map line_of ss) (lines ++ map line_of (s ∷ ss)) painted r r refl
      (more_lines lines a (line_of s) (map line_of ss) (same_line last s h)) (on (lines ++ a ∷ []))
  rest_step false first last s ss lines h on apart =
      let r = along pen set saved w first last lines painted in
      let end = chain_end rule first last in
      let stroke = stroke_operators s in
      let rest = rest_operators rule s s ss in
      let next = along pen set saved w s s (lines ++ line_of s ∷ []) painted in
      let one : read r (end ++ stroke) ≡ next = read_join r end stroke ∙ ap (λ (q : Reading). read q stroke) (chain_read rule pen set saved w first last lines painted) in
      let two : read r (end ++ stroke ++ rest) ≡ read next rest = read_join r (end ++ stroke) rest ∙ ap (λ (q : Reading). read q rest) one in
      lines_as pen set saved w ((lines ++ line_of s ∷ []) ++ map line_of ss) (lines ++ map line_of (s ∷ ss)) painted (read r (end ++ stroke ++ rest)) (read next rest) two
      (append_assoc lines (line_of s ∷ []) (map line_of ss)) (apart (lines ++ line_of s ∷ []))

  rest_read : (first last : Segment) (ss : List Segment) → RestRead first last ss
  rest_read first last [] lines =
      lines_as pen set saved w lines (lines ++ []) painted (read (along pen set saved w first last lines painted) (chain_end rule first last)) (along pen set saved w first last lines painted)
      (chain_read rule pen set saved w first last lines painted) (sym (append-nil lines)) (first.ax, first.ay, last.bx, last.by, refl)
  rest_read first last (s ∷ ss) lines =
      rest_step (is_joined last s) first last s ss lines refl (rest_read first s ss) (rest_read s s ss)

colour_same : (a b : Colour) → is_same_colour a b ≡ true → a ≡ b
colour_same a b h =
    let two = and_parts (a.red == b.red && a.green == b.green) (a.blue == b.blue) h in
    let one = and_parts (a.red == b.red) (a.green == b.green) two.0 in
    let red = (Decides-eqb a.red b.red).0 one.0 in
    let green = (Decides-eqb a.green b.green).0 one.1 in
    let blue = (Decides-eqb a.blue b.blue).0 two.1 in
    ap (λ (z : ℕ). let k : Colour = record { red = z; green = a.green; blue = a.blue } in k) red
    ∙ ap (λ (z : ℕ). let k : Colour = record { red = b.red; green = z; blue = a.blue } in k) green
    ∙ ap (λ (z : ℕ). let k : Colour = record { red = b.red; green = b.green; blue = z } in k) blue

window_same : (a b : Window) → is_same_window a b ≡ true → a ≡ b
window_same a b h =
    let three = and_parts ((int_eq a.x0 b.x0 && int_eq a.y0 b.y0) && int_eq a.x1 b.x1) (int_eq a.y1 b.y1) h in
    let two = and_parts (int_eq a.x0 b.x0 && int_eq a.y0 b.y0) (int_eq a.x1 b.x1) three.0 in
    let one = and_parts (int_eq a.x0 b.x0) (int_eq a.y0 b.y0) two.0 in
    ap (λ (z : ℤ). let k : Window = record { x0 = z; y0 = a.y0; x1 = a.x1; y1 = a.y1 } in k) ((Decides-int_eq a.x0 b.x0).0 one.0)
    ∙ ap (λ (z : ℤ). let k : Window = record { x0 = b.x0; y0 = z; x1 = a.x1; y1 = a.y1 } in k) ((Decides-int_eq a.y0 b.y0).0 one.1)
    ∙ ap (λ (z : ℤ). let k : Window = record { x0 = b.x0; y0 = b.y0; x1 = z; y1 = a.y1 } in k) ((Decides-int_eq a.x1 b.x1).0 two.1)
    ∙ ap (λ (z : ℤ). let k : Window = record { x0 = b.x0; y0 = b.y0; x1 = b.x1; y1 = z } in k) ((Decides-int_eq a.y1 b.y1).0 three.1)

-- strokes that are drawn in one way
alike_same : (fill : Colour) (a b : Segment) → is_alike a b ≡ true → (a.pen ≡ b.pen) × (graphics_of fill a ≡ graphics_of fill b)
alike_same fill a b h =
    let three = and_parts ((a.pen == b.pen && a.width == b.width) && is_same_colour a.colour b.colour) (is_same_window a.window b.window) h in
    let two = and_parts (a.pen == b.pen && a.width == b.width) (is_same_colour a.colour b.colour) three.0 in
    let one = and_parts (a.pen == b.pen) (a.width == b.width) two.0 in (
      (Decides-eqb a.pen b.pen).0 one.0,
      ap (λ (z : Colour). let k : Graphics = record { colour = z; fill = fill; width = max 24 a.width; window = a.window } in k) (colour_same a.colour b.colour two.1)
          ∙ ap (λ (z : ℕ). let k : Graphics = record { colour = b.colour; fill = fill; width = max 24 z; window = a.window } in k) ((Decides-eqb a.width b.width).0 one.1)
          ∙ ap (λ (z : Window). let k : Graphics = record { colour = b.colour; fill = fill; width = max 24 b.width; window = z } in k) (window_same a.window b.window three.1),
    )

-- the lines of strokes that are drawn in one way are painted as these strokes
rest_painted : (fill : Colour) (pen : ℕ) (set : Graphics) (last : Segment) (ss : List Segment) → pen ≡ last.pen → set ≡ graphics_of fill last → AreAlike last ss
    → map (painted_line pen set) (map line_of ss) ≡ map widened ss
rest_painted fill pen set last [] p q h = refl
rest_painted fill pen set last (s ∷ ss) p q h =
    let same = alike_same fill last s h.0 in
    let pen_same : pen ≡ s.pen = p ∙ same.0 in
    let set_same : set ≡ graphics_of fill s = q ∙ same.1 in
    let others = map (painted_line pen set) (map line_of ss) in
    ap (λ (z : ℕ). painted_line z set (line_of s) ∷ others) pen_same ∙ ap (λ (z : Graphics). painted_line s.pen z (line_of s) ∷ others) set_same
    ∙ ap (λ (zs : List Segment). widened s ∷ zs) (rest_painted fill pen set s ss pen_same set_same h.1)

all_painted : (fill : Colour) (s : Segment) (ss : List Segment) → AreAlike s ss
    → map (painted_line s.pen (graphics_of fill s)) (map line_of (s ∷ ss)) ≡ map widened (s ∷ ss)
all_painted fill s ss h = ap (λ (zs : List Segment). widened s ∷ zs) (rest_painted fill s.pen (graphics_of fill s) s ss refl refl h)

-- what is set after the start of a run, and the rectangle
abbrev Started : Page → ℤ → ℤ → ℤ → ℤ → Segment → Reading → List Painted → Type 0
Started page start_x start_y x y s r painted =
    (w : Window) × (r ≡ reading s.pen (graphics_of black s) (plain page ∷ []) w start_x start_y x y [] painted)

start_read : (page : Page) (w : Window) (start_x start_y x y : ℤ) (s : Segment) (painted : List Painted)
    → Started page start_x start_y x y s (read (reading 0 (plain page) [] w start_x start_y x y [] painted) (start_operators page s)) painted
start_read page w start_x start_y x y s painted = clipped (is_same_window s.window (whole_page page)) refl where
  clipped : (b : Bool) → is_same_window s.window (whole_page page) ≡ b
      → Started page start_x start_y x y s (read (reading 0 (plain page) [] w start_x start_y x y [] painted)
      ((Layer s.pen ∷ Save ∷ []) ++ cond b [] (Rectangle s.window ∷ Clip ∷ NoPaint ∷ []) ++ (StrokeColour s.colour ∷ LineWidth (max 24 s.width) ∷ []))) painted
  clipped true h = (
    w,
    ap (λ (z : Window). let g : Graphics = record { colour = s.colour; fill = black; width = max 24 s.width; window = z } in reading s.pen g (plain page ∷ []) w start_x start_y x y [] painted)
        (sym (window_same s.window (whole_page page) h)),
  )
  clipped false h = (s.window, refl)

-- the colour inside the lines of a run
abbrev inner : Option Rule → Colour → Colour
inner None colour = black
inner (Some rule) colour = colour

fill_read : (rule : Option Rule) (saved : List Graphics) (w : Window) (start_x start_y x y : ℤ) (s : Segment) (painted : List Painted)
    → read (reading s.pen (graphics_of black s) saved w start_x start_y x y [] painted) (fill_operators rule s.colour)
    ≡ reading s.pen (graphics_of (inner rule s.colour) s) saved w start_x start_y x y [] painted
fill_read None saved w start_x start_y x y s painted = refl
fill_read (Some rule) saved w start_x start_y x y s painted = refl

-- the edges of an area are drawn as its first one
edges_drawn : (s : Segment) (ss : List Segment)
    → map (painted_line s.pen (graphics_of s.colour s)) (map line_of ss) ≡ map (λ e. widened (drawn_as s e)) ss
edges_drawn s [] = refl
edges_drawn s (e ∷ es) = ap (λ (zs : List Segment). widened (drawn_as s e) ∷ zs) (edges_drawn s es)

-- what a run paints, if its strokes are drawn in one way
abbrev run_painted : Option Rule → List Segment → List Painted
run_painted None ss = map line_painted (map widened ss)
run_painted (Some rule) ss = record { lines = shown_as_first ss; fill = fill_by (Some rule) ss } ∷ []

abbrev IsEven : List Segment → Option Rule → Type 0
IsEven [] rule = ⊥
IsEven (s ∷ ss) None = AreAlike s ss
IsEven (s ∷ ss) (Some rule) = Unit {0}

each_line : (pen : ℕ) (set : Graphics) (lines : List Line) → map (λ line. line_painted (painted_line pen set line)) lines ≡ map line_painted (map (painted_line pen set) lines)
each_line pen set [] = refl
each_line pen set (l ∷ ls) = ap (λ (zs : List Painted). line_painted (painted_line pen set l) ∷ zs) (each_line pen set ls)

-- after a run
abbrev Ended : Page → Reading → List Painted → Type 0
Ended page r painted =
    (w : Window) × (start_x : ℤ) × (start_y : ℤ) × (x : ℤ) × (y : ℤ) × (r ≡ reading 0 (plain page) [] w start_x start_y x y [] painted)

end_read : (page : Page) (rule : Option Rule) (w : Window) (start_x start_y x y : ℤ) (s : Segment) (ss : List Segment) (painted : List Painted) → IsEven (s ∷ ss) rule
    → read (reading s.pen (graphics_of (inner rule s.colour) s) (plain page ∷ []) w start_x start_y x y (map line_of (s ∷ ss)) painted) (end_operators rule)
    ≡ reading 0 (plain page) [] w start_x start_y x y [] (painted ++ run_painted rule (s ∷ ss))
end_read page None w start_x start_y x y s ss painted h =
    ap (λ (zs : List Painted). reading 0 (plain page) [] w start_x start_y x y [] (painted ++ zs))
    (each_line s.pen (graphics_of black s) (map line_of (s ∷ ss)) ∙ ap (map line_painted) (all_painted black s ss h))
end_read page (Some rule) w start_x start_y x y s ss painted h =
    ap (λ (zs : List Segment). let area : Painted = record { lines = zs; fill = fill_by (Some rule) (s ∷ ss) } in reading 0 (plain page) [] w start_x start_y x y [] (painted ++ area ∷ []))
    (ap (λ (zs : List Segment). widened s ∷ zs) (edges_drawn s ss))

-- a run is painted
run_read : (page : Page) (rule : Option Rule) (w : Window) (start_x start_y x y : ℤ) (s : Segment) (ss : List Segment) (painted : List Painted) → IsEven (s ∷ ss) rule
    → Ended page (read (reading 0 (plain page) [] w start_x start_y x y [] painted) (run_operators page rule (s ∷ ss))) (painted ++ run_painted rule (s ∷ ss))
run_read page rule w start_x start_y x y s ss painted h =
    let start = start_operators page s in
    let fill = fill_operators rule s.colour in
    let stroke = stroke_operators s in
    let rest = rest_operators rule s s ss in
    let end = end_operators rule in
    let set = graphics_of (inner rule s.colour) s in
    let saved = plain page ∷ [] in
    let first = reading 0 (plain page) [] w start_x start_y x y [] painted in
    let begun = start_read page w start_x start_y x y s painted in
    let one : read first (start ++ fill) ≡ reading s.pen set saved begun.0 start_x start_y x y [] painted =
    read_join first start fill ∙ ap (λ (r : Reading). read r fill) begun.1 ∙ fill_read rule saved begun.0 start_x start_y x y s painted in
    let two : read first (start ++ fill ++ stroke) ≡ along s.pen set saved begun.0 s s (line_of s ∷ []) painted =
    read_join first (start ++ fill) stroke ∙ ap (λ (r : Reading). read r stroke) one in
    let on = rest_read rule s.pen set saved begun.0 painted s s ss (line_of s ∷ []) in
    let three : read first (start ++ fill ++ stroke ++ rest) ≡ reading s.pen set saved begun.0 on.0 on.1 on.2 on.3 (map line_of (s ∷ ss)) painted =
    read_join first (start ++ fill ++ stroke) rest ∙ ap (λ (r : Reading). read r rest) two ∙ on.4 in (
      begun.0,
      on.0,
      on.1,
      on.2,
      on.3,
      read_join first (start ++ fill ++ stroke ++ rest) end ∙ ap (λ (r : Reading). read r end) three
          ∙ end_read page rule begun.0 on.0 on.1 on.2 on.3 s ss painted h,
    )

-- runs are painted one after another
abbrev runs_painted : List Shape → List Painted
runs_painted [] = []
runs_painted (run ∷ rs) = run_painted run.rule run.strokes ++ runs_painted rs

abbrev AreEven : List Shape → Type 0
AreEven [] = Unit {0}
AreEven (run ∷ rs) = IsEven run.strokes run.rule × AreEven rs

one_read : (page : Page) (rule : Option Rule) (w : Window) (start_x start_y x y : ℤ) (ss : List Segment) (painted : List Painted) → IsEven ss rule
    → Ended page (read (reading 0 (plain page) [] w start_x start_y x y [] painted) (run_operators page rule ss)) (painted ++ run_painted rule ss)
one_read page rule w start_x start_y x y [] painted h = absurd h
one_read page rule w start_x start_y x y (s ∷ ss) painted h = run_read page rule w start_x start_y x y s ss painted h

runs_read : (page : Page) (w : Window) (start_x start_y x y : ℤ) (painted : List Painted) (rs : List Shape) → AreEven rs
    → (read (reading 0 (plain page) [] w start_x start_y x y [] painted) (runs_operators page rs)).painted ≡ painted ++ runs_painted rs
runs_read page w start_x start_y x y painted [] h = sym (append-nil painted)
runs_read page w start_x start_y x y painted (run ∷ rs) h =
    let here = run_operators page run.rule run.strokes in
    let first = reading 0 (plain page) [] w start_x start_y x y [] painted in
    let ended = one_read page run.rule w start_x start_y x y run.strokes painted h.0 in
    let now = painted ++ run_painted run.rule run.strokes in
    ap (λ (r : Reading). r.painted) (read_join first here (runs_operators page rs) ∙ ap (λ (r : Reading). read r (runs_operators page rs)) ended.5)
    ∙ runs_read page ended.0 ended.1 ended.2 ended.3 ended.4 now rs h.1
    ∙ append_assoc painted (run_painted run.rule run.strokes) (runs_painted rs)

-- texts paint nothing
pieces_read : (r : Reading) (ps : List Piece) → read r (pieces_operators ps) ≡ r
pieces_read r [] = refl
pieces_read r (p ∷ ps) = pieces_read r ps

text_read : (b : Bool) (r : Reading) (l : LineShape) → read r (cond b (TextMatrix (matrix_of l) l.start.x l.start.y ∷ pieces_operators (pieces l.text)) []) ≡ r
text_read true r l = pieces_read r (pieces l.text)
text_read false r l = refl

lines_read : (r : Reading) (ls : List LineShape) → read r (lines_operators ls) ≡ r
lines_read r [] = refl
lines_read r (l ∷ ls) =
    read_join r (text_operators l) (lines_operators ls) ∙ ap (λ (q : Reading). read q (lines_operators ls)) (text_read (has_letters l) r l) ∙ lines_read r ls

label_read : (b : Bool) (r : Reading) (ls : List LineShape) → read r (cond b (lines_operators ls) []) ≡ r
label_read true r ls = lines_read r ls
label_read false r ls = refl

labels_read : (r : Reading) (pens : PenSet) (strokes : List Segment) (ls : List LabelShape) → read r (labels_operators pens strokes ls) ≡ r
labels_read r pens strokes [] = refl
labels_read r pens strokes (l ∷ ls) =
    read_join r (cond (is_shown pens strokes l) (lines_operators l.lines) []) (labels_operators pens strokes ls)
    ∙ ap (λ (q : Reading). read q (labels_operators pens strokes ls)) (label_read (is_shown pens strokes l) r l.lines) ∙ labels_read r pens strokes ls

texts_read : (b : Bool) (r : Reading) (os : List Operator) → read r os ≡ r → read r (cond b ((BeginText ∷ Invisible ∷ []) ++ os ++ (EndText ∷ [])) []) ≡ r
texts_read true r os h = read_join r os (EndText ∷ []) ∙ ap (λ (q : Reading). read q (EndText ∷ [])) h
texts_read false r os h = refl

-- the runs of shapes that are drawn have strokes that are drawn in one way
even_runs : (rs : List (List Segment)) → AreRuns rs → AreEven (map stroke_run rs)
even_runs [] h = tt
even_runs ([] ∷ rs) h = absurd h.0
even_runs ((s ∷ ss) ∷ rs) h = (h.0.1, even_runs rs h.1)

even_both : (xs ys : List Shape) → AreEven xs → AreEven ys → AreEven (xs ++ ys)
even_both [] ys h k = k
even_both (x ∷ xs) ys h k = (h.0, even_both xs ys h.1 k)

even_area : (pens : PenSet) (rule : Option Rule) (ss : List Segment) → is_some rule ≡ true → begins_drawn pens ss ≡ true → IsEven ss rule
even_area pens rule [] h k = absurd (cc)
even_area pens None (s ∷ ss) h k = absurd (cc)
even_area pens (Some rule) (s ∷ ss) h k = tt

even_step : (b : Bool) (pens : PenSet) (s : Shape) (before : List Segment) (area others : List Shape) → is_some s.rule ≡ b → begins_drawn pens s.strokes ≡ true → AreEven area → AreEven others
    → AreEven (cond b (map stroke_run (runs_of before) ++ s ∷ area) others)
even_step true pens s before area others e h p q =
    even_both (map stroke_run (runs_of before)) (s ∷ area) (even_runs (runs_of before) (alike_of before)) (even_area pens s.rule s.strokes e h, p)
even_step false pens s before area others e h p q = q

even_after : (pens : PenSet) (before : List Segment) (ss : List Shape) → AreBegun pens ss → AreEven (shape_runs_after before ss)
even_after pens before [] h = even_runs (runs_of before) (alike_of before)
even_after pens before (s ∷ ss) h =
    even_step (is_some s.rule) pens s before (shape_runs_after [] ss) (shape_runs_after (before ++ s.strokes) ss) refl h.0 (even_after pens [] ss h.1) (even_after pens (before ++ s.strokes) ss h.1)

-- the runs are painted as their shapes
strokes_as_shapes : (ss : List Segment) → map line_painted (map widened ss) ≡ map shape_painted (map stroke_shape ss)
strokes_as_shapes [] = refl
strokes_as_shapes (s ∷ ss) = ap (λ (zs : List Painted). line_painted (widened s) ∷ zs) (strokes_as_shapes ss)

run_as_shapes : (rule : Option Rule) (ss : List Segment) → run_painted rule ss ≡ map shape_painted (split (record { strokes = ss; rule = rule }))
run_as_shapes None ss = strokes_as_shapes ss
run_as_shapes (Some rule) ss = refl

runs_as_shapes : (rs : List Shape) → runs_painted rs ≡ map shape_painted (flat_map split rs)
runs_as_shapes [] = refl
runs_as_shapes (run ∷ rs) =
    (λ i. run_as_shapes run.rule run.strokes i ++ runs_as_shapes rs i) ∙ sym (map-append shape_painted (split run) (flat_map split rs))

-- reading the content gives the shapes that are drawn
pub content_read : (page : Page) (pens : PenSet) (strokes : List Segment) (areas : List Area) (labels : List LabelShape)
    → (read (start_of page) (content_operators page pens strokes areas labels)).painted ≡ map shape_painted (drawn_shapes pens (shapes strokes areas))
content_read page pens strokes areas labels =
    let ss = drawn_shapes pens (shapes strokes areas) in
    let rs = shape_runs pens (shapes strokes areas) in
    let drawing = (Scale (unit_of page) ∷ LineEnds ∷ LineJoins ∷ []) ++ runs_operators page rs in
    let painted = read (start_of page) drawing in
    ap (λ (r : Reading). r.painted)
    (read_join (start_of page) drawing (texts_operators pens strokes labels)
    ∙ texts_read (list_any (has_text pens strokes) labels) painted (labels_operators pens strokes labels) (labels_read painted pens strokes labels))
    ∙ runs_read page (whole_page page) (pos 0) (pos 0) (pos 0) (pos 0) [] rs (even_after pens [] ss (are_begun pens (shapes strokes areas)))
    ∙ runs_as_shapes rs ∙ ap (map shape_painted) (all_shapes pens strokes areas)

-- without areas it gives the strokes that are drawn
pub strokes_read : (page : Page) (pens : PenSet) (strokes : List Segment) (labels : List LabelShape)
    → (read (start_of page) (content_operators page pens strokes [] labels)).painted ≡ map line_painted (map widened (drawn pens strokes))
strokes_read page pens strokes labels =
    content_read page pens strokes [] labels ∙ ap (map shape_painted) (drawn_strokes pens strokes) ∙ sym (strokes_as_shapes (drawn pens strokes))
