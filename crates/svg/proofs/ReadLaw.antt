-- What the paths show are the shapes that are drawn.
use Rattle.std.proofs.Common.{◌≡◌, ℕ, ℤ, pos, ◌+ℤ◌, ◌-ℤ◌, ◌*◌, max, List, [], ◌∷◌, ◌++◌, map, length, ◌≤◌, Bool, true, false, cond, Option, Some, None, is_some, refl, ap, sym, ◌∙◌, append-nil, append_assoc, arith, ◌&&◌, ◌==◌}
use Rattle.std.specs.Ordering.{int_eq}
use Rattle.std.proofs.lemmas.Bool.{and_parts}
use Rattle.std.proofs.lemmas.Bool.Decides.{nat_tests}
use Rattle.std.proofs.lemmas.Int.{ints}
use Rattle.std.proofs.lemmas.List.{map-append}
use Rattle.std.proofs.lemmas.List.Concat.{flat_map-append}
use Rattle.areas.specs.Shapes.{Shape, stroke_shape}
use Rattle.plot_page.specs.Segments.{Segment}
use Rattle.plot_page.specs.declared.page.Page.{Page}
use Rattle.plot_page.specs.declared.pens.PenSet.{PenSet}
use Rattle.plot_page.specs.declared.window.Window.{Window}
use Rattle.polygons.specs.declared.lines.Rule.{Rule}
use Rattle.stroke_runs.proofs.RunLaws.{all_of, alike_of}
use Rattle.stroke_runs.proofs.ShapeLaws.{AreWhole, HaveStrokes, drawn_have, whole_drawn}
use Rattle.stroke_runs.specs.Drawn.{drawn_shapes, is_alike, is_joined, is_same_colour, is_same_window}
use Rattle.stroke_runs.specs.Laws.{joined, split, AreAlike, AreRuns}
use Rattle.stroke_runs.specs.Runs.{runs_of, shape_runs_after, stroke_run}
use Rattle.svg.specs.declared.places.Place.{Place}
use Rattle.svg.specs.Commands.{Command, MoveTo, LineTo, MoveBy, LineBy, line, move}
use Rattle.svg.specs.Paths.{Path, line_of, path_of, paths, paths_of, rest_commands, run_paths}
use Rattle.stroke_runs.specs.Shown.{drawn_as, is_whole_page, shown_as_first, shown_shape, whole_page, widened}
use Rattle.svg.specs.Places.{end_of, moved, offset, place_of, rectangle_of, start_of}
use Rattle.svg.specs.Readings.{lines_from, read_paths, seen_in, shapes_of, size_of, stroke_of, strokes_of, window_of}

there : (a b : ℤ) → a +ℤ (b -ℤ a) ≡ b
there a b = omega (arith, ints)

back : (h y : ℤ) → h -ℤ (h -ℤ y) ≡ y
back h y = omega (arith, ints)

lower : (h a b : ℤ) → h -ℤ ((h -ℤ b) +ℤ (b -ℤ a)) ≡ a
lower h a b = omega (arith, ints)

moved_offset : (a b : Place) → moved a (offset a b) ≡ b
moved_offset a b = λ i. record { x = there a.x b.x i; y = there a.y b.y i }

either_line : (t : Bool) (a b : Place) (cs : List Command) → lines_from a (cond t (LineBy (offset a b)) (LineTo b) ∷ cs) ≡ (a, b) ∷ lines_from b cs
either_line true a b cs = ap (λ (p : Place). (a, p) ∷ lines_from p cs) (moved_offset a b)
either_line false a b cs = refl

either_move : (t : Bool) (a b : Place) (cs : List Command) → lines_from a (cond t (MoveBy (offset a b)) (MoveTo b) ∷ cs) ≡ lines_from b cs
either_move true a b cs = ap (λ (p : Place). lines_from p cs) (moved_offset a b)
either_move false a b cs = refl

line_read : (a b : Place) (cs : List Command) → lines_from a (line a b ∷ cs) ≡ (a, b) ∷ lines_from b cs
line_read a b cs = either_line _ a b cs

move_read : (a b : Place) (cs : List Command) → lines_from a (move a b ∷ cs) ≡ lines_from b cs
move_read a b cs = either_move _ a b cs

same_int : (a b : ℤ) → int_eq a b ≡ true → a ≡ b
same_int a b h = grind (arith, ints, h)

same_nat : (a b : ℕ) → (a == b) ≡ true → a ≡ b
same_nat a b h = grind (arith, nat_tests, h)

-- where a stroke lies
abbrev ends : Page → Segment → Place × Place
ends page s = (start_of page s, end_of page s)

joined_places : (page : Page) (last s : Segment) → is_joined last s ≡ true → end_of page last ≡ start_of page s
joined_places page last s h =
    let both = and_parts (int_eq s.ax last.bx) (int_eq s.ay last.by) h in
    let x = sym (same_int s.ax last.bx both.0) in
    let y = sym (same_int s.ay last.by both.1) in
    λ i. place_of page (x i) (y i)

next_read : (j : Bool) (page : Page) (last s : Segment) (cs : List Command) → is_joined last s ≡ j → lines_from (end_of page last) (cond j (line_of page s ∷ []) (move (end_of page last) (start_of page s) ∷ line_of page s ∷ []) ++ cs) ≡ ends page s ∷ lines_from (end_of page s) cs
next_read true page last s cs h =
    ap (λ (p : Place). lines_from p (line_of page s ∷ cs)) (joined_places page last s h) ∙ line_read (start_of page s) (end_of page s) cs
next_read false page last s cs h = move_read (end_of page last) (start_of page s) (line_of page s ∷ cs) ∙ line_read (start_of page s) (end_of page s) cs

rest_read : (page : Page) (last : Segment) (ss : List Segment) → lines_from (end_of page last) (rest_commands page last ss) ≡ map (ends page) ss
rest_read page last [] = refl
rest_read page last (s ∷ ss) =
    next_read (is_joined last s) page last s (rest_commands page s ss) refl ∙ ap (λ (ls : List (Place × Place)). ends page s ∷ ls) (rest_read page s ss)

-- a path shows this stroke as it is drawn
abbrev Draws : Page → Path → Segment → Type 0
Draws page p s = (p.pen ≡ s.pen) × (p.colour ≡ s.colour) × (p.width ≡ max 24 s.width) × (seen_in (size_of page) p.clip ≡ s.window)

same_window : (v w : Window) → is_same_window v w ≡ true → v ≡ w
same_window v w h =
    let a = and_parts ((int_eq v.x0 w.x0 && int_eq v.y0 w.y0) && int_eq v.x1 w.x1) (int_eq v.y1 w.y1) h in
    let b = and_parts (int_eq v.x0 w.x0 && int_eq v.y0 w.y0) (int_eq v.x1 w.x1) a.0 in
    let d = and_parts (int_eq v.x0 w.x0) (int_eq v.y0 w.y0) b.0 in
    let x0 = same_int v.x0 w.x0 d.0 in
    let y0 = same_int v.y0 w.y0 d.1 in
    let x1 = same_int v.x1 w.x1 b.1 in
    let y1 = same_int v.y1 w.y1 a.1 in
    λ i. record { x0 = x0 i; y0 = y0 i; x1 = x1 i; y1 = y1 i }

read_window : (page : Page) (w : Window) → window_of (size_of page) (rectangle_of page w) ≡ w
read_window page w =
    let h = pos (16 * page.height) in
    λ i. record { x0 = w.x0; y0 = lower h w.y0 w.y1 i; x1 = there w.x0 w.x1 i; y1 = back h w.y1 i }

either_window : (t : Bool) (page : Page) (w : Window) → is_whole_page page w ≡ t → seen_in (size_of page) (cond t None (Some (rectangle_of page w))) ≡ w
either_window true page w h = sym (same_window w (whole_page page) h)
either_window false page w h = read_window page w

begins_right : (page : Page) (rule : Option Rule) (s : Segment) (ss : List Segment) → Draws page (path_of page rule s ss) s
begins_right page rule s ss = (refl, refl, refl, either_window (is_whole_page page s.window) page s.window refl)

goes_right : (page : Page) (p : Path) (last s : Segment) → is_alike last s ≡ true → Draws page p last → Draws page p s
goes_right page p last s h d =
    let a = and_parts ((last.pen == s.pen && last.width == s.width) && is_same_colour last.colour s.colour) (is_same_window last.window s.window) h in
    let b = and_parts (last.pen == s.pen && last.width == s.width) (is_same_colour last.colour s.colour) a.0 in
    let pw = and_parts (last.pen == s.pen) (last.width == s.width) b.0 in
    let cs = and_parts (last.colour.red == s.colour.red && last.colour.green == s.colour.green) (last.colour.blue == s.colour.blue) b.1 in
    let rg = and_parts (last.colour.red == s.colour.red) (last.colour.green == s.colour.green) cs.0 in
    let red = same_nat last.colour.red s.colour.red rg.0 in
    let green = same_nat last.colour.green s.colour.green rg.1 in
    let blue = same_nat last.colour.blue s.colour.blue cs.1 in (
      d.0 ∙ same_nat last.pen s.pen pw.0,
      d.1 ∙ (λ i. record { red = red i; green = green i; blue = blue i }),
      d.2 ∙ ap (λ (n : ℕ). max 24 n) (same_nat last.width s.width pw.1),
      d.3 ∙ same_window last.window s.window a.1,
    )

stroke_read : (page : Page) (p : Path) (s : Segment) → Draws page p s → stroke_of (size_of page) p (ends page s) ≡ widened s
stroke_read page p s d =
    let h = pos (16 * page.height) in
    λ i. record { pen = d.0 i; colour = d.1 i; width = d.2 i; window = d.3 i; ax = s.ax; ay = back h s.ay i; bx = s.bx; by = back h s.by i }

strokes_read : (page : Page) (p : Path) (last : Segment) (ss : List Segment) → Draws page p last → AreAlike last ss → map (stroke_of (size_of page) p) (map (ends page) ss) ≡ map widened ss
strokes_read page p last [] d h = refl
strokes_read page p last (s ∷ ss) d h =
    let e = goes_right page p last s h.0 d in
    (λ i. stroke_read page p s e i ∷ strokes_read page p s ss e h.1 i)

-- the lines of a run
run_lines : (page : Page) (s : Segment) (ss : List Segment) → lines_from (start_of page s) (line_of page s ∷ rest_commands page s ss) ≡ map (ends page) (s ∷ ss)
run_lines page s ss = line_read (start_of page s) (end_of page s) (rest_commands page s ss) ∙ ap (λ (ls : List (Place × Place)). ends page s ∷ ls) (rest_read page s ss)

path_read : (page : Page) (s : Segment) (ss : List Segment) → AreAlike s ss → strokes_of (size_of page) (path_of page None s ss) ≡ map widened (s ∷ ss)
path_read page s ss h =
    let p = path_of page None s ss in
    let d = begins_right page None s ss in
    ap (λ (ls : List (Place × Place)). map (stroke_of (size_of page) p) ls) (run_lines page s ss) ∙ (λ i. stroke_read page p s d i ∷ strokes_read page p s ss d h i)

runs_read : (page : Page) (rs : List (List Segment)) → AreRuns rs → read_paths (size_of page) (paths_of page (map stroke_run rs)) ≡ map stroke_shape (map widened (joined rs))
runs_read page [] h = refl
runs_read page ([] ∷ rs) h = absurd h.0
runs_read page ((s ∷ ss) ∷ rs) h =
    let first = map widened (s ∷ ss) in
    let others = map widened (joined rs) in
    (λ i. map stroke_shape (path_read page s ss h.0.1 i) ++ runs_read page rs h.1 i)
    ∙ sym (map-append stroke_shape first others)
    ∙ ap (λ (zs : List Segment). map stroke_shape zs) (sym (map-append widened (s ∷ ss) (joined rs)))

-- the strokes of runs
strokes_of_runs : (page : Page) (ss : List Segment) → read_paths (size_of page) (paths_of page (map stroke_run (runs_of ss))) ≡ map stroke_shape (map widened ss)
strokes_of_runs page ss = runs_read page (runs_of ss) (alike_of ss) ∙ ap (λ (zs : List Segment). map stroke_shape (map widened zs)) (all_of ss)

-- an area is read with the pen, the colour, the width and the window of its first edge
edge_read : (page : Page) (p : Path) (s e : Segment) → Draws page p s → stroke_of (size_of page) p (ends page e) ≡ widened (drawn_as s e)
edge_read page p s e d =
    let h = pos (16 * page.height) in
    λ i. record { pen = d.0 i; colour = d.1 i; width = d.2 i; window = d.3 i; ax = e.ax; ay = back h e.ay i; bx = e.bx; by = back h e.by i }

edges_read : (page : Page) (p : Path) (s : Segment) (ss : List Segment) → Draws page p s → map (stroke_of (size_of page) p) (map (ends page) ss) ≡ map (λ e. widened (drawn_as s e)) ss
edges_read page p s [] d = refl
edges_read page p s (e ∷ es) d = λ i. edge_read page p s e d i ∷ edges_read page p s es d i

area_read : (page : Page) (rule : Rule) (s : Segment) (ss : List Segment) → strokes_of (size_of page) (path_of page (Some rule) s ss) ≡ shown_as_first (s ∷ ss)
area_read page rule s ss =
    let p = path_of page (Some rule) s ss in
    let d = begins_right page (Some rule) s ss in
    ap (λ (ls : List (Place × Place)). map (stroke_of (size_of page) p) ls) (run_lines page s ss) ∙ (λ i. stroke_read page p s d i ∷ edges_read page p s ss d i)

-- the path of an area is the area
one_area : (page : Page) (shape : Shape) (rule : Option Rule) (strokes : List Segment) → shape.rule ≡ rule → shape.strokes ≡ strokes → is_some rule ≡ true → 1 ≤ length strokes
    → read_paths (size_of page) (run_paths page shape.rule shape.strokes) ≡ shown_shape shape ∷ []
one_area page shape None strokes e f some h = cc
one_area page shape (Some rule) [] e f some h = absurd (omega (arith, h))
one_area page shape (Some rule) (s ∷ ss) e f some h =
    ap (λ (o : Option Rule). read_paths (size_of page) (run_paths page o shape.strokes)) e
    ∙ ap (λ (zs : List Segment). read_paths (size_of page) (run_paths page (Some rule) zs)) f
    ∙ ap (λ (zs : List Segment). record { strokes = zs; rule = Some rule } ∷ []) (area_read page rule s ss)
    ∙ (λ i. record { strokes = shown_as_first (sym f i); rule = sym e i } ∷ [])

-- a shape that is one stroke
one_stroke : (strokes : List Segment) (shape : Shape) → map stroke_shape strokes ≡ shape ∷ [] → map stroke_shape (map widened strokes) ≡ shown_shape shape ∷ []
one_stroke [] shape h = cc
one_stroke (s ∷ []) shape h =
    let same : stroke_shape s ≡ shape = cc in
    ap (λ (z : Shape). shown_shape z ∷ []) same
one_stroke (s ∷ t ∷ ts) shape h = cc

by_strokes : (b : Bool) (s : Shape) → is_some s.rule ≡ b → b ≡ false → split s ≡ s ∷ [] → map stroke_shape s.strokes ≡ s ∷ []
by_strokes b s e none h = sym (ap (λ (c : Bool). cond c (s ∷ []) (map stroke_shape s.strokes)) (e ∙ none)) ∙ h

-- the paths of runs, and of others
read_both : (page : Page) (rs ts : List Shape) → read_paths (size_of page) (paths_of page (rs ++ ts)) ≡ read_paths (size_of page) (paths_of page rs) ++ read_paths (size_of page) (paths_of page ts)
read_both page rs ts =
    ap (λ (ps : List Path). read_paths (size_of page) ps) (flat_map-append (λ run. run_paths page run.rule run.strokes) rs ts)
    ∙ flat_map-append (shapes_of (size_of page)) (paths_of page rs) (paths_of page ts)

area_then : (page : Page) (before : List Segment) (s : Shape) (ss area : List Shape) → is_some s.rule ≡ true → 1 ≤ length s.strokes
    → read_paths (size_of page) (paths_of page area) ≡ map shown_shape ss
    → read_paths (size_of page) (paths_of page (map stroke_run (runs_of before) ++ s ∷ area)) ≡ map stroke_shape (map widened before) ++ map shown_shape (s ∷ ss)
area_then page before s ss area e h rest =
    let front = map stroke_run (runs_of before) in
    read_both page front (s ∷ area)
    ∙ ap (λ (zs : List Shape). read_paths (size_of page) (paths_of page front) ++ zs) (flat_map-append (shapes_of (size_of page)) (run_paths page s.rule s.strokes) (paths_of page area))
    ∙ (λ i. strokes_of_runs page before i ++ (one_area page s s.rule s.strokes refl refl e h i ++ rest i))

stroke_then : (before : List Segment) (s : Shape) (ss : List Shape) → map stroke_shape (map widened s.strokes) ≡ shown_shape s ∷ []
    → map stroke_shape (map widened (before ++ s.strokes)) ++ map shown_shape ss ≡ map stroke_shape (map widened before) ++ map shown_shape (s ∷ ss)
stroke_then before s ss h =
    let first = map stroke_shape (map widened before) in
    let own = map stroke_shape (map widened s.strokes) in
    ap (λ (zs : List Segment). map stroke_shape zs ++ map shown_shape ss) (map-append widened before s.strokes)
    ∙ ap (λ (zs : List Shape). zs ++ map shown_shape ss) (map-append stroke_shape (map widened before) (map widened s.strokes))
    ∙ append_assoc first own (map shown_shape ss)
    ∙ ap (λ (zs : List Shape). first ++ (zs ++ map shown_shape ss)) h

shape_step : (b : Bool) (page : Page) (before : List Segment) (s : Shape) (ss area others : List Shape) → is_some s.rule ≡ b → split s ≡ s ∷ [] → 1 ≤ length s.strokes
    → read_paths (size_of page) (paths_of page area) ≡ map shown_shape ss
    → read_paths (size_of page) (paths_of page others) ≡ map stroke_shape (map widened (before ++ s.strokes)) ++ map shown_shape ss
    → read_paths (size_of page) (paths_of page (cond b (map stroke_run (runs_of before) ++ s ∷ area) others)) ≡ map stroke_shape (map widened before) ++ map shown_shape (s ∷ ss)
shape_step true page before s ss area others e h k p q = area_then page before s ss area e k p
shape_step false page before s ss area others e h k p q = q ∙ stroke_then before s ss (one_stroke s.strokes s (by_strokes false s e refl h))

-- the paths of runs are the shapes
shapes_read : (page : Page) (before : List Segment) (ss : List Shape) → AreWhole ss → HaveStrokes ss → read_paths (size_of page) (paths_of page (shape_runs_after before ss)) ≡ map stroke_shape (map widened before) ++ map shown_shape ss
shapes_read page before [] h k = strokes_of_runs page before ∙ sym (append-nil (map stroke_shape (map widened before)))
shapes_read page before (s ∷ ss) h k =
    shape_step (is_some s.rule) page before s ss (shape_runs_after [] ss) (shape_runs_after (before ++ s.strokes) ss) refl h.0 k.0 (shapes_read page [] ss h.1 k.1) (shapes_read page (before ++ s.strokes) ss h.1 k.1)

pub all_read : (page : Page) (pens : PenSet) (ss : List Shape) → AreWhole ss → read_paths (size_of page) (paths page pens ss) ≡ map shown_shape (drawn_shapes pens ss)
all_read page pens ss h = shapes_read page [] (drawn_shapes pens ss) (whole_drawn pens ss h) (drawn_have pens ss)
