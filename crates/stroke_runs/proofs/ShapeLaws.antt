-- The runs of shapes are all of them, in order: each is an area, or a run of strokes.
use Rattle.std.proofs.Common.{◌≡◌, ◌≤◌, ℕ, length, arith, List, [], ◌∷◌, ◌++◌, take, drop, flat_map, map, Bool, true, false, cond, Option, Some, None, MatchOption, is_some, refl, ap, sym, ◌∙◌, append-nil, append_assoc}
use Rattle.std.proofs.lemmas.List.{map-append}
use Rattle.std.proofs.lemmas.List.Concat.{flat_map-append}
use Rattle.std.proofs.lemmas.List.Elements.{All-nil, All-cons, All-append}
use Rattle.std.specs.List.{All}
use Rattle.areas.specs.Shapes.{Shape, area_shape, shapes, shapes_after, stroke_shape}
use Rattle.areas.specs.declared.area.Area.{Area}
use Rattle.plot_page.specs.Segments.{Segment}
use Rattle.plot_page.specs.declared.pens.PenSet.{PenSet}
use Rattle.polygons.specs.declared.lines.Rule.{Rule}
use Rattle.stroke_runs.specs.Drawn.{begins_drawn, drawn, drawn_shapes, is_drawn}
use Rattle.stroke_runs.specs.Laws.{AreRuns, IsRun, IsShapeRun, joined, split}
use Rattle.stroke_runs.specs.Runs.{runs, runs_of, shape_runs, shape_runs_after, stroke_run}
use Rattle.stroke_runs.proofs.RunLaws.{all_of, alike_of}

-- each of these is an area, or one stroke
abbrev pub AreWhole : List Shape → Type 0
AreWhole [] = Unit {0}
AreWhole (s ∷ ss) = (split s ≡ s ∷ []) × AreWhole ss

whole_append : (ss ts : List Shape) → AreWhole ss → AreWhole ts → AreWhole (ss ++ ts)
whole_append [] ts h k = k
whole_append (s ∷ ss) ts h k = (h.0, whole_append ss ts h.1 k)

whole_strokes : (ss : List Segment) → AreWhole (map stroke_shape ss)
whole_strokes [] = tt
whole_strokes (s ∷ ss) = (refl, whole_strokes ss)

pub whole_after : (at : ℕ) (strokes : List Segment) (areas : List Area) → AreWhole (shapes_after at strokes areas)
whole_after at strokes [] = whole_strokes (drop at strokes)
whole_after at strokes (a ∷ more) =
    whole_append (map stroke_shape (drop at (take a.first strokes))) (area_shape strokes a ∷ shapes_after a.end strokes more) (whole_strokes (drop at (take a.first strokes))) (refl, whole_after a.end strokes more)

whole_if : (b : Bool) (s : Shape) (ss : List Shape) → split s ≡ s ∷ [] → AreWhole ss → AreWhole (cond b (s ∷ ss) ss)
whole_if true s ss h k = (h, k)
whole_if false s ss h k = k

pub whole_drawn : (pens : PenSet) (ss : List Shape) → AreWhole ss → AreWhole (drawn_shapes pens ss)
whole_drawn pens [] h = tt
whole_drawn pens (s ∷ ss) h = whole_if (begins_drawn pens s.strokes) s (drawn_shapes pens ss) h.0 (whole_drawn pens ss h.1)

-- each of these shapes has a stroke
abbrev pub HaveStrokes : List Shape → Type 0
HaveStrokes [] = Unit {0}
HaveStrokes (s ∷ ss) = (1 ≤ length s.strokes) × HaveStrokes ss

strokes_if : (pens : PenSet) (ss : List Segment) → begins_drawn pens ss ≡ true → 1 ≤ length ss
strokes_if pens [] h = cc
strokes_if pens (s ∷ ss) h = omega arith

have_step : (b : Bool) (s : Shape) (ss : List Shape) → (b ≡ true → 1 ≤ length s.strokes) → HaveStrokes ss → HaveStrokes (cond b (s ∷ ss) ss)
have_step true s ss h k = (h refl, k)
have_step false s ss h k = k

pub drawn_have : (pens : PenSet) (ss : List Shape) → HaveStrokes (drawn_shapes pens ss)
drawn_have pens [] = tt
drawn_have pens (s ∷ ss) = have_step (begins_drawn pens s.strokes) s (drawn_shapes pens ss) (strokes_if pens s.strokes) (drawn_have pens ss)

-- runs of strokes have these strokes
all_strokes : (runs : List (List Segment)) → flat_map split (map stroke_run runs) ≡ map stroke_shape (joined runs)
all_strokes [] = refl
all_strokes (run ∷ runs) =
    ap (λ (zs : List Shape). map stroke_shape run ++ zs) (all_strokes runs) ∙ sym (map-append stroke_shape run (joined runs))

strokes_of_runs : (ss : List Segment) → flat_map split (map stroke_run (runs_of ss)) ≡ map stroke_shape ss
strokes_of_runs ss = all_strokes (runs_of ss) ∙ ap (λ (zs : List Segment). map stroke_shape zs) (all_of ss)

-- a shape that is no area, by its strokes
by_strokes : (b : Bool) (s : Shape) → is_some s.rule ≡ b → b ≡ false → split s ≡ s ∷ [] → map stroke_shape s.strokes ≡ s ∷ []
by_strokes b s e none h =
    sym (ap (λ (c : Bool). cond c (s ∷ []) (map stroke_shape s.strokes)) (e ∙ none)) ∙ h

area_before : (s : Shape) (before : List Segment) (ss rest : List Shape) → split s ≡ s ∷ [] → flat_map split rest ≡ ss
    → flat_map split (map stroke_run (runs_of before) ++ s ∷ rest) ≡ map stroke_shape before ++ s ∷ ss
area_before s before ss rest h k =
    flat_map-append split (map stroke_run (runs_of before)) (s ∷ rest)
    ∙ (λ i. strokes_of_runs before i ++ (h i ++ k i))

stroke_before : (s : Shape) (before : List Segment) (ss rest : List Shape) → map stroke_shape s.strokes ≡ s ∷ [] → flat_map split rest ≡ map stroke_shape (before ++ s.strokes) ++ ss
    → flat_map split rest ≡ map stroke_shape before ++ s ∷ ss
stroke_before s before ss rest h k =
    k ∙ ap (λ (zs : List Shape). zs ++ ss) (map-append stroke_shape before s.strokes)
    ∙ append_assoc (map stroke_shape before) (map stroke_shape s.strokes) ss
    ∙ ap (λ (zs : List Shape). map stroke_shape before ++ (zs ++ ss)) h

all_step : (b : Bool) (s : Shape) (before : List Segment) (ss area others : List Shape) → is_some s.rule ≡ b → split s ≡ s ∷ [] → flat_map split area ≡ ss → flat_map split others ≡ map stroke_shape (before ++ s.strokes) ++ ss
    → flat_map split (cond b (map stroke_run (runs_of before) ++ s ∷ area) others) ≡ map stroke_shape before ++ s ∷ ss
all_step true s before ss area others e h p q = area_before s before ss area h p
all_step false s before ss area others e h p q = stroke_before s before ss others (by_strokes false s e refl h) q

pub all_after : (before : List Segment) (ss : List Shape) → AreWhole ss → flat_map split (shape_runs_after before ss) ≡ map stroke_shape before ++ ss
all_after before [] h = strokes_of_runs before ∙ sym (append-nil (map stroke_shape before))
all_after before (s ∷ ss) h =
    all_step (is_some s.rule) s before ss (shape_runs_after [] ss) (shape_runs_after (before ++ s.strokes) ss) refl h.0 (all_after [] ss h.1) (all_after (before ++ s.strokes) ss h.1)

pub all_shapes : (pens : PenSet) (strokes : List Segment) (areas : List Area) → flat_map split (shape_runs pens (shapes strokes areas)) ≡ drawn_shapes pens (shapes strokes areas)
all_shapes pens strokes areas = all_after [] (drawn_shapes pens (shapes strokes areas)) (whole_drawn pens (shapes strokes areas) (whole_after 0 strokes areas))

-- each run is an area, or a run of strokes
stroke_runs_are : (runs : List (List Segment)) → AreRuns runs → All IsShapeRun (map stroke_run runs)
stroke_runs_are [] h = All-nil IsShapeRun
stroke_runs_are (run ∷ runs) h = All-cons IsShapeRun (stroke_run run) (map stroke_run runs) h.0 (stroke_runs_are runs h.1)

area_is : (o : Option Rule) (ss : List Segment) → is_some o ≡ true → MatchOption o (IsRun ss) (λ (rule : Rule). Unit {0})
area_is None ss h = cc
area_is (Some rule) ss h = tt

are_step : (b : Bool) (s : Shape) (before : List Segment) (area others : List Shape) → is_some s.rule ≡ b → All IsShapeRun area → All IsShapeRun others
    → All IsShapeRun (cond b (map stroke_run (runs_of before) ++ s ∷ area) others)
are_step true s before area others e p q =
    All-append IsShapeRun (map stroke_run (runs_of before)) (s ∷ area) (stroke_runs_are (runs_of before) (alike_of before)) (All-cons IsShapeRun s area (area_is s.rule s.strokes e) p)
are_step false s before area others e p q = q

pub are_after : (before : List Segment) (ss : List Shape) → All IsShapeRun (shape_runs_after before ss)
are_after before [] = stroke_runs_are (runs_of before) (alike_of before)
are_after before (s ∷ ss) =
    are_step (is_some s.rule) s before (shape_runs_after [] ss) (shape_runs_after (before ++ s.strokes) ss) refl (are_after [] ss) (are_after (before ++ s.strokes) ss)

-- without areas
drawn_step : (b : Bool) (s : Segment) (ss : List Shape) (ts : List Segment) → ss ≡ map stroke_shape ts → cond b (stroke_shape s ∷ ss) ss ≡ map stroke_shape (cond b (s ∷ ts) ts)
drawn_step true s ss ts h = ap (λ (zs : List Shape). stroke_shape s ∷ zs) h
drawn_step false s ss ts h = h

pub drawn_strokes : (pens : PenSet) (ss : List Segment) → drawn_shapes pens (map stroke_shape ss) ≡ map stroke_shape (drawn pens ss)
drawn_strokes pens [] = refl
drawn_strokes pens (s ∷ ss) = drawn_step (is_drawn pens s) s (drawn_shapes pens (map stroke_shape ss)) (drawn pens ss) (drawn_strokes pens ss)

pub strokes_after : (before ss : List Segment) → shape_runs_after before (map stroke_shape ss) ≡ map stroke_run (runs_of (before ++ ss))
strokes_after before [] = ap (λ (zs : List Segment). map stroke_run (runs_of zs)) (sym (append-nil before))
strokes_after before (s ∷ ss) =
    strokes_after (before ++ s ∷ []) ss ∙ ap (λ (zs : List Segment). map stroke_run (runs_of zs)) (append_assoc before (s ∷ []) ss)

pub runs_of_strokes : (pens : PenSet) (strokes : List Segment) → shape_runs pens (shapes strokes []) ≡ map stroke_run (runs pens strokes)
runs_of_strokes pens strokes =
    ap (λ (zs : List Shape). shape_runs_after [] zs) (drawn_strokes pens strokes) ∙ strokes_after [] (drawn pens strokes)
