-- Strokes of which none is the edge of an area, and how many areas there are.
use Rattle.std.proofs.Common.{◌≡◌, ℕ, suc, ◌+◌, ◌≤◌, List, [], ◌∷◌, ◌++◌, length, drop, take, flat_map, map, Bool, true, false, cond, nat_eq, is_some, refl, ap, ◌∙◌, arith, append-nil, length-append, length-drop, length-take}
use Rattle.std.proofs.lemmas.List.Elements.{All-head, All-tail, filter-append}
use Rattle.std.specs.List.{All, range_with_len}
use Rattle.plot_page.specs.Segments.{Segment}
use Rattle.areas.specs.Shapes.{AreApart, Shape, ShapeList, area_shape, edge_count, shapes, shapes_after, stroke_count, stroke_shape}
use Rattle.areas.specs.declared.area.Area.{Area}
use Rattle.plot_report.specs.Report.{areas_among, areas_line, area_line, images_line, pen_line, pen_lines, pen_shape_lines, shape_lines, shapes_of, strokes_among, strokes_line, strokes_of}
use Rattle.plot_report.proofs.PenLines.{range_same}

pub strokes_are_all : (ss : List Segment) → strokes_among (map stroke_shape ss) ≡ ss
strokes_are_all [] = refl
strokes_are_all (s ∷ ss) = ap (λ (zs : List Segment). s ∷ zs) (strokes_are_all ss)

pub no_areas : (ss : List Segment) → areas_among (map stroke_shape ss) ≡ []
no_areas [] = refl
no_areas (s ∷ ss) = no_areas ss

keep : (b : Bool) (s : Segment) (ss : List Shape) (ts : List Segment) → ss ≡ map stroke_shape ts → cond b (stroke_shape s ∷ ss) ss ≡ map stroke_shape (cond b (s ∷ ts) ts)
keep true s ss ts h = ap (λ (zs : List Shape). stroke_shape s ∷ zs) h
keep false s ss ts h = h

shapes_of_strokes : (pen : ℕ) (ss : List Segment) → shapes_of pen (map stroke_shape ss) ≡ map stroke_shape (strokes_of pen ss)
shapes_of_strokes pen [] = refl
shapes_of_strokes pen (s ∷ ss) = keep (nat_eq s.pen pen) s (shapes_of pen (map stroke_shape ss)) (strokes_of pen ss) (shapes_of_strokes pen ss)

lines_of_pen : (pen : ℕ) (ss : List Segment) → pen_shape_lines pen (shapes_of pen (map stroke_shape ss)) ≡ pen_line pen (strokes_of pen ss)
lines_of_pen pen ss =
    ap (λ (zs : List Shape). pen_shape_lines pen zs) (shapes_of_strokes pen ss)
    ∙ (λ i. pen_line pen (strokes_are_all (strokes_of pen ss) i) ++ area_line pen (no_areas (strokes_of pen ss) i))
    ∙ append-nil (pen_line pen (strokes_of pen ss))

-- without areas there are the lines of the strokes and of the pens
pub lines_without_areas : (strokes : List Segment) → shape_lines 0 (shapes strokes []) ≡ strokes_line strokes ++ pen_lines strokes
unfolding shape_lines pen_lines
lines_without_areas strokes =
    let all = map stroke_shape strokes in
    let pens = range_same (λ (pen : ℕ). pen_shape_lines pen (shapes_of pen all)) (λ (pen : ℕ). pen_line pen (strokes_of pen strokes)) 1 255 (λ k from lt. lines_of_pen k strokes) in
    let nothing = append-nil (strokes_line strokes) in
    (λ i. ((strokes_line (strokes_are_all strokes i) ++ areas_line (length (no_areas strokes i))) ++ images_line 0) ++ pens i)
    ∙ ap (λ (zs : List ℕ). zs ++ flat_map (λ (pen : ℕ). pen_line pen (strokes_of pen strokes)) (range_with_len 1 255))
    (append-nil (strokes_line strokes ++ []) ∙ nothing)

-- as many areas are among the shapes as there are
areas_joined : (ss ts : List Shape) → areas_among (ss ++ ts) ≡ areas_among ss ++ areas_among ts
areas_joined ss ts = filter-append (λ (shape : Shape). is_some shape.rule) ss ts

areas_after : (at : ℕ) (strokes : List Segment) (areas : List Area) → length (areas_among (shapes_after at strokes areas)) ≡ length areas
areas_after at strokes [] = ap length (no_areas (drop at strokes))
areas_after at strokes (a ∷ more) =
    let before = drop at (take a.first strokes) in
    let rest = area_shape strokes a ∷ shapes_after a.end strokes more in
    ap length (areas_joined (map stroke_shape before) rest)
    ∙ ap (λ (zs : List Shape). length (zs ++ areas_among rest)) (no_areas before)
    ∙ ap suc (areas_after a.end strokes more)

pub areas_are_counted : (strokes : List Segment) (areas : List Area) → length (areas_among (shapes strokes areas)) ≡ length areas
areas_are_counted strokes areas = areas_after 0 strokes areas

-- how many strokes are no edges
added : (ss : List Segment) (a : Area) (strokes : List Segment) (more : List Shape)
    → strokes_among (map stroke_shape ss ++ area_shape strokes a ∷ more) ≡ ss ++ strokes_among more
added [] a strokes more = refl
added (s ∷ ss) a strokes more = ap (λ (zs : List Segment). s ∷ zs) (added ss a strokes more)

pub counted_after : (at : ℕ) (strokes : List Segment) (more : List Area) → AreApart at more → at ≤ length strokes → All (λ a. a.end ≤ length strokes) more
    → length (strokes_among (shapes_after at strokes more)) + edge_count more + at ≡ length strokes
counted_after at strokes [] apart few within =
    let e = ap length (strokes_are_all (drop at strokes)) in
    let d = length-drop at strokes in
    omega (arith, e, d, few)
counted_after at strokes (a ∷ more) apart few within =
    let end = All-head (λ (b : Area). b.end ≤ length strokes) a more within in
    let rest = counted_after a.end strokes more apart.2 end (All-tail (λ (b : Area). b.end ≤ length strokes) a more within) in
    let before = drop at (take a.first strokes) in
    let e = ap length (added before a strokes (shapes_after a.end strokes more)) in
    let f = length-append before (strokes_among (shapes_after a.end strokes more)) in
    let d = length-drop at (take a.first strokes) in
    let t = length-take a.first strokes in
    omega (arith, e, f, d, t, rest, end, apart.0, apart.1)

pub counted_all : (list : ShapeList) → AreApart 0 list.areas → All (λ a. a.end ≤ length list.strokes) list.areas
    → length (strokes_among (shapes list.strokes list.areas)) ≡ stroke_count list
counted_all list apart within =
    let h = counted_after 0 list.strokes list.areas apart (omega arith) within in
    omega (arith, h)
