-- What the next shape is.
use Rattle.std.proofs.Common.{◌≡◌, ◌∙◌, ℕ, ◌+◌, ◌-◌, ◌<◌, ◌≤◌, List, [], ◌∷◌, ◌++◌, length, take, drop, get_or, map, flat_map, refl, ap, sym, arith, add-one, drop-cons, length-append, length-drop, length-take}
use Rattle.std.specs.List.{All}
use Rattle.std.proofs.lemmas.List.{drop_all, get_or-take}
use Rattle.std.proofs.lemmas.List.Concat.{flat_map-append}
use Rattle.std.proofs.lemmas.List.Elements.{All-cons, All-nil}
use Rattle.plot_page.specs.Segments.{Segment}
use Rattle.areas.specs.Shapes.{AreApart, area_shape, edges_of, shapes, shapes_after, stroke_shape}
use Rattle.areas.specs.Views.{areas_in}
use Rattle.areas.specs.Walks.{HasNoStrokes}
use Rattle.areas.specs.declared.among.Areas.{Areas}
use Rattle.areas.specs.declared.area.Area.{Area}
use Rattle.areas.proofs.Apart.{apart_in}

-- an area, if it begins here
pub area_next : (at : ℕ) (strokes : List Segment) (a : Area) (more : List Area) → a.first ≡ at
    → shapes_after at strokes (a ∷ more) ≡ area_shape strokes a ∷ shapes_after a.end strokes more
area_next at strokes a more here =
    let none : drop at (take a.first strokes) ≡ [] = drop_all at (take a.first strokes) (omega (arith, here, length-take a.first strokes)) in
    ap (λ (ss : List Segment). map stroke_shape ss ++ area_shape strokes a ∷ shapes_after a.end strokes more) none

-- a stroke, if all areas begin later
pub stroke_next : (at : ℕ) (strokes : List Segment) (left : List Area) (s : Segment) → at < length strokes → s ≡ get_or strokes at s → AreApart (at + 1) left
    → shapes_after at strokes left ≡ stroke_shape s ∷ shapes_after (at + 1) strokes left
stroke_next at strokes [] s lt is h =
    ap (λ (ss : List Segment). map stroke_shape ss) (drop-cons strokes at s lt)
    ∙ (λ i. stroke_shape (sym is i) ∷ map stroke_shape (drop (sym (add-one at) i) strokes))
stroke_next at strokes (a ∷ more) s lt is h =
    let kept = take a.first strokes in
    let within : at < length kept = omega (arith, lt, h.0, length-take a.first strokes) in
    let same : get_or kept at s ≡ get_or strokes at s = get_or-take a.first strokes at s (omega (arith, h.0)) in
    ap (λ (ss : List Segment). map stroke_shape ss ++ area_shape strokes a ∷ shapes_after a.end strokes more) (drop-cons kept at s within)
    ∙ (λ i. stroke_shape ((same ∙ sym is) i) ∷ map stroke_shape (drop (sym (add-one at) i) kept) ++ area_shape strokes a ∷ shapes_after a.end strokes more)

-- past the last stroke there are only areas without edges
pub none_left : (at : ℕ) (strokes : List Segment) (left : List Area) → AreApart at left → length strokes ≤ at → All HasNoStrokes (shapes_after at strokes left)
none_left at strokes [] h past = rw (drop_all at strokes past) (All-nil HasNoStrokes)
none_left at strokes (a ∷ more) h past =
    let none : drop at (take a.first strokes) ≡ [] = drop_all at (take a.first strokes) (omega (arith, past, length-take a.first strokes)) in
    let edges : edges_of strokes a ≡ [] = drop_all a.first (take a.end strokes) (omega (arith, past, h.0, length-take a.end strokes)) in
    let rest = none_left a.end strokes more h.2 (omega (arith, past, h.0, h.1)) in
    rw none (All-cons HasNoStrokes (area_shape strokes a) (shapes_after a.end strokes more) edges rest)

-- shapes have no more strokes together than there are
each_alone : (strokes : List Segment) → flat_map (λ shape. shape.strokes) (map stroke_shape strokes) ≡ strokes
each_alone [] = refl
each_alone (s ∷ ss) = ap (λ (zs : List Segment). s ∷ zs) (each_alone ss)

few_after : (at : ℕ) (strokes : List Segment) (left : List Area) → AreApart at left → length (flat_map (λ shape. shape.strokes) (shapes_after at strokes left)) ≤ length strokes - at
few_after at strokes [] h = rw (each_alone (drop at strokes)) (omega (arith, length-drop at strokes))
few_after at strokes (a ∷ more) h =
    let front = drop at (take a.first strokes) in
    let rest = shapes_after a.end strokes more in
    let all = area_shape strokes a ∷ rest in
    let few = few_after a.end strokes more h.2 in
    let parts = ap length (flat_map-append (λ shape. shape.strokes) (map stroke_shape front) all)
    ∙ length-append (flat_map (λ shape. shape.strokes) (map stroke_shape front)) (flat_map (λ shape. shape.strokes) all) in
    let alone = ap length (each_alone front) in
    let edges = length-append (edges_of strokes a) (flat_map (λ shape. shape.strokes) rest) in
    omega (arith, h.0, h.1, few, parts, alone, edges, length-drop at (take a.first strokes), length-take a.first strokes, length-drop a.first (take a.end strokes), length-take a.end strokes)

pub few_strokes : (strokes : List Segment) (areas : Areas) → length (flat_map (λ shape. shape.strokes) (shapes strokes (areas_in areas))) ≤ length strokes
few_strokes strokes areas = omega (arith, few_after 0 strokes (areas_in areas) (apart_in areas))
