-- Lines that are drawn one after another, and the ends of their dashes.
use Rattle.std.proofs.Common.{◌≡◌, ◌∙◌, ◌<◌, ◌+◌, ℕ, suc, drop, drop-cons, get_or, length, Some, List, [], ◌∷◌, ◌++◌, refl, ap, sym, inl, inr, arith, pos, append-nil, map, Bool, true, false, Option}
use Rattle.std.specs.Prelude.{if◌then◌else◌}
use Rattle.std.proofs.lemmas.List.{map-append}
use Rattle.polygons.specs.declared.edge.Edge.{Edge}
use Rattle.full_plot.specs.Polygons.{drawn_edges, edge_line}
use Rattle.std.proofs.lemmas.Bool.{cases_Bool}
use Rattle.std.proofs.lemmas.Int.{ints}
use Rattle.std.proofs.lemmas.Option.{same_Some}
use Rattle.std.specs.List.{All}
use Rattle.std.specs.Prelude.{◌-ℤ◌}
use Rattle.exact.specs.declared.spot.Spot.{Spot}
use Rattle.plot_page.specs.Segments.{Segment}
use Rattle.hpgl_plot.specs.Bounds.{IsInRange}
use Rattle.plot_page.specs.declared.stroke.TheConstants.{FARTHEST_END}
use Rattle.line_types.specs.Laws.{IsInBox}
use Rattle.line_types.specs.LineTypes.{LineShape, dashes_of}
use Rattle.line_types.specs.declared.run.Run.{Run}
use Rattle.line_types.proofs.Boxes.{dashes_in}
use Rattle.hpgl_plot.specs.declared.state.State.{State}
use Rattle.hpgl_plot.specs.Inks.{draws_nothing}
use Rattle.hpgl_plot.specs.Machine.{with_strokes}
use Rattle.hpgl_plot.specs.Machine as core
use Rattle.hpgl_plot.proofs.Fed.{with_more}
use Rattle.full_plot.specs.Dashing.{IsDash, dash_segments, dashed, run_past, run_through}
use Rattle.full_plot.specs.Worlds.{FullWorld}
use Rattle.full_plot.specs.Lines.{inked, drawn_in_type, shape_in}

-- dashes are as near as the ends of their line
abbrev low : Spot
low = record { x = pos 0 -ℤ pos FARTHEST_END; y = pos 0 -ℤ pos FARTHEST_END }

abbrev high : Spot
high = record { x = pos FARTHEST_END; y = pos FARTHEST_END }

place_in_box : (s : Spot) → IsInRange FARTHEST_END s → IsInBox low high s
place_in_box s h =
    let x = h.x_in in
    let y = h.y_in in
    record { left = omega (arith, ints); right = omega (arith, ints); below = omega (arith, ints); above = omega (arith, ints) }

box_place : (s : Spot) → IsInBox low high s → IsInRange FARTHEST_END s
box_place s h =
    let a = h.left in
    let b = h.right in
    let c = h.below in
    let d = h.above in
    record { x_in = omega (arith, ints); y_in = omega (arith, ints) }

pub dashes_are_places : (shape : LineShape) (run : Option Run) (a b : Spot) → IsInRange FARTHEST_END a → IsInRange FARTHEST_END b → All IsDash (dashes_of shape run a b)
dashes_are_places shape run a b h k n d l =
    let e = dashes_in shape run low high a b (place_in_box a h) (place_in_box b k) n d l in
    (box_place _ e.0, box_place _ e.1)

-- no lines
pub none_drawn : (w : FullWorld) → drawn_in_type w [] ≡ w
none_drawn w = elim (cases_Bool (draws_nothing w.core.state)) [
  | inl t ↦ rw t refl
  | inr t ↦ rw t refl
]

inked-append : (s : State) (a b : List Segment) → inked s (a ++ b) ≡ inked s a ++ inked s b
inked-append s a b = elim (cases_Bool (draws_nothing s)) [
  | inl t ↦ rw t refl
  | inr t ↦ rw t refl
]

-- one line, and the rest of them
pub more_drawn : (w : FullWorld) (l : Segment) (ls : List Segment) → drawn_in_type w (l ∷ ls) ≡ drawn_in_type (drawn_in_type w (l ∷ [])) ls
more_drawn w l ls =
    let s = w.core.state in
    let shape = shape_in w in
    let first = dash_segments shape w.run l in
    let rest = dashed shape (run_past shape w.run l) ls in
    rw (append-nil first)
    (ap (λ (c : core.World). record w { core = c; run = run_through shape w.run (l ∷ ls) })
    (ap (λ (ss : List Segment). with_strokes w.core s ss) (inked-append s first rest) ∙ with_more w.core (inked s first) (inked s rest)))

pub same_shape : (w v : FullWorld) (ls : List Segment) → Some (drawn_in_type w ls) ≡ Some v → shape_in v ≡ shape_in w
same_shape w v ls k = sym (ap (λ (u : FullWorld). shape_in u) (same_Some _ _ k))

-- some lines, and more of them
pub drawn_in_type-append : (w : FullWorld) (ls ms : List Segment) → drawn_in_type w (ls ++ ms) ≡ drawn_in_type (drawn_in_type w ls) ms
drawn_in_type-append w [] ms = sym (ap (λ (u : FullWorld). drawn_in_type u ms) (none_drawn w))
drawn_in_type-append w (l ∷ ls) ms =
    more_drawn w l (ls ++ ms) ∙ drawn_in_type-append (drawn_in_type w (l ∷ [])) ls ms ∙ sym (ap (λ (u : FullWorld). drawn_in_type u ms) (more_drawn w l ls))

-- one edge, and the rest of them
if_drawn : (is_drawn : Bool) (e : Edge) (rest : List Edge) → (if is_drawn then e ∷ rest else rest) ≡ (if is_drawn then e ∷ [] else []) ++ rest
if_drawn true e rest = refl
if_drawn false e rest = refl

first_edge : (f : Edge → Segment) (e : Edge) (rest : List Edge) → map f (drawn_edges (e ∷ rest)) ≡ map f (drawn_edges (e ∷ [])) ++ map f (drawn_edges rest)
first_edge f e rest = ap (λ (es : List Edge). map f es) (if_drawn e.is_drawn e (drawn_edges rest)) ∙ map-append f (drawn_edges (e ∷ [])) (drawn_edges rest)

pub one_edge : (w v o : FullWorld) (s : State) (es : List Edge) (i : ℕ) (e : Edge) → i < length es → e ≡ get_or es i e → w.core.state ≡ s
    → Some (drawn_in_type w (map (edge_line w.core.state) (drawn_edges (e ∷ [])))) ≡ Some v
    → drawn_in_type w (map (edge_line s) (drawn_edges (drop i es))) ≡ o → drawn_in_type v (map (edge_line s) (drawn_edges (drop (i + 1) es))) ≡ o
one_edge w v o s es i e h k same l m =
    let next : suc i ≡ i + 1 = omega arith in
    let rest : List Edge = drop (i + 1) es in
    let cons : drop i es ≡ e ∷ rest = (rw next at (drop-cons es i e h)) ∙ ap (λ (x : Edge). x ∷ rest) (sym k) in
    let first : v ≡ drawn_in_type w (map (edge_line s) (drawn_edges (e ∷ []))) =
    sym (same_Some _ _ l) ∙ ap (λ (x : State). drawn_in_type w (map (edge_line x) (drawn_edges (e ∷ [])))) same in
    ap (λ (u : FullWorld). drawn_in_type u (map (edge_line s) (drawn_edges rest))) first
    ∙ sym (drawn_in_type-append w (map (edge_line s) (drawn_edges (e ∷ []))) (map (edge_line s) (drawn_edges rest)))
    ∙ ap (λ (ls : List Segment). drawn_in_type w ls) (sym (first_edge (edge_line s) e rest))
    ∙ sym (ap (λ (xs : List Edge). drawn_in_type w (map (edge_line s) (drawn_edges xs))) cons) ∙ m
