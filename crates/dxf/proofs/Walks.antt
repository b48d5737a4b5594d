-- What is written shape by shape is the text of the shapes.
use Rattle.std.proofs.Common.{◌≡◌, ℕ, ◌+◌, ◌-◌, ◌<◌, ◌≤◌, List, [], ◌∷◌, ◌++◌, flat_map, length, take, drop, get_or, map, Bool, true, false, cond, nat_eq, refl, ap, sym, ◌∙◌, append_assoc, append-nil, arith, Option, Some, None, drop-cons, suc, subst, length-take, pos}
use Rattle.std.proofs.lemmas.Bool.Decides.{nat_tests}
use Rattle.std.proofs.lemmas.List.{drop-take, drop_all}
use Rattle.std.specs.List.{list_all}
use Rattle.std.specs.Option.{option_map}
use Rattle.areas.proofs.NextShapes.{area_next, stroke_next}
use Rattle.areas.specs.Shapes.{AreApart, Shape, area_shape, beginning_at, counted, edges_of, shapes_after, stroke_shape}
use Rattle.areas.specs.Views.{areas_in}
use Rattle.areas.specs.declared.among.Areas.{Areas}
use Rattle.areas.specs.declared.area.Area.{Area}
use Rattle.pieces.proofs.Texts.{Left}
use Rattle.pieces.specs.declared.text.Text.{Text}
use Rattle.devices.specs.Sinks.{SinkState}
use Rattle.plot_page.specs.Segments.{Segment}
use Rattle.plot_page.specs.declared.pens.PenSet.{PenSet}
use Rattle.stroke_runs.proofs.AreaOrder.{Agree, later_ones, none_before}
use Rattle.stroke_runs.specs.Drawn.{begins_drawn, drawn_shapes, is_drawn}
use Rattle.dxf.proofs.Marks.{at_break, next_if, to_break}
use Rattle.dxf.specs.Chains.{Break, Mark, edge_marks, marks, piece_of, shape_marks, stroke_marks}
use Rattle.dxf.specs.Cuts.{is_whole}
use Rattle.dxf.specs.Steps.{after_area, after_first, after_if, after_stroke, area_text, end_text, first_text, left_text, shape_after, shape_text, stroke_text, text_if}
use Rattle.dxf.specs.declared.chains.Pending.{Pending}
use Rattle.dxf.specs.declared.chains.Pending.TheVariants.{Nothing}
use Rattle.dxf.specs.declared.layers.Layers.{Layers}
use Rattle.dxf.specs.declared.strokes.Walk.{Walk}

-- a stroke that is drawn or not, and the shapes after it
stroke_by : (b : Bool) (layers : Layers) (pending : Pending) (s : Segment) (ds : List Shape)
    → left_text layers pending (flat_map shape_marks (cond b (stroke_shape s ∷ ds) ds))
    ≡ cond b (text_if layers pending (piece_of s.width false s)) [] ++ left_text layers (cond b (after_if pending (piece_of s.width false s)) pending) (flat_map shape_marks ds)
stroke_by true layers pending s ds =
    ap (λ (ms : List Mark). left_text layers pending (ms ++ flat_map shape_marks ds)) (append-nil (stroke_marks s))
    ∙ next_if layers pending (piece_of s.width false s) (flat_map shape_marks ds)
stroke_by false layers pending s ds = refl

stroke_left : (layers : Layers) (pens : PenSet) (pending : Pending) (s : Segment) (ss : List Shape)
    → left_text layers pending (marks pens (stroke_shape s ∷ ss)) ≡ stroke_text layers pens pending s ++ left_text layers (after_stroke pens pending s) (marks pens ss)
stroke_left layers pens pending s ss = stroke_by (is_drawn pens s) layers pending s (drawn_shapes pens ss)

-- an area that is drawn or not, and the shapes after it
area_by : (b : Bool) (layers : Layers) (pending : Pending) (strokes : List Segment) (a : Area) (ds : List Shape)
    → left_text layers pending (flat_map shape_marks (cond b (area_shape strokes a ∷ ds) ds))
    ≡ cond b (end_text layers pending ++ left_text layers Nothing (edge_marks (list_all is_whole (edges_of strokes a)) (edges_of strokes a))) []
    ++ left_text layers (cond b Nothing pending) (flat_map shape_marks ds)
area_by true layers pending strokes a ds =
    let edges = edge_marks (list_all is_whole (edges_of strokes a)) (edges_of strokes a) in
    let others = flat_map shape_marks ds in
    ap (λ (ms : List Mark). left_text layers pending (Break ∷ ms)) (append_assoc edges (Break ∷ []) others)
    ∙ at_break layers pending (edges ++ Break ∷ others)
    ∙ ap (λ (z : List ℕ). end_text layers pending ++ z) (to_break layers Nothing edges others)
    ∙ sym (append_assoc (end_text layers pending) (left_text layers Nothing edges) (left_text layers Nothing others))
area_by false layers pending strokes a ds = refl

area_left : (layers : Layers) (pens : PenSet) (pending : Pending) (strokes : List Segment) (a : Area) (ss : List Shape)
    → left_text layers pending (marks pens (area_shape strokes a ∷ ss))
    ≡ area_text layers pens pending (edges_of strokes a) ++ left_text layers (after_area pens pending (edges_of strokes a)) (marks pens ss)
area_left layers pens pending strokes a ss = area_by (begins_drawn pens (edges_of strokes a)) layers pending strokes a (drawn_shapes pens ss)

-- if no area begins here, all begin later
later_by : (b : Bool) (i : ℕ) (a : Area) (o : Option Area) → nat_eq a.first i ≡ b → None ≡ cond b (Some a) o → i ≤ a.first → i + 1 ≤ a.first
later_by true i a o e h low = cc
later_by false i a o e h low = grind (arith, nat_tests, e, low)

all_later : (before i : ℕ) (all left : List Area) → AreApart i left → Agree before all i left → beginning_at (before + i) all ≡ None → AreApart (i + 1) left
all_later before i all [] apart agree none = tt
all_later before i all (a ∷ more) apart agree none =
    let here : before + i - before ≡ i = omega arith in
    let given = sym (ap (λ (o : Option Area). option_map (counted before) o) none) ∙ agree (before + i) (omega arith) ∙ ap (λ (n : ℕ). beginning_at n (a ∷ more)) here in
    (later_by (nat_eq a.first i) i a (beginning_at i more) refl given apart.0, apart.1, apart.2)

-- the area that begins here is the next one
pub record IsFirst (before i : ℕ) (b : Area) (left : List Area) : Type 0 where
  pub more : List Area
  pub is : left ≡ counted before b ∷ more
  pub here : (counted before b).first ≡ i

first_by : (t : Bool) (before i : ℕ) (b a : Area) (more : List Area) → nat_eq a.first i ≡ t → Some (counted before b) ≡ cond t (Some a) (beginning_at i more) → AreApart i (a ∷ more) → IsFirst before i b (a ∷ more)
first_by true before i b a more e h apart =
    let same : counted before b ≡ a = cc in
    let first : a.first ≡ i = grind (arith, nat_tests, e) in
    record { more = more; is = ap (λ (x : Area). x ∷ more) (sym same); here = ap (λ (x : Area). x.first) same ∙ first }
first_by false before i b a more e h apart =
    let far : i < a.end = grind (arith, apart.0, apart.1) in
    let none = none_before a.end i more apart.2 far in
    absurd (cc)

first_area : (before i : ℕ) (b : Area) (all left : List Area) → AreApart i left → Agree before all i left → beginning_at (before + i) all ≡ Some b → IsFirst before i b left
first_area before i b all [] apart agree some =
    let given = sym (ap (λ (o : Option Area). option_map (counted before) o) some) ∙ agree (before + i) (omega arith) in
    absurd (cc)
first_area before i b all (a ∷ more) apart agree some =
    let here : before + i - before ≡ i = omega arith in
    let given = sym (ap (λ (o : Option Area). option_map (counted before) o) some) ∙ agree (before + i) (omega arith) ∙ ap (λ (n : ℕ). beginning_at n (a ∷ more)) here in
    first_by (nat_eq a.first i) before i b a more refl given apart

-- what is written for the next shape, and what is left after it
pub record IsNext (layers : Layers) (pens : PenSet) (areas : Areas) (before i : ℕ) (strokes : List Segment) (left text : List ℕ) (walk : Walk) : Type 0 where
  pub more : List Area
  pub ahead : i + 1 ≤ walk.done
  pub apart : AreApart walk.done more
  pub agree : Agree before (areas_in areas) walk.done more
  pub is : left ≡ text ++ left_text layers walk.pending (marks pens (shapes_after walk.done strokes more))

next_stroke : (layers : Layers) (pens : PenSet) (areas : Areas) (before i : ℕ) (strokes : List Segment) (pending : Pending) (rest : List Area) (s : Segment) (others : List Segment)
    → AreApart i rest → Agree before (areas_in areas) i rest → drop i strokes ≡ s ∷ others → i < length strokes → beginning_at (before + i) (areas_in areas) ≡ None
    → IsNext layers pens areas before i strokes (left_text layers pending (marks pens (shapes_after i strokes rest))) (stroke_text layers pens pending s) (record { pending = after_stroke pens pending s; done = i + 1 })
next_stroke layers pens areas before i strokes pending rest s others apart agree next lt none =
    let later = all_later before i (areas_in areas) rest apart agree none in
    let heads : s ∷ others ≡ get_or strokes i s ∷ drop (suc i) strokes = sym next ∙ drop-cons strokes i s lt in
    let same : s ≡ get_or strokes i s = cc in
    record {
      more = rest;
      ahead = omega arith;
      apart = later;
      agree = λ n low. agree n (omega (arith, low));
      is = ap (λ (ss : List Shape). left_text layers pending (marks pens ss)) (stroke_next i strokes rest s lt same later)
          ∙ stroke_left layers pens pending s (shapes_after (i + 1) strokes rest);
    }

edges_here : (strokes : List Segment) (i end : ℕ) → i ≤ end → drop i (take end strokes) ≡ take (end - i) (drop i strokes)
edges_here strokes i end low =
    let size : i + (end - i) ≡ end = omega (arith, low) in
    ap (λ (n : ℕ). drop i (take n strokes)) (sym size) ∙ drop-take i (end - i) strokes

next_area : (layers : Layers) (pens : PenSet) (areas : Areas) (before i : ℕ) (strokes : List Segment) (pending : Pending) (rest : List Area) (b : Area)
    → AreApart i rest → Agree before (areas_in areas) i rest → beginning_at (before + i) (areas_in areas) ≡ Some b
    → IsNext layers pens areas before i strokes (left_text layers pending (marks pens (shapes_after i strokes rest))) (area_text layers pens pending (take (b.end - before - i) (drop i strokes)))
    (record { pending = after_area pens pending (take (b.end - before - i) (drop i strokes)); done = b.end - before })
next_area layers pens areas before i strokes pending rest b apart agree some =
    let a = counted before b in
    let found = first_area before i b (areas_in areas) rest apart agree some in
    let more = found.more in
    let parts : AreApart i (a ∷ more) = subst (λ (left : List Area). AreApart i left) found.is apart in
    let here = found.here in
    let edges : edges_of strokes a ≡ take (a.end - i) (drop i strokes) =
    ap (λ (n : ℕ). drop n (take a.end strokes)) here ∙ edges_here strokes i a.end (omega (arith, here, parts.1)) in
    record {
      more = more;
      ahead = omega (arith, here, parts.1);
      apart = parts.2;
      agree = λ n low.
          agree n (omega (arith, low, here, parts.1))
          ∙ ap (λ (left : List Area). beginning_at (n - before) left) found.is
          ∙ later_ones (n - before) a more (omega (arith, low, here, parts.1));
      is = ap (λ (left : List Area). left_text layers pending (marks pens (shapes_after i strokes left))) found.is
          ∙ ap (λ (ss : List Shape). left_text layers pending (marks pens ss)) (area_next i strokes a more here)
          ∙ area_left layers pens pending strokes a (shapes_after a.end strokes more)
          ∙ ap (λ (es : List Segment). area_text layers pens pending es ++ left_text layers (after_area pens pending es) (marks pens (shapes_after a.end strokes more))) edges;
    }

pub next_shape : (o : Option Area) (layers : Layers) (pens : PenSet) (areas : Areas) (before i : ℕ) (strokes : List Segment) (pending : Pending) (rest : List Area) (s : Segment) (others : List Segment)
    → AreApart i rest → Agree before (areas_in areas) i rest → drop i strokes ≡ s ∷ others → i < length strokes → beginning_at (before + i) (areas_in areas) ≡ o
    → IsNext layers pens areas before i strokes (left_text layers pending (marks pens (shapes_after i strokes rest))) (shape_text layers pens before i pending (drop i strokes) o) (shape_after pens before i pending (drop i strokes) o)
next_shape None layers pens areas before i strokes pending rest s others apart agree next lt is =
    subst (λ (ss : List Segment). IsNext layers pens areas before i strokes (left_text layers pending (marks pens (shapes_after i strokes rest))) (first_text layers pens pending ss) (record { pending = after_first pens pending ss; done = i + 1 }))
    (sym next) (next_stroke layers pens areas before i strokes pending rest s others apart agree next lt is)
next_shape (Some b) layers pens areas before i strokes pending rest s others apart agree next lt is =
    next_area layers pens areas before i strokes pending rest b apart agree is

-- some stroke
abbrev some_stroke : Segment
some_stroke = record {
  pen = 0;
  colour = record { red = 0; green = 0; blue = 0 };
  width = 0;
  window = record { x0 = pos 0; y0 = pos 0; x1 = pos 0; y1 = pos 0 };
  ax = pos 0;
  ay = pos 0;
  bx = pos 0;
  by = pos 0;
}

-- the same for a walk that has come so far
pub one_shape : (layers : Layers) (pens : PenSet) (areas : Areas) (before i : ℕ) (strokes : List Segment) (walk after : Walk) (left : List Area) (rest : List Segment)
    → AreApart walk.done left → Agree before (areas_in areas) walk.done left → walk.done ≡ i → i < length strokes → rest ≡ drop i strokes
    → after ≡ shape_after pens before i walk.pending rest (beginning_at (before + i) (areas_in areas))
    → IsNext layers pens areas before i strokes (left_text layers walk.pending (marks pens (shapes_after walk.done strokes left))) (shape_text layers pens before i walk.pending rest (beginning_at (before + i) (areas_in areas))) after
one_shape layers pens areas before i strokes walk after left rest apart agree same lt is later =
    let o = beginning_at (before + i) (areas_in areas) in
    let pending = walk.pending in
    let next = next_shape o layers pens areas before i strokes pending left (get_or strokes i some_stroke) (drop (suc i) strokes)
    (subst (λ (n : ℕ). AreApart n left) same apart) (subst (λ (n : ℕ). Agree before (areas_in areas) n left) same agree) (drop-cons strokes i some_stroke lt) lt refl in
    let here = subst (λ (ss : List Segment). IsNext layers pens areas before i strokes (left_text layers pending (marks pens (shapes_after i strokes left))) (shape_text layers pens before i pending ss o) (shape_after pens before i pending ss o)) (sym is) next in
    let done = subst (λ (n : ℕ). IsNext layers pens areas before i strokes (left_text layers pending (marks pens (shapes_after n strokes left))) (shape_text layers pens before i pending rest o) (shape_after pens before i pending rest o)) (sym same) here in
    subst (λ (it : Walk). IsNext layers pens areas before i strokes (left_text layers pending (marks pens (shapes_after walk.done strokes left))) (shape_text layers pens before i pending rest o) it) (sym later) done

-- past the last stroke nothing is drawn
no_edges : (pens : PenSet) (strokes : List Segment) (at : ℕ) (left : List Area) → AreApart at left → length strokes ≤ at → drawn_shapes pens (shapes_after at strokes left) ≡ []
no_edges pens strokes at [] apart past = ap (λ (ss : List Segment). drawn_shapes pens (map stroke_shape ss)) (drop_all at strokes past)
no_edges pens strokes at (a ∷ more) apart past =
    let none : drop at (take a.first strokes) ≡ [] = drop_all at (take a.first strokes) (omega (arith, past, length-take a.first strokes)) in
    let edges : edges_of strokes a ≡ [] = drop_all a.first (take a.end strokes) (omega (arith, past, apart.0, length-take a.end strokes)) in
    let rest = no_edges pens strokes a.end more apart.2 (omega (arith, past, apart.0, apart.1)) in
    ap (λ (ss : List Segment). drawn_shapes pens (map stroke_shape ss ++ area_shape strokes a ∷ shapes_after a.end strokes more)) none
    ∙ ap (λ (es : List Segment). cond (begins_drawn pens es) (area_shape strokes a ∷ drawn_shapes pens (shapes_after a.end strokes more)) (drawn_shapes pens (shapes_after a.end strokes more))) edges
    ∙ rest

pub no_marks : (pens : PenSet) (strokes : List Segment) (at : ℕ) (left : List Area) → AreApart at left → length strokes ≤ at → marks pens (shapes_after at strokes left) ≡ []
no_marks pens strokes at left apart past = ap (λ (ss : List Shape). flat_map shape_marks ss) (no_edges pens strokes at left apart past)

-- how far strokes are written
pub record IsAt {K : Type 0} (state : K → SinkState) (old new : Text K) (layers : Layers) (pens : PenSet) (areas : Areas) (before i : ℕ) (walk : Walk) (strokes : List Segment) (all : List ℕ) : Type 0 where
  pub rest : List Area
  pub ahead : i ≤ walk.done
  pub apart : AreApart walk.done rest
  pub agree : Agree before (areas_in areas) walk.done rest
  pub left : Left state old new (left_text layers walk.pending (marks pens (shapes_after walk.done strokes rest))) all
