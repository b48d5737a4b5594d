-- The chains of the edges of an area that no window cuts end where they began.
use Rattle.std.proofs.Common.{◌≡◌, ◌∙◌, ℕ, ◌==◌, Bool, true, false, cond, ℤ, List, [], ◌∷◌, ◌++◌, flat_map, map, Some, None, refl, ap, sym, subst, arith}
use Rattle.std.proofs.lemmas.Bool.{and_parts}
use Rattle.std.proofs.lemmas.Bool.Decides.{nat_tests}
use Rattle.std.proofs.lemmas.Int.{ints}
use Rattle.std.proofs.lemmas.List.Elements.{All-head, All-tail}
use Rattle.std.specs.List.{All, list_all}
use Rattle.std.specs.Ordering.{int_eq}
use Rattle.areas.specs.Laws.{IsRound, LeadsTo}
use Rattle.plot_page.specs.Segments.{Segment}
use Rattle.plot_page.specs.declared.colour.Colour.{Colour}
use Rattle.stroke_runs.specs.Drawn.{is_same_colour}
use Rattle.stroke_runs.specs.declared.shown.TheConstants.{LEAST_WIDTH}
use Rattle.dxf.specs.Chains.{Following, Mark, Seen, beginning, edge_marks, following, going_on, goes_on, is_same_point, mark_if, piece_on}
use Rattle.dxf.specs.Cuts.{cut_line, is_whole, own_line, point_of, span_of}
use Rattle.dxf.specs.Entities.{last_of}
use Rattle.dxf.specs.Outlines.{IsOutline}
use Rattle.dxf.specs.declared.chains.Piece.{Piece}
use Rattle.dxf.specs.declared.cuts.Point.{Point}
use Rattle.dxf.proofs.LinesLaw.{AreLinked, AreRight, IsRight, linked_by}

-- the same numbers, points and colours pass the tests
same_number : (n : ℕ) → (n == n) ≡ true
same_number n = grind (arith, nat_tests)

same_integer : (z : ℤ) → int_eq z z ≡ true
same_integer z = grind (arith, ints)

same_place : (p : Point) → is_same_point p p ≡ true
same_place p = rw (same_integer p.x, same_integer p.y) refl

same_colour : (c : Colour) → is_same_colour c c ≡ true
same_colour c = rw (same_number c.red, same_number c.green, same_number c.blue) refl

-- an edge that is seen as a whole
abbrev whole_piece : Segment → Piece
whole_piece e = record {
  pen = e.pen;
  colour = e.colour;
  width = LEAST_WIDTH;
  is_closed = true;
  from = point_of e.ax e.ay;
  to = point_of e.bx e.by;
}

abbrev whole_marks : List Segment → List Mark
whole_marks edges = map (λ e. Seen (whole_piece e)) edges

-- the edges of an area that no window cuts
pub marks_whole : (edges : List Segment) → list_all is_whole edges ≡ true → edge_marks true edges ≡ whole_marks edges
marks_whole [] h = refl
marks_whole (e ∷ es) h =
    let both = and_parts (is_whole e) (list_all is_whole es) h in
    ap (λ (b : Bool). mark_if (piece_on LEAST_WIDTH true e (cond b (Some (own_line e)) (cut_line e (span_of e)))) ++ edge_marks true es) both.0
    ∙ ap (λ (ms : List Mark). Seen (whole_piece e) ∷ ms) (marks_whole es both.1)

-- edges of one pen and one colour
abbrev IsInked : ℕ → Colour → Segment → Type 0
IsInked pen colour e = (e.pen ≡ pen) × (e.colour ≡ colour)

abbrev AreInked : ℕ → Colour → List Segment → Type 0
AreInked pen colour [] = Unit {0}
AreInked pen colour (e ∷ es) = IsInked pen colour e × AreInked pen colour es

inked_of : (pen : ℕ) (colour : Colour) (es : List Segment) → All (IsInked pen colour) es → AreInked pen colour es
inked_of pen colour [] h = tt
inked_of pen colour (e ∷ es) h = (All-head (IsInked pen colour) e es h, inked_of pen colour es (All-tail (IsInked pen colour) e es h))

inked_front : (pen : ℕ) (colour : Colour) (es ds : List Segment) → AreInked pen colour (es ++ ds) → AreInked pen colour es
inked_front pen colour [] ds h = tt
inked_front pen colour (e ∷ es) ds h = (h.0, inked_front pen colour es ds h.1)

inked_back : (pen : ℕ) (colour : Colour) (es ds : List Segment) → AreInked pen colour (es ++ ds) → AreInked pen colour ds
inked_back pen colour [] ds h = h
inked_back pen colour (e ∷ es) ds h = inked_back pen colour es ds h.1

-- closed polygons
abbrev joined : List (List Segment) → List Segment
joined polygons = flat_map (λ polygon. polygon) polygons

abbrev AreClosed : List (List Segment) → Type 0
AreClosed [] = Unit {0}
AreClosed (p ∷ ps) = IsRound p × AreClosed ps

closed_of : (ps : List (List Segment)) → All IsRound ps → AreClosed ps
closed_of [] h = tt
closed_of (p ∷ ps) h = (All-head IsRound p ps h, closed_of ps (All-tail IsRound p ps h))

-- what follows a piece of a chain that began at a point
record IsClosing (start : Point) (last : Piece) (f : Following) : Type 0 where
  linked : AreLinked last f.rest
  ends : (last_of last f.rest).to ≡ start
  closed : (last_of last f.rest).is_closed ≡ true
  right : AreRight f.chains

right_of : (next : Piece) (f : Following) → next.is_closed ≡ true → IsClosing next.from next f → IsRight next f.rest
right_of next f c k =
    (k.linked, k.closed ∙ sym c, λ e. ap (λ (p : Point). is_same_point next.from p) k.ends ∙ same_place next.from)

-- a polygon after one that has ended: its first edge goes on the chain, or begins another
close_by : (b : Bool) (start : Point) (last next : Piece) (f : Following) → goes_on last next ≡ b → last.to ≡ start → last.is_closed ≡ true → next.is_closed ≡ true → IsClosing next.from next f
    → IsClosing start last (cond b (going_on next f) (beginning next f))
close_by true start last next f e at c d k =
    let link = linked_by last next e in
    record { linked = (link, k.linked); ends = k.ends ∙ sym link ∙ at; closed = k.closed; right = k.right }
close_by false start last next f e at c d k = record { linked = tt; ends = at; closed = c; right = (right_of next f d k, k.right) }

-- the next edge of a polygon goes on
next_goes_on : (pen : ℕ) (colour : Colour) (l e : Segment) → IsInked pen colour l → IsInked pen colour e → e.ax ≡ l.bx → e.ay ≡ l.by → goes_on (whole_piece l) (whole_piece e) ≡ true
next_goes_on pen colour l e h k x y =
    let pens : (l.pen == e.pen) ≡ true = rw (h.0, k.0) (same_number pen) in
    let colours : is_same_colour l.colour e.colour ≡ true = rw (h.1, k.1) (same_colour colour) in
    let points : is_same_point (point_of l.bx l.by) (point_of e.ax e.ay) ≡ true = rw (x, y) (same_place (point_of l.bx l.by)) in
    rw (pens, colours, points) refl

-- the rest of a polygon that began at a place, and what follows it
in_polygon : (pen : ℕ) (colour : Colour) (x y : ℤ) (ds es : List Segment)
    → ((m : Segment) → IsInked pen colour m → m.bx ≡ x → m.by ≡ y → IsClosing (point_of x y) (whole_piece m) (following (Some (whole_piece m)) (whole_marks ds)))
    → (l : Segment) → IsInked pen colour l → AreInked pen colour es → LeadsTo l.bx l.by es x y
    → IsClosing (point_of x y) (whole_piece l) (following (Some (whole_piece l)) (whole_marks (es ++ ds)))
in_polygon pen colour x y ds [] later l own inked leads = later l own leads.0 leads.1
in_polygon pen colour x y ds (e ∷ es) later l own inked leads =
    let k = in_polygon pen colour x y ds es later e inked.0 inked.1 leads.2 in
    let next = whole_piece e in
    let f = following (Some next) (whole_marks (es ++ ds)) in
    let goes = next_goes_on pen colour l e own inked.0 leads.0 leads.1 in
    let link = linked_by (whole_piece l) next goes in
    let it : IsClosing (point_of x y) (whole_piece l) (going_on next f) = record { linked = (link, k.linked); ends = k.ends; closed = k.closed; right = k.right } in
    subst (λ (b : Bool). IsClosing (point_of x y) (whole_piece l) (cond b (going_on next f) (beginning next f))) (sym goes) it

-- the polygons after an edge that ended where its own one began
polygons_close : (pen : ℕ) (colour : Colour) (ps : List (List Segment)) → AreClosed ps → AreInked pen colour (joined ps)
    → (x y : ℤ) (l : Segment) → IsInked pen colour l → l.bx ≡ x → l.by ≡ y → IsClosing (point_of x y) (whole_piece l) (following (Some (whole_piece l)) (whole_marks (joined ps)))
polygons_close pen colour [] closed inked x y l own u v = record { linked = tt; ends = (λ i. point_of (u i) (v i)); closed = refl; right = tt }
polygons_close pen colour ([] ∷ ps) closed inked x y l own u v = polygons_close pen colour ps closed.1 inked x y l own u v
polygons_close pen colour ((e ∷ es) ∷ ps) closed inked x y l own u v =
    let round = closed.0 in
    let back = inked_back pen colour es (joined ps) inked.1 in
    let front = inked_front pen colour es (joined ps) inked.1 in
    let k = in_polygon pen colour round.x round.y (joined ps) es (λ m mine p q. polygons_close pen colour ps closed.1 back round.x round.y m mine p q) e inked.0 front round.closed.2 in
    let next = whole_piece e in
    let f = following (Some next) (whole_marks (es ++ joined ps)) in
    let begins : point_of round.x round.y ≡ next.from = (λ i. point_of (sym round.closed.0 i) (sym round.closed.1 i)) in
    close_by (goes_on (whole_piece l) next) (point_of x y) (whole_piece l) next f refl (λ i. point_of (u i) (v i)) refl refl (subst (λ (p : Point). IsClosing p next f) begins k)

-- all polygons
polygons_right : (pen : ℕ) (colour : Colour) (ps : List (List Segment)) → AreClosed ps → AreInked pen colour (joined ps) → AreRight (following None (whole_marks (joined ps))).chains
polygons_right pen colour [] closed inked = tt
polygons_right pen colour ([] ∷ ps) closed inked = polygons_right pen colour ps closed.1 inked
polygons_right pen colour ((e ∷ es) ∷ ps) closed inked =
    let round = closed.0 in
    let back = inked_back pen colour es (joined ps) inked.1 in
    let front = inked_front pen colour es (joined ps) inked.1 in
    let k = in_polygon pen colour round.x round.y (joined ps) es (λ m mine p q. polygons_close pen colour ps closed.1 back round.x round.y m mine p q) e inked.0 front round.closed.2 in
    let next = whole_piece e in
    let f = following (Some next) (whole_marks (es ++ joined ps)) in
    let begins : point_of round.x round.y ≡ next.from = (λ i. point_of (sym round.closed.0 i) (sym round.closed.1 i)) in
    let own : IsClosing next.from next f = subst (λ (p : Point). IsClosing p next f) begins k in
    (right_of next f refl own, own.right)

pub whole_right : (edges : List Segment) → IsOutline edges → AreRight (following None (whole_marks edges)).chains
whole_right edges h =
    let ps = h.round.polygons in
    let inked = inked_of h.pen h.colour edges h.alike in
    subst (λ (es : List Segment). AreRight (following None (whole_marks es)).chains) (sym h.round.is)
    (polygons_right h.pen h.colour ps (closed_of ps h.round.each) (subst (λ (es : List Segment). AreInked h.pen h.colour es) h.round.is inked))
