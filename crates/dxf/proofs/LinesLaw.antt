-- The lines of the entities are what is seen of the strokes and edges that are drawn.
use Rattle.std.proofs.Common.{◌≡◌, ◌∙◌, ℕ, ◌*◌, ◌==◌, ◌&&◌, Bool, true, false, cond, ℤ, List, [], ◌∷◌, ◌++◌, filter_map, flat_map, length, map, Option, Some, None, refl, ap, sym, subst, arith, append-nil}
use Rattle.std.proofs.lemmas.Bool.{and_parts}
use Rattle.std.proofs.lemmas.Int.{ints}
use Rattle.std.proofs.lemmas.List.{map-append, take_all}
use Rattle.std.specs.List.{cons_option}
use Rattle.std.specs.Ordering.{int_eq}
use Rattle.areas.specs.Shapes.{Shape, stroke_shape}
use Rattle.plot_page.specs.Segments.{Segment}
use Rattle.plot_page.specs.declared.pens.PenSet.{PenSet}
use Rattle.stroke_runs.specs.Drawn.{drawn, drawn_shapes, is_drawn, is_same_colour}
use Rattle.dxf.specs.Chains.{Break, Chain, Following, Mark, Seen, beginning, chains, following, following_next, going_on, goes_on, is_same_point, mark_if, piece_on, shape_marks, stroke_marks}
use Rattle.dxf.specs.Cuts.{line_of}
use Rattle.dxf.specs.Entities.{last_of}
use Rattle.dxf.specs.Layers.{layers_of}
use Rattle.dxf.specs.Reader.{Lines, Look}
use Rattle.dxf.specs.Readings.{chain_entities, chain_entity, entities_of, lines_of, lines_through, look_of, shape_entities}
use Rattle.dxf.specs.declared.chains.Piece.{Piece}
use Rattle.dxf.specs.declared.cuts.Line.{Line}
use Rattle.dxf.specs.declared.cuts.Point.{Point}
use Rattle.dxf.specs.declared.layers.Layers.{Layers}

pub same_int : (a b : ℤ) → int_eq a b ≡ true → a ≡ b
same_int a b h = grind (arith, ints, h)

pub same_point : (p q : Point) → is_same_point p q ≡ true → p ≡ q
same_point p q h =
    let both = and_parts (int_eq p.x q.x) (int_eq p.y q.y) h in
    let x = same_int p.x q.x both.0 in
    let y = same_int p.y q.y both.1 in
    λ i. record { x = x i; y = y i }

abbrev pub line_of_piece : Piece → Line
line_of_piece p = record { from = p.from; to = p.to }

-- each piece begins where the one before it ends
abbrev pub AreLinked : Piece → List Piece → Type 0
AreLinked last [] = Unit {0}
AreLinked last (q ∷ qs) = (last.to ≡ q.from) × AreLinked q qs

through : (p : Piece) (ps : List Piece) → AreLinked p ps → lines_through p.from (map (λ q. q.from) ps ++ (last_of p ps).to ∷ []) ≡ map line_of_piece (p ∷ ps)
through p [] h = refl
through p (q ∷ qs) h = λ i. record { from = p.from; to = sym h.0 i } ∷ through q qs h.1 i

-- a piece by itself
single_lines : (b : Bool) (seen : Look) (p : Piece) → is_same_point p.from p.to ≡ b → lines_of (Lines seen None false (cond b (p.from ∷ []) (p.from ∷ p.to ∷ []))) ≡ line_of_piece p ∷ []
single_lines true seen p h = (let e = same_point p.from p.to h in ap (λ (q : Point). record { from = p.from; to = q } ∷ []) e)
single_lines false seen p h = refl

-- a chain that is closed ends where it began
abbrev pub IsRight : Piece → List Piece → Type 0
IsRight p ps = AreLinked p ps × ((last_of p ps).is_closed ≡ p.is_closed) × (p.is_closed ≡ true → is_same_point p.from (last_of p ps).to ≡ true)

points_by : (closed b : Bool) (p q last : Piece) (qs : List Piece) (seen : Look) → p.is_closed ≡ closed → is_same_point p.from last.to ≡ b → (closed ≡ true → b ≡ true)
    → lines_of (Lines seen (Some (15625 * p.width)) closed (p.from ∷ (map (λ z. z.from) (q ∷ qs) ++ cond (closed && b) [] (last.to ∷ []))))
    ≡ lines_through p.from (map (λ z. z.from) (q ∷ qs) ++ last.to ∷ [])
points_by true true p q last qs seen e f h =
    ap (λ (zs : List Point). lines_through p.from (q.from ∷ (zs ++ p.from ∷ []))) (append-nil (map (λ z. z.from) qs))
    ∙ ap (λ (r : Point). lines_through p.from (q.from ∷ (map (λ z. z.from) qs ++ r ∷ []))) (same_point p.from last.to f)
points_by true false p q last qs seen e f h = (let impossible = h refl in cc)
points_by false b p q last qs seen e f h =
    ap (λ (zs : List Point). lines_through p.from (q.from ∷ zs)) (append-nil (map (λ z. z.from) qs ++ last.to ∷ []))

chain_lines : (layers : Layers) (p : Piece) (ps : List Piece) → IsRight p ps → lines_of (chain_entity layers p ps) ≡ map line_of_piece (p ∷ ps)
chain_lines layers p [] h = single_lines (is_same_point p.from p.to) (look_of layers p.pen p.colour) p refl
chain_lines layers p (q ∷ qs) h =
    let last = last_of q qs in
    let seen = look_of layers p.pen p.colour in
    ap (λ (c : Bool). lines_of (Lines seen (Some (15625 * p.width)) p.is_closed (p.from ∷ (map (λ z. z.from) (q ∷ qs) ++ cond (c && is_same_point p.from last.to) [] (last.to ∷ []))))) h.1
    ∙ points_by p.is_closed (is_same_point p.from last.to) p q last qs seen refl refl h.2
    ∙ through p (q ∷ qs) h.0

abbrev pub AreRight : List Chain → Type 0
AreRight [] = Unit {0}
AreRight (c ∷ cs) = IsRight c.first c.others × AreRight cs

-- the pieces of chains
abbrev pub pieces_of : List Chain → List Piece
pieces_of cs = flat_map (λ c. c.first ∷ c.others) cs

pub chains_lines : (layers : Layers) (cs : List Chain) → AreRight cs → flat_map lines_of (chain_entities layers cs) ≡ map line_of_piece (pieces_of cs)
chains_lines layers [] h = refl
chains_lines layers (c ∷ cs) h =
    (λ i. chain_lines layers c.first c.others h.0 i ++ chains_lines layers cs h.1 i) ∙ sym (map-append line_of_piece (c.first ∷ c.others) (pieces_of cs))

-- the pieces of marks
abbrev pub seen_of : List Mark → List Piece
seen_of [] = []
seen_of (Seen p ∷ ms) = p ∷ seen_of ms
seen_of (Break ∷ ms) = seen_of ms

following_by : (b : Bool) (next : Piece) (f : Following) (ps : List Piece) → f.rest ++ pieces_of f.chains ≡ ps → (cond b (going_on next f) (beginning next f)).rest ++ pieces_of (cond b (going_on next f) (beginning next f)).chains ≡ next ∷ ps
following_by true next f ps h = ap (λ (zs : List Piece). next ∷ zs) h
following_by false next f ps h = ap (λ (zs : List Piece). next ∷ zs) h

pub none_goes_on : (ms : List Mark) → (following None ms).rest ≡ []
none_goes_on [] = refl
none_goes_on (Seen p ∷ ms) = refl
none_goes_on (Break ∷ ms) = refl

-- chains have all pieces, in order
pub all_pieces : (last : Option Piece) (ms : List Mark) → (following last ms).rest ++ pieces_of (following last ms).chains ≡ seen_of ms
all_pieces last [] = refl
all_pieces None (Seen next ∷ ms) = ap (λ (zs : List Piece). next ∷ zs) (all_pieces (Some next) ms)
all_pieces (Some last) (Seen next ∷ ms) = following_by (goes_on last next) next (following (Some next) ms) (seen_of ms) (all_pieces (Some next) ms)
all_pieces None (Break ∷ ms) = ap (λ (zs : List Piece). zs ++ pieces_of (following None ms).chains) (sym (none_goes_on ms)) ∙ all_pieces None ms
all_pieces (Some last) (Break ∷ ms) = ap (λ (zs : List Piece). zs ++ pieces_of (following None ms).chains) (sym (none_goes_on ms)) ∙ all_pieces None ms

-- pieces that are not closed
abbrev pub AreOpen : List Piece → Type 0
AreOpen [] = Unit {0}
AreOpen (p ∷ ps) = (p.is_closed ≡ false) × AreOpen ps

last_open : (p : Piece) (ps : List Piece) → p.is_closed ≡ false → AreOpen ps → (last_of p ps).is_closed ≡ false
last_open p [] h k = h
last_open p (q ∷ qs) h k = last_open q qs k.0 k.1

open_right : (p : Piece) (ps : List Piece) → p.is_closed ≡ false → AreLinked p ps → AreOpen ps → IsRight p ps
open_right p ps h l k = (l, last_open p ps h k ∙ sym h, (λ e. (let impossible = sym h ∙ e in cc)))

abbrev pub AreLinkedIf : Option Piece → List Piece → Type 0
AreLinkedIf None ps = Unit {0}
AreLinkedIf (Some last) ps = AreLinked last ps

-- what follows the last piece, of pieces that are not closed
pub record IsOpen (last : Option Piece) (f : Following) : Type 0 where
  pub linked : AreLinkedIf last f.rest
  pub unclosed : AreOpen f.rest
  pub right : AreRight f.chains

pub linked_by : (last next : Piece) → goes_on last next ≡ true → last.to ≡ next.from
linked_by last next h =
    same_point last.to next.from (and_parts ((last.pen == next.pen && last.width == next.width) && is_same_colour last.colour next.colour) (is_same_point last.to next.from) h).1

begun : (last : Option Piece) (next : Piece) (f : Following) → AreLinkedIf last [] → next.is_closed ≡ false → IsOpen (Some next) f → IsOpen last (beginning next f)
begun last next f none h k = record { linked = none; unclosed = tt; right = (open_right next f.rest h k.linked k.unclosed, k.right) }

step_by : (b : Bool) (last next : Piece) (f : Following) → goes_on last next ≡ b → next.is_closed ≡ false → IsOpen (Some next) f → IsOpen (Some last) (cond b (going_on next f) (beginning next f))
step_by true last next f e h k = record { linked = (linked_by last next e, k.linked); unclosed = (h, k.unclosed); right = k.right }
step_by false last next f e h k = begun (Some last) next f tt h k

open_step : (last : Option Piece) (next : Piece) (f : Following) → next.is_closed ≡ false → IsOpen (Some next) f → IsOpen last (following_next last next f)
open_step None next f h k = begun None next f tt h k
open_step (Some last) next f h k = step_by (goes_on last next) last next f refl h k

pub no_more : (last : Option Piece) → AreLinkedIf last []
no_more None = tt
no_more (Some last) = tt

-- the marks of strokes
abbrev stroke_marks_of : List Segment → List Mark
stroke_marks_of ss = flat_map shape_marks (map stroke_shape ss)

pub one_open : (o : Option Line) (last : Option Piece) (width : ℕ) (s : Segment) (ms : List Mark) → ((next : Option Piece) → IsOpen next (following next ms)) → IsOpen last (following last (mark_if (piece_on width false s o) ++ ms))
one_open None last width s ms h = h last
one_open (Some line) last width s ms h =
    let next : Piece = record { pen = s.pen; colour = s.colour; width = width; is_closed = false; from = line.from; to = line.to } in
    open_step last next (following (Some next) ms) refl (h (Some next))

marks_open : (last : Option Piece) (ss : List Segment) → IsOpen last (following last (stroke_marks_of ss))
marks_open last [] = record { linked = no_more last; unclosed = tt; right = tt }
marks_open last (s ∷ ss) =
    subst (λ (ms : List Mark). IsOpen last (following last (ms ++ stroke_marks_of ss))) (sym (append-nil (stroke_marks s)))
    (one_open (line_of s) last s.width s (stroke_marks_of ss) (λ next. marks_open next ss))

-- their lines
pub seen_both : (ms ns : List Mark) → seen_of (ms ++ ns) ≡ seen_of ms ++ seen_of ns
seen_both [] ns = refl
seen_both (Seen p ∷ ms) ns = ap (λ (zs : List Piece). p ∷ zs) (seen_both ms ns)
seen_both (Break ∷ ms) ns = seen_both ms ns

pub one_line : (o : Option Line) (width : ℕ) (closed : Bool) (s : Segment) (ls : List Line) → map line_of_piece (seen_of (mark_if (piece_on width closed s o))) ++ ls ≡ cons_option o ls
one_line None width closed s ls = refl
one_line (Some line) width closed s ls = refl

lines_seen : (ss : List Segment) → map line_of_piece (seen_of (stroke_marks_of ss)) ≡ filter_map line_of ss
lines_seen [] = refl
lines_seen (s ∷ ss) =
    let own = mark_if (piece_on s.width false s (line_of s)) in
    ap (λ (ms : List Mark). map line_of_piece (seen_of (ms ++ stroke_marks_of ss))) (append-nil (stroke_marks s))
    ∙ ap (λ (ps : List Piece). map line_of_piece ps) (seen_both own (stroke_marks_of ss))
    ∙ map-append line_of_piece (seen_of own) (seen_of (stroke_marks_of ss))
    ∙ ap (λ (ls : List Line). map line_of_piece (seen_of own) ++ ls) (lines_seen ss)
    ∙ one_line (line_of s) s.width false s (filter_map line_of ss)

strokes_drawn_by : (b : Bool) (s : Segment) (ss : List Segment) (ts : List Shape) → ts ≡ map stroke_shape ss → cond b (stroke_shape s ∷ ts) ts ≡ map stroke_shape (cond b (s ∷ ss) ss)
strokes_drawn_by true s ss ts h = ap (λ (zs : List Shape). stroke_shape s ∷ zs) h
strokes_drawn_by false s ss ts h = h

strokes_drawn : (pens : PenSet) (ss : List Segment) → drawn_shapes pens (map stroke_shape ss) ≡ map stroke_shape (drawn pens ss)
strokes_drawn pens [] = refl
strokes_drawn pens (s ∷ ss) = strokes_drawn_by (is_drawn pens s) s (drawn pens ss) (drawn_shapes pens (map stroke_shape ss)) (strokes_drawn pens ss)

pub strokes_seen : (sheet : Option ℕ) (pens : PenSet) (strokes : List Segment) → flat_map lines_of (entities_of sheet pens strokes [] []) ≡ filter_map line_of (drawn pens strokes)
strokes_seen sheet pens strokes =
    let layers = layers_of sheet pens strokes in
    let ms = stroke_marks_of (drawn pens strokes) in
    ap (λ (ss : List Segment). flat_map lines_of (shape_entities layers pens (map stroke_shape ss))) (take_all (length strokes) strokes (omega arith))
    ∙ ap (λ (ss : List Shape). flat_map lines_of (chain_entities layers (chains (flat_map shape_marks ss)))) (strokes_drawn pens strokes)
    ∙ chains_lines layers (chains ms) (marks_open None (drawn pens strokes)).right
    ∙ ap (λ (ps : List Piece). map line_of_piece ps) (ap (λ (zs : List Piece). zs ++ pieces_of (following None ms).chains) (sym (none_goes_on ms)) ∙ all_pieces None ms)
    ∙ lines_seen (drawn pens strokes)
