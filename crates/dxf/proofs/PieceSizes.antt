-- The numbers of pieces are small enough to be read.
use Rattle.std.proofs.Common.{ℕ, ◌+◌, ◌*◌, ◌^◌, ◌<◌, ◌≤◌, max, ℤ, pos, ◌-ℤ◌, ◌*ℤ◌, int_lt, nat_abs, Bool, true, false, cond, List, [], ◌∷◌, ◌++◌, drop, take, map, flat_map, zero, suc, Option, Some, None, is_some, arith}
use Rattle.std.proofs.lemmas.Nat.{mul-le}
use Rattle.std.specs.List.{All, list_all}
use Rattle.std.proofs.lemmas.List.Elements.{All-head, All-tail}
use Rattle.exact.specs.Fraction.{quotient, round}
use Rattle.exact.proofs.Between.{within}
use Rattle.exact.proofs.Fit.{difference_within, product_within, sum_within}
use Rattle.areas.specs.Shapes.{Shape, areas_from, area_shape, shapes_after, stroke_shape}
use Rattle.areas.specs.declared.area.Area.{Area}
use Rattle.plot_page.specs.Segments.{Segment}
use Rattle.plot_page.specs.declared.pens.PenSet.{PenSet}
use Rattle.stroke_runs.specs.Drawn.{begins_drawn, drawn_shapes}
use Rattle.stroke_runs.specs.Ranges.{IsInRange}
use Rattle.stroke_runs.specs.Sheets.{shapes_between}
use Rattle.dxf.specs.Chains.{Break, Chain, Following, Mark, Seen, area_marks, beginning, chains, edge_marks, following, following_next, going_on, goes_on, mark_if, marks, piece_of, piece_on, shape_marks, stroke_marks}
use Rattle.dxf.specs.Cuts.{coordinate_at, cut_line, earlier, is_open, is_whole, later, left_side, line_of, lower_side, narrowed, own_line, point_at, right_side, share_of, span_of, upper_side, weighted, whole_way}
use Rattle.dxf.specs.Groups.{in_parts}
use Rattle.dxf.specs.declared.chains.Piece.{Piece}
use Rattle.dxf.specs.declared.cuts.Line.{Line}
use Rattle.dxf.specs.declared.cuts.Share.{Share}
use Rattle.dxf.specs.declared.cuts.Side.{Side}
use Rattle.dxf.specs.declared.cuts.Span.{Span}
use Rattle.dxf.proofs.EntityReads.{AreSmallPieces, IsSmallPiece, IsSmallPoint}

-- a place of the page
pub place_small : (z : ℤ) → nat_abs z ≤ 134217712 → nat_abs (in_parts z) < 10000000 * 2 ^ 64
place_small z h = (let p = product_within (pos 15625) z 15625 134217712 (omega arith) h in omega (arith, p))

-- shares of the way along a stroke
abbrev IsShort : Share → Type 0
IsShort t = (t.over ≤ 268435456) × (t.under ≤ 268435456)

abbrev IsShortSpan : Span → Type 0
IsShortSpan span = IsShort span.from × IsShort span.to

abbrev IsShortSide : Side → Type 0
IsShortSide e = (nat_abs e.p ≤ 268435456) × (nat_abs e.q ≤ 268435456)

either_share : (b : Bool) (s t : Share) → IsShort s → IsShort t → IsShort (cond b s t)
either_share true s t h k = h
either_share false s t h k = k

narrowed_by : (a b c : Bool) (e : Side) (span : Span) → IsShortSide e → IsShortSpan span
    → IsShortSpan (cond a (cond b (record span { from = later span.from (share_of e) }) (record span { is_seen = false })) (cond c (record span { to = earlier span.to (share_of e) }) span))
narrowed_by true true c e span h k = (either_share _ (share_of e) span.from (h.1, h.0) k.0, k.1)
narrowed_by true false c e span h k = k
narrowed_by false b true e span h k = (k.0, either_share _ (share_of e) span.to (h.1, h.0) k.1)
narrowed_by false b false e span h k = k

narrowed_short : (e : Side) (span : Span) → IsShortSide e → IsShortSpan span → IsShortSpan (narrowed e span)
narrowed_short e span h k = narrowed_by (int_lt e.q (pos 0)) (int_lt e.p (pos 0)) (int_lt (pos 0) e.p) e span h k

less : (a b : ℤ) → nat_abs a ≤ 134217712 → nat_abs b ≤ 134217712 → nat_abs (a -ℤ b) ≤ 268435456
less a b h k = (let d = difference_within a b 134217712 134217712 h k in omega (arith, d))

span_short : (s : Segment) → IsInRange s → IsShortSpan (span_of s)
span_short s r =
    let way : IsShortSpan whole_way = ((omega arith, omega arith), (omega arith, omega arith)) in
    let left = narrowed_short (left_side s) whole_way (less s.ax s.bx r.ax r.bx, less s.ax s.window.x0 r.ax r.x0) way in
    let right = narrowed_short (right_side s) _ (less s.bx s.ax r.bx r.ax, less s.window.x1 s.ax r.x1 r.ax) left in
    let lower = narrowed_short (lower_side s) _ (less s.ay s.by r.ay r.by, less s.ay s.window.y0 r.ay r.y0) right in
    narrowed_short (upper_side s) _ (less s.by s.ay r.by r.ay, less s.window.y1 s.ay r.y1 r.ay) lower

-- a coordinate of a cut end
quotient_small : (k : ℕ) (a : ℤ) (m : ℕ) → 0 < k → nat_abs a ≤ m → nat_abs (round (quotient a (pos k))) ≤ m
quotient_small k a m h p = (let grows : 1 * m ≤ k * m = mul-le 1 m k m h (omega arith) in within k m a h (omega (arith, grows, p)))

coordinate_small : (a b : ℤ) (t : Share) → nat_abs a ≤ 134217712 → nat_abs b ≤ 134217712 → IsShort t → nat_abs (coordinate_at a b t) < 10000000 * 2 ^ 64
coordinate_small a b t h k s =
    let first = product_within a (pos t.under) 134217712 268435456 h s.1 in
    let second = product_within (b -ℤ a) (pos t.over) 268435456 268435456 (less b a k h) s.0 in
    let all = sum_within (a *ℤ pos t.under) ((b -ℤ a) *ℤ pos t.over) (134217712 * 268435456) (268435456 * 268435456) first second in
    let parts = product_within (pos 15625) (weighted a b t) 15625 (134217712 * 268435456 + 268435456 * 268435456) (omega arith) all in
    let q = quotient_small (max t.under 1) (in_parts (weighted a b t)) (15625 * (134217712 * 268435456 + 268435456 * 268435456)) (omega arith) parts in
    omega (arith, q)

point_small : (s : Segment) (t : Share) → IsInRange s → IsShort t → IsSmallPoint (point_at s t)
point_small s t r h = (coordinate_small s.ax s.bx t r.ax r.bx h, coordinate_small s.ay s.by t r.ay r.by h)

-- what is seen of a stroke
abbrev IsSmallLine : Option Line → Type 0
IsSmallLine None = Unit {0}
IsSmallLine (Some line) = IsSmallPoint line.from × IsSmallPoint line.to

cut_by : (b : Bool) (s : Segment) (span : Span) → IsInRange s → IsShortSpan span → IsSmallLine (cond b (Some (record { from = point_at s span.from; to = point_at s span.to })) None)
cut_by true s span r h = (point_small s span.from r h.0, point_small s span.to r h.1)
cut_by false s span r h = tt

line_by : (b : Bool) (s : Segment) → IsInRange s → IsSmallLine (cond b (Some (own_line s)) (cut_line s (span_of s)))
line_by true s r = ((place_small s.ax r.ax, place_small s.ay r.ay), (place_small s.bx r.bx, place_small s.by r.by))
line_by false s r = cut_by (is_open (span_of s)) s (span_of s) r (span_short s r)

-- marks of small pieces
abbrev pub AreSmallMarks : List Mark → Type 0
AreSmallMarks [] = Unit {0}
AreSmallMarks (Seen p ∷ ms) = IsSmallPiece p × AreSmallMarks ms
AreSmallMarks (Break ∷ ms) = AreSmallMarks ms

both_small : (ms ns : List Mark) → AreSmallMarks ms → AreSmallMarks ns → AreSmallMarks (ms ++ ns)
both_small [] ns h k = k
both_small (Seen p ∷ ms) ns h k = (h.0, both_small ms ns h.1 k)
both_small (Break ∷ ms) ns h k = both_small ms ns h k

mark_small : (o : Option Line) (width : ℕ) (closed : Bool) (s : Segment) → width ≤ 12800 → IsSmallLine o → AreSmallMarks (mark_if (piece_on width closed s o))
mark_small None width closed s w h = tt
mark_small (Some line) width closed s w h = (record { from = h.0; to = h.1; width = omega (arith, w) }, tt)

stroke_small : (width : ℕ) (closed : Bool) (s : Segment) → width ≤ 12800 → IsInRange s → AreSmallMarks (mark_if (piece_of width closed s))
stroke_small width closed s w r = mark_small (line_of s) width closed s w (line_by (is_whole s) s r)

-- strokes in range
abbrev pub AreInRange : List Segment → Type 0
AreInRange [] = Unit {0}
AreInRange (s ∷ ss) = IsInRange s × AreInRange ss

pub range_of : (ss : List Segment) → All IsInRange ss → AreInRange ss
range_of [] h = tt
range_of (s ∷ ss) h = (All-head IsInRange s ss h, range_of ss (All-tail IsInRange s ss h))

pub range_take : (n : ℕ) (ss : List Segment) → AreInRange ss → AreInRange (take n ss)
range_take zero ss h = tt
range_take (suc n) [] h = tt
range_take (suc n) (s ∷ ss) h = (h.0, range_take n ss h.1)

pub range_drop : (n : ℕ) (ss : List Segment) → AreInRange ss → AreInRange (drop n ss)
range_drop zero ss h = h
range_drop (suc n) [] h = tt
range_drop (suc n) (s ∷ ss) h = range_drop n ss h.1

edges_small : (closed : Bool) (ss : List Segment) → AreInRange ss → AreSmallMarks (edge_marks closed ss)
edges_small closed [] h = tt
edges_small closed (s ∷ ss) h = both_small (mark_if (piece_of 24 closed s)) (edge_marks closed ss) (stroke_small 24 closed s (omega arith) h.0) (edges_small closed ss h.1)

strokes_small : (ss : List Segment) → AreInRange ss → AreSmallMarks (flat_map stroke_marks ss)
strokes_small [] h = tt
strokes_small (s ∷ ss) h = both_small (stroke_marks s) (flat_map stroke_marks ss) (stroke_small s.width false s h.0.width h.0) (strokes_small ss h.1)

shape_by : (b : Bool) (ss : List Segment) → AreInRange ss → AreSmallMarks (cond b (area_marks ss) (flat_map stroke_marks ss))
shape_by true ss h = both_small (edge_marks (list_all is_whole ss) ss) (Break ∷ []) (edges_small (list_all is_whole ss) ss h) tt
shape_by false ss h = strokes_small ss h

abbrev HaveRange : List Shape → Type 0
HaveRange [] = Unit {0}
HaveRange (s ∷ ss) = AreInRange s.strokes × HaveRange ss

shapes_small : (ss : List Shape) → HaveRange ss → AreSmallMarks (flat_map shape_marks ss)
shapes_small [] h = tt
shapes_small (s ∷ ss) h = both_small (shape_marks s) (flat_map shape_marks ss) (shape_by (is_some s.rule) s.strokes h.0) (shapes_small ss h.1)

drawn_by : (b : Bool) (s : Shape) (ss : List Shape) → AreInRange s.strokes → HaveRange ss → HaveRange (cond b (s ∷ ss) ss)
drawn_by true s ss h k = (h, k)
drawn_by false s ss h k = k

drawn_range : (pens : PenSet) (ss : List Shape) → HaveRange ss → HaveRange (drawn_shapes pens ss)
drawn_range pens [] h = tt
drawn_range pens (s ∷ ss) h = drawn_by (begins_drawn pens s.strokes) s (drawn_shapes pens ss) h.0 (drawn_range pens ss h.1)

have_both : (ss ts : List Shape) → HaveRange ss → HaveRange ts → HaveRange (ss ++ ts)
have_both [] ts h k = k
have_both (s ∷ ss) ts h k = (h.0, have_both ss ts h.1 k)

of_strokes : (ss : List Segment) → AreInRange ss → HaveRange (map stroke_shape ss)
of_strokes [] h = tt
of_strokes (s ∷ ss) h = ((h.0, tt), of_strokes ss h.1)

after_range : (at : ℕ) (strokes : List Segment) (areas : List Area) → AreInRange strokes → HaveRange (shapes_after at strokes areas)
after_range at strokes [] h = of_strokes (drop at strokes) (range_drop at strokes h)
after_range at strokes (a ∷ more) h =
    have_both (map stroke_shape (drop at (take a.first strokes))) (area_shape strokes a ∷ shapes_after a.end strokes more)
    (of_strokes (drop at (take a.first strokes)) (range_drop at (take a.first strokes) (range_take a.first strokes h)))
    (range_drop a.first (take a.end strokes) (range_take a.end strokes h), after_range a.end strokes more h)

-- the marks of the shapes between two strokes
pub marks_small : (pens : PenSet) (strokes : List Segment) (areas : List Area) (at end : ℕ) → AreInRange strokes → AreSmallMarks (marks pens (shapes_between strokes areas at end))
marks_small pens strokes areas at end h =
    let shapes = shapes_between strokes areas at end in
    shapes_small (drawn_shapes pens shapes) (drawn_range pens shapes (after_range at (take end strokes) (areas_from at areas) (range_take end strokes h)))

-- the chains of small pieces
abbrev pub AreSmallChains : List Chain → Type 0
AreSmallChains [] = Unit {0}
AreSmallChains (c ∷ cs) = IsSmallPiece c.first × AreSmallPieces c.others × AreSmallChains cs

abbrev IsSmallFollowing : Following → Type 0
IsSmallFollowing f = AreSmallPieces f.rest × AreSmallChains f.chains

next_by : (b : Bool) (next : Piece) (f : Following) → IsSmallPiece next → IsSmallFollowing f → IsSmallFollowing (cond b (going_on next f) (beginning next f))
next_by true next f h k = ((h, k.0), k.1)
next_by false next f h k = (tt, (h, k.0, k.1))

next_small : (last : Option Piece) (next : Piece) (f : Following) → IsSmallPiece next → IsSmallFollowing f → IsSmallFollowing (following_next last next f)
next_small None next f h k = (tt, (h, k.0, k.1))
next_small (Some last) next f h k = next_by (goes_on last next) next f h k

following_small : (last : Option Piece) (ms : List Mark) → AreSmallMarks ms → IsSmallFollowing (following last ms)
following_small last [] h = (tt, tt)
following_small last (Seen next ∷ ms) h = next_small last next (following (Some next) ms) h.0 (following_small (Some next) ms h.1)
following_small last (Break ∷ ms) h = (tt, (following_small None ms h).1)

pub chains_small : (ms : List Mark) → AreSmallMarks ms → AreSmallChains (chains ms)
chains_small ms h = (following_small None ms h).1
