-- What fills polygons stays in each box that their edges are in.
use Rattle.std.proofs.Common.{◌≡◌, Bool, true, false, List, [], ◌∷◌, ◌++◌, map, inl, inr, ℤ, int_le, int_lt}
use Rattle.std.specs.List.{All, flat_map}
use Rattle.std.proofs.lemmas.Bool.{cases_Bool, and_parts}
use Rattle.std.proofs.lemmas.List.Elements.{All-nil, All-cons, All-head, All-tail, All-append}
use Rattle.exact.specs.declared.spot.Spot.{Spot}
use Rattle.polygons.specs.declared.edge.Edge.{Edge}
use Rattle.polygons.specs.declared.span.Span.{Span}
use Rattle.polygons.specs.declared.lines.Lines.{Lines}
use Rattle.polygons.specs.declared.lines.Rule.{Rule}
use Rattle.polygons.specs.Fills.{Crossing, bottom, top, height, level, rank, crosses, crossing, crossings, filled, filled_from, is_inside_after, line_spans, ordered_crossings, put_in, sorted_by, span_from, spans, spans_after}
use Rattle.polygons.specs.Laws.{IsInBox, FillsStay}
use Rattle.polygons.proofs.Tests.{le_from, lt_from}
use Rattle.polygons.proofs.Shares.{moved_between}
use Rattle.polygons.proofs.Ends.{on_way}

abbrev EdgeIn : Spot → Spot → Edge → Type 0
EdgeIn low high e = IsInBox low high e.from × IsInBox low high e.to

abbrev CrossingIn : Spot → Spot → Crossing → Type 0
CrossingIn low high c = IsInBox low high c.place

abbrev SpanIn : Spot → Spot → Span → Type 0
SpanIn low high s = IsInBox low high s.from × IsInBox low high s.to

-- where an edge crosses a line, between its ends
crossing_in : (lines : Lines) (k : ℤ) (e : Edge) (low high : Spot) → crosses lines k e ≡ true → EdgeIn low high e → CrossingIn low high (crossing lines k e)
crossing_in lines k e low high c h =
    let p = and_parts (int_le (bottom lines e) (level lines k)) (int_lt (level lines k) (top lines e)) c in
    let w = on_way (height lines e.from) (height lines e.to) (level lines k)
    (le_from (bottom lines e) (level lines k) p.0) (lt_from (level lines k) (top lines e) p.1) in
    let f = h.0 in
    let t = h.1 in
    let x = moved_between e.from.x e.to.x _ _ low.x high.x w.0 w.1 f.left f.right t.left t.right in
    let y = moved_between e.from.y e.to.y _ _ low.y high.y w.0 w.1 f.below f.above t.below t.above in
    record { left = x.0; right = x.1; below = y.0; above = y.1 }

crossings_in : (lines : Lines) (k : ℤ) (low high : Spot) (edges : List Edge) → All (EdgeIn low high) edges → All (CrossingIn low high) (crossings lines k edges)
crossings_in lines k low high [] h = All-nil (CrossingIn low high)
crossings_in lines k low high (e ∷ es) h =
    let more = crossings_in lines k low high es (All-tail (EdgeIn low high) e es h) in
    elim (cases_Bool (crosses lines k e)) [
      | inl t ↦ rw t (All-cons (CrossingIn low high) (crossing lines k e) (crossings lines k es)
          (crossing_in lines k e low high t (All-head (EdgeIn low high) e es h)) more)
      | inr t ↦ rw t more
    ]

-- the order does not matter
put_in_all : {X : Type 0} (P : X → Type 0) (key : X → ℤ) (x : X) (xs : List X) → P x → All P xs → All P (put_in key x xs)
put_in_all P key x [] h k = All-cons P x [] h k
put_in_all P key x (y ∷ ys) h k = elim (cases_Bool (int_le (key x) (key y))) [
  | inl t ↦ rw t (All-cons P x (y ∷ ys) h k)
  | inr t ↦ rw t (All-cons P y (put_in key x ys) (All-head P y ys k) (put_in_all P key x ys h (All-tail P y ys k)))
]

sorted_all : {X : Type 0} (P : X → Type 0) (key : X → ℤ) (xs : List X) → All P xs → All P (sorted_by key xs)
sorted_all P key [] h = h
sorted_all P key (x ∷ xs) h = put_in_all P key x (sorted_by key xs) (All-head P x xs h) (sorted_all P key xs (All-tail P x xs h))

-- a span leads from crossing to crossing
span_in : (inside : Bool) (low high : Spot) (c : Crossing) (cs : List Crossing) → CrossingIn low high c → All (CrossingIn low high) cs
    → All (SpanIn low high) (span_from inside c cs)
span_in inside low high c [] h k = All-nil (SpanIn low high)
span_in true low high c (d ∷ ds) h k =
    All-cons (SpanIn low high) (record { from = c.place; to = d.place }) [] (h, All-head (CrossingIn low high) d ds k) (All-nil (SpanIn low high))
span_in false low high c (d ∷ ds) h k = All-nil (SpanIn low high)

spans_in : (rule : Rule) (low high : Spot) (cs passed : List Crossing) → All (CrossingIn low high) cs → All (SpanIn low high) (spans_after rule passed cs)
spans_in rule low high [] passed h = All-nil (SpanIn low high)
spans_in rule low high (c ∷ cs) passed h =
    let rest = All-tail (CrossingIn low high) c cs h in
    let reached : List Crossing = passed ++ (c ∷ []) in
    All-append (SpanIn low high) (span_from (is_inside_after rule reached) c cs) (spans_after rule reached cs)
    (span_in (is_inside_after rule reached) low high c cs (All-head (CrossingIn low high) c cs h) rest)
    (spans_in rule low high cs reached rest)

line_in : (lines : Lines) (rule : Rule) (edges : List Edge) (low high : Spot) (k : ℤ) → All (EdgeIn low high) edges
    → All (SpanIn low high) (line_spans lines rule edges k)
line_in lines rule edges low high k h =
    spans_in rule low high (ordered_crossings lines k edges) []
    (sorted_all (CrossingIn low high) (λ c. rank lines c.place) (crossings lines k edges) (crossings_in lines k low high edges h))

-- of any lines
lines_in : (lines : Lines) (rule : Rule) (edges : List Edge) (low high : Spot) (ks : List ℤ) → All (EdgeIn low high) edges
    → All (SpanIn low high) (flat_map (λ line. line) (map (line_spans lines rule edges) ks))
lines_in lines rule edges low high [] h = All-nil (SpanIn low high)
lines_in lines rule edges low high (k ∷ ks) h =
    All-append (SpanIn low high) (line_spans lines rule edges k) (flat_map (λ line. line) (map (line_spans lines rule edges) ks))
    (line_in lines rule edges low high k h) (lines_in lines rule edges low high ks h)

pub fills_stay_lem : FillsStay
unfolding spans filled filled_from
fills_stay_lem lines rule edges low high h = lines_in lines rule edges low high _ h
