-- The lines that fill polygons (HP-GL/2 guide: FP, FT). They are parallel, and numbered; the edges of the polygons cut
-- them, and what is inside is drawn in spans. Places are in grains, and distances in ticks of 1/256 grain.
use Rattle.std.specs.Prelude.{ℕ, zero, suc, ◌+◌, ◌*◌, ◌%◌, ◌^◌, Bool, not, ◌&&◌, nat_eq, if◌then◌else◌}
use Rattle.std.specs.Prelude.{List, [], ◌∷◌, ◌++◌, map, filter, count_by}
use Rattle.std.specs.Prelude.{ℤ, pos, neg_ℤ, int_le, int_lt, ◌+ℤ◌, ◌-ℤ◌, ◌*ℤ◌}
use Rattle.std.specs.Int.{int_min, int_max, int_gap}
use Rattle.std.specs.List.{flat_map, list_any}
use Rattle.exact.specs.Fraction.{quotient, floor, round}
use Rattle.exact.specs.declared.spot.Spot.{Spot}
use Rattle.plot_arc.specs.Arcs.{sine_of, cosine_of}
use Rattle.polygons.specs.declared.edge.Edge.{Edge}
use Rattle.polygons.specs.declared.lines.Lines.{Lines}
use Rattle.polygons.specs.declared.lines.Rule.{Rule}
use Rattle.polygons.specs.declared.lines.Rule.TheVariants.{OddCounts, Winding}
use Rattle.polygons.specs.declared.span.Span.{Span}

-- how far a place is from the line through the anchor, to its left; 10^7 is a tick
abbrev pub height : Lines → Spot → ℤ
height lines p =
    pos 256 *ℤ (cosine_of lines.angle *ℤ (p.y -ℤ lines.anchor.y) -ℤ sine_of lines.angle *ℤ (p.x -ℤ lines.anchor.x))

-- how far along the lines a place is; 10^7 is a grain
abbrev pub rank : Lines → Spot → ℤ
rank lines p = cosine_of lines.angle *ℤ p.x +ℤ sine_of lines.angle *ℤ p.y

-- from each line to the next
abbrev pub line_distance : Lines → ℕ
line_distance lines = 10 ^ 7 * lines.apart

-- the height of line k
abbrev pub level : Lines → ℤ → ℤ
level lines k = k *ℤ pos (line_distance lines)

-- the heights of an edge's ends, the lower one first
abbrev pub bottom : Lines → Edge → ℤ
bottom lines e = int_min (height lines e.from) (height lines e.to)

abbrev pub top : Lines → Edge → ℤ
top lines e = int_max (height lines e.from) (height lines e.to)

-- an edge crosses the lines that are not below its lower end, and below its upper end
abbrev pub crosses : Lines → ℤ → Edge → Bool
crosses lines k e = int_le (bottom lines e) (level lines k) && int_lt (level lines k) (top lines e)

-- where an edge crosses a line, and whether it leads upwards
pub record Crossing : Type 0 where
  pub place : Spot
  pub is_upward : Bool

-- t / u of a distance, rounded
abbrev pub share_of_distance : ℤ → ℤ → ℤ → ℤ
share_of_distance d t u = round (quotient (d *ℤ t) u)

-- the place after t / u of the way from a to b
abbrev pub place_after : Spot → Spot → ℤ → ℤ → Spot
place_after a b t u = record { x = a.x +ℤ share_of_distance (b.x -ℤ a.x) t u; y = a.y +ℤ share_of_distance (b.y -ℤ a.y) t u }

abbrev pub crossing : Lines → ℤ → Edge → Crossing
crossing lines k e =
    let a = height lines e.from in
    let b = height lines e.to in
    record { place = place_after e.from e.to (level lines k -ℤ a) (b -ℤ a); is_upward = int_lt a b }

-- the crossings of line k, in the order of the edges
abbrev pub crossings : Lines → ℤ → List Edge → List Crossing
crossings lines k edges = map (crossing lines k) (filter (crosses lines k) edges)

-- a list with x before the first of its items that is not less
abbrev pub put_in : {X : Type 0} → (X → ℤ) → X → List X → List X
put_in key x [] = x ∷ []
put_in key x (y ∷ ys) = if int_le (key x) (key y) then x ∷ (y ∷ ys) else y ∷ put_in key x ys

-- a list sorted by a key; items of one key keep their order
abbrev pub sorted_by : {X : Type 0} → (X → ℤ) → List X → List X
sorted_by key [] = []
sorted_by key (x ∷ xs) = put_in key x (sorted_by key xs)

-- the crossings of line k in the order in which they are on the line
abbrev pub ordered_crossings : Lines → ℤ → List Edge → List Crossing
ordered_crossings lines k edges = sorted_by (λ c. rank lines c.place) (crossings lines k edges)

-- whether a line is inside after this many upward crossings and this many others
abbrev pub is_inside : Rule → ℕ → ℕ → Bool
is_inside OddCounts upward others = nat_eq ((upward + others) % 2) 1
is_inside Winding upward others = not (nat_eq upward others)

abbrev pub is_inside_after : Rule → List Crossing → Bool
is_inside_after rule passed =
    is_inside rule (count_by (λ c. c.is_upward) passed) (count_by (λ c. not c.is_upward) passed)

-- the span from one crossing to the next, if the line is inside there
abbrev pub span_from : Bool → Crossing → List Crossing → List Span
span_from inside c [] = []
span_from inside c (d ∷ ds) = if inside then record { from = c.place; to = d.place } ∷ [] else []

-- the spans of a line from some of its crossings on; others were passed before
abbrev pub spans_after : Rule → List Crossing → List Crossing → List Span
spans_after rule passed [] = []
spans_after rule passed (c ∷ cs) =
    let reached = passed ++ (c ∷ []) in
    span_from (is_inside_after rule reached) c cs ++ spans_after rule reached cs

-- the spans of line k
abbrev pub line_spans : Lines → Rule → List Edge → ℤ → List Span
line_spans lines rule edges k = spans_after rule [] (ordered_crossings lines k edges)

-- the least line that is not below a height
abbrev pub line_from : Lines → ℤ → ℤ
line_from lines h = neg_ℤ (floor (record { over = neg_ℤ h; under = line_distance lines }))

-- the heights that all edges and the anchor are between
abbrev pub lowest : Lines → List Edge → ℤ
lowest lines [] = pos 0
lowest lines (e ∷ es) = int_min (bottom lines e) (lowest lines es)

abbrev pub highest : Lines → List Edge → ℤ
highest lines [] = pos 0
highest lines (e ∷ es) = int_max (top lines e) (highest lines es)

-- n numbers from k on
abbrev pub consecutive : ℤ → ℕ → List ℤ
consecutive k zero = []
consecutive k (suc n) = k ∷ consecutive (k +ℤ pos 1) n

-- the numbers from k on below m
abbrev pub numbers_to : ℤ → ℤ → List ℤ
numbers_to k m = consecutive k (int_gap k m)

-- the spans of each line that an edge crosses, from line k on, in order
unfoldable pub filled_from : Lines → Rule → List Edge → ℤ → List (List Span)
filled_from lines rule edges k =
    map (line_spans lines rule edges)
    (filter (λ j. list_any (crosses lines j) edges) (numbers_to k (line_from lines (highest lines edges))))

-- the spans of each line that an edge crosses, in order
unfoldable pub filled : Lines → Rule → List Edge → List (List Span)
filled lines rule edges = filled_from lines rule edges (line_from lines (lowest lines edges))

-- all spans
unfoldable pub spans : Lines → Rule → List Edge → List Span
spans lines rule edges = flat_map (λ line. line) (filled lines rule edges)
