-- The numbers of some shapes and one more, and the table of the pens after it.
use Rattle.std.proofs.Common.{◌≡◌, ℕ, zero, suc, ◌+◌, ◌<◌, ◌≤◌, List, [], ◌∷◌, ◌++◌, length, filter, get_or, set, nat_eq, cond, Bool, true, false, is_none, is_some, inl, inr, refl, ap, sym, ◌∙◌, arith, append-nil, length-append}
use Rattle.std.proofs.lemmas.Bool.{cases_eq, eq-eqb}
use Rattle.std.proofs.lemmas.Bool.Decides.{nat_tests}
use Rattle.std.proofs.lemmas.List.{get_or-set_same, get_or-set_other}
use Rattle.std.proofs.lemmas.List.Concat.{flat_map-append}
use Rattle.std.proofs.lemmas.List.Elements.{filter-append}
use Rattle.plot_page.specs.Segments.{Segment}
use Rattle.polygons.specs.declared.lines.Rule.{Rule}
use Rattle.areas.specs.Shapes.{Shape, stroke_shape}
use Rattle.plot_report.specs.declared.pens.PenSummary.{PenSummary}
use Rattle.plot_report.specs.declared.pens.Summaries.{Summaries}
use Rattle.plot_report.specs.declared.summary.StrokeSummary.{StrokeSummary}
use Rattle.plot_report.specs.Report.{all_edges, areas_among, last_pen, shapes_of, strokes_among, summary_of}
use Rattle.plot_report.specs.Summaries.{AreAtMost, AreOf, area_with, pen_summary}

abbrev has_no_rule : Shape → Bool
has_no_rule shape = is_none shape.rule

abbrev has_rule : Shape → Bool
has_rule shape = is_some shape.rule

edges_joined : (ss ts : List Shape) → all_edges (ss ++ ts) ≡ all_edges ss ++ all_edges ts
edges_joined ss ts = flat_map-append (λ (shape : Shape). shape.strokes) ss ts

-- with a stroke
pub strokes_and_one : (before : List Shape) (s : Segment) → strokes_among (before ++ (stroke_shape s ∷ [])) ≡ strokes_among before ++ (s ∷ [])
strokes_and_one before s =
    ap all_edges (filter-append has_no_rule before (stroke_shape s ∷ [])) ∙ edges_joined (filter has_no_rule before) (stroke_shape s ∷ [])

same_areas : (before : List Shape) (s : Segment) → areas_among (before ++ (stroke_shape s ∷ [])) ≡ areas_among before
same_areas before s = filter-append has_rule before (stroke_shape s ∷ []) ∙ append-nil (areas_among before)

-- with an area
pub same_strokes : (before : List Shape) (rule : Rule) (edges : List Segment) → strokes_among (before ++ (area_with rule edges ∷ [])) ≡ strokes_among before
same_strokes before rule edges =
    ap all_edges (filter-append has_no_rule before (area_with rule edges ∷ []) ∙ append-nil (filter has_no_rule before))

areas_and_one : (before : List Shape) (rule : Rule) (edges : List Segment) → areas_among (before ++ (area_with rule edges ∷ [])) ≡ areas_among before ++ (area_with rule edges ∷ [])
areas_and_one before rule edges = filter-append has_rule before (area_with rule edges ∷ [])

edges_and_more : (before : List Shape) (rule : Rule) (edges : List Segment) → all_edges (areas_among (before ++ (area_with rule edges ∷ []))) ≡ all_edges (areas_among before) ++ edges
edges_and_more before rule edges =
    ap all_edges (areas_and_one before rule edges) ∙ edges_joined (areas_among before) (area_with rule edges ∷ [])
    ∙ ap (λ (ss : List Segment). all_edges (areas_among before) ++ ss) (append-nil edges)

pub stroke_added : (before : List Shape) (s : Segment) (of : PenSummary) (strokes : StrokeSummary) → of ≡ pen_summary before → strokes ≡ summary_of (strokes_among before ++ (s ∷ []))
    → record of { strokes = strokes } ≡ pen_summary (before ++ (stroke_shape s ∷ []))
stroke_added before s of strokes is new =
    let first : strokes ≡ summary_of (strokes_among (before ++ (stroke_shape s ∷ []))) = new ∙ ap summary_of (sym (strokes_and_one before s)) in
    let areas = sym (same_areas before s) in
    let counted : of.areas ≡ length (areas_among (before ++ (stroke_shape s ∷ []))) = ap (λ (p : PenSummary). p.areas) is ∙ ap length areas in
    let edges : of.edges ≡ summary_of (all_edges (areas_among (before ++ (stroke_shape s ∷ [])))) = ap (λ (p : PenSummary). p.edges) is ∙ ap (λ (ss : List Shape). summary_of (all_edges ss)) areas in
    λ i. record { strokes = first i; areas = counted i; edges = edges i }

pub area_added : (before : List Shape) (rule : Rule) (edges : List Segment) (of : PenSummary) (areas : ℕ) (sum : StrokeSummary) → of ≡ pen_summary before → areas ≡ of.areas + 1 → sum ≡ summary_of (all_edges (areas_among before) ++ edges)
    → record of { areas = areas; edges = sum } ≡ pen_summary (before ++ (area_with rule edges ∷ []))
area_added before rule edges of areas sum is one new =
    let all = before ++ (area_with rule edges ∷ []) in
    let strokes : of.strokes ≡ summary_of (strokes_among all) = ap (λ (p : PenSummary). p.strokes) is ∙ ap summary_of (sym (same_strokes before rule edges)) in
    let counted : areas ≡ length (areas_among all) =
    one ∙ ap (λ (p : PenSummary). p.areas + 1) is ∙ sym (length-append (areas_among before) (area_with rule edges ∷ [])) ∙ ap length (sym (areas_and_one before rule edges)) in
    let last : sum ≡ summary_of (all_edges (areas_among all)) = new ∙ ap summary_of (sym (edges_and_more before rule edges)) in
    λ i. record { strokes = strokes i; areas = counted i; edges = last i }

-- the shapes of a pen, and one more
shapes_more : (pen : ℕ) (before : List Shape) (shape : Shape) → shapes_of pen (before ++ (shape ∷ [])) ≡ shapes_of pen before ++ cond (nat_eq (last_pen shape.strokes) pen) (shape ∷ []) []
shapes_more pen before shape = filter-append (λ (other : Shape). nat_eq (last_pen other.strokes) pen) before (shape ∷ [])

its_shapes : (pen : ℕ) (before : List Shape) (shape : Shape) → last_pen shape.strokes ≡ pen → shapes_of pen (before ++ (shape ∷ [])) ≡ shapes_of pen before ++ (shape ∷ [])
its_shapes pen before shape same =
    shapes_more pen before shape ∙ ap (λ (b : Bool). shapes_of pen before ++ cond b (shape ∷ []) []) (eq-eqb (last_pen shape.strokes) pen same)

other_shapes : (pen : ℕ) (before : List Shape) (shape : Shape) → (last_pen shape.strokes ≡ pen → ⊥) → shapes_of pen (before ++ (shape ∷ [])) ≡ shapes_of pen before
other_shapes pen before shape other =
    let test : nat_eq (last_pen shape.strokes) pen ≡ false = grind (arith, nat_tests, other) in
    shapes_more pen before shape ∙ ap (λ (b : Bool). shapes_of pen before ++ cond b (shape ∷ []) []) test ∙ append-nil _

-- a table of the numbers of the shapes of each pen
abbrev pub TableOf : List PenSummary → List Shape → Type 0
TableOf table shapes = (pen : ℕ) (d : PenSummary) → 0 < pen → pen < 256 → get_or table pen d ≡ pen_summary (shapes_of pen shapes)

-- the entry of the shape's pen has the numbers of one shape more, and the others stay
pub table_more : (table : List PenSummary) (before : List Shape) (shape : Shape) (p : ℕ) (new : PenSummary) → p < length table → last_pen shape.strokes ≡ p → TableOf table before
    → new ≡ pen_summary (shapes_of p before ++ (shape ∷ [])) → TableOf (set table p new) (before ++ (shape ∷ []))
table_more table before shape p new room its so_far is_new pen d some small = elim (cases_eq p pen) [
  | inl same ↦
      ap (λ (k : ℕ). get_or (set table p new) k d) (sym same) ∙ get_or-set_same table p new d room ∙ is_new
      ∙ ap pen_summary (sym (its_shapes p before shape its)) ∙ ap (λ (k : ℕ). pen_summary (shapes_of k (before ++ (shape ∷ [])))) same
  | inr other ↦ get_or-set_other table p pen new d (λ e. other (sym e)) ∙ so_far pen d some small ∙ ap pen_summary (sym (other_shapes pen before shape (λ e. other (sym its ∙ e))))
]

-- no shapes are kept that were not there
few_kept : (p : Shape → Bool) (shapes : List Shape) → length (filter p shapes) ≤ length shapes
few_kept p [] = omega arith
few_kept p (s ∷ ss) = let rest : length (filter p ss) ≤ length ss = few_kept p ss in grind arith

edges_if : (b : Bool) (s : Shape) (kept all : List Shape) → length (all_edges kept) ≤ length (all_edges all) → length (all_edges (cond b (s ∷ kept) kept)) ≤ length (all_edges (s ∷ all))
edges_if true s kept all h = omega (arith, h, length-append s.strokes (all_edges kept), length-append s.strokes (all_edges all))
edges_if false s kept all h = omega (arith, h, length-append s.strokes (all_edges all))

edges_kept : (p : Shape → Bool) (shapes : List Shape) → length (all_edges (filter p shapes)) ≤ length (all_edges shapes)
edges_kept p [] = omega arith
edges_kept p (s ∷ ss) = edges_if (p s) s (filter p ss) ss (edges_kept p ss)

-- shapes with so few strokes have no greater numbers
pub are_at_most : (s : Summaries) (before : List Shape) (most : ℕ) → AreOf s before → length before ≤ most → length (all_edges before) ≤ most → AreAtMost s most
are_at_most s before most of few few_edges = record {
  strokes = omega (arith, of.strokes, few_edges, edges_kept has_no_rule before);
  of_pen = λ pen d some small.
      let n : (get_or s.pens pen d).strokes.strokes ≡ length (strokes_among (shapes_of pen before)) = ap (λ (p : PenSummary). p.strokes.strokes) (of.pens pen d some small) in
      omega (arith, n, few_edges, edges_kept has_no_rule (shapes_of pen before), edges_kept (λ shape. nat_eq (last_pen shape.strokes) pen) before);
  areas_of_pen = λ pen d some small.
      let n : (get_or s.pens pen d).areas ≡ length (areas_among (shapes_of pen before)) = ap (λ (p : PenSummary). p.areas) (of.pens pen d some small) in
      omega (arith, n, few, few_kept has_rule (shapes_of pen before), few_kept (λ shape. nat_eq (last_pen shape.strokes) pen) before);
  edges_of_pen = λ pen d some small.
      let n : (get_or s.pens pen d).edges.strokes ≡ length (all_edges (areas_among (shapes_of pen before))) = ap (λ (p : PenSummary). p.edges.strokes) (of.pens pen d some small) in
      omega (arith, n, few_edges, edges_kept has_rule (shapes_of pen before), edges_kept (λ shape. nat_eq (last_pen shape.strokes) pen) before);
}

-- one shape more has its strokes more
pub edges_more : (before : List Shape) (shape : Shape) → length (all_edges (before ++ (shape ∷ []))) ≡ length (all_edges before) + length shape.strokes
edges_more before shape =
    ap length (edges_joined before (shape ∷ []) ∙ ap (λ (ss : List Segment). all_edges before ++ ss) (append-nil shape.strokes)) ∙ length-append (all_edges before) shape.strokes

-- the pen of the last of some strokes
pub pen_of_last : (ss : List Segment) (d : Segment) (n : ℕ) → length ss ≡ n + 1 → last_pen ss ≡ (get_or ss n d).pen
pen_of_last [] d n is = absurd (omega (arith, is))
pen_of_last (s ∷ []) d zero is = refl
pen_of_last (s ∷ []) d (suc n) is = absurd (omega (arith, is))
pen_of_last (s ∷ t ∷ ss) d zero is = absurd (omega (arith, is))
pen_of_last (s ∷ t ∷ ss) d (suc n) is = pen_of_last (t ∷ ss) d n (omega (arith, is))

-- the numbers are those of more shapes too, if these have no strokes and no pen
pub still_of : (s : Summaries) (before rest : List Shape) → AreOf s before → strokes_among rest ≡ [] → ((pen : ℕ) → 0 < pen → shapes_of pen rest ≡ []) → AreOf s (before ++ rest)
still_of s before rest of no_strokes no_pen = record {
  strokes =
      let all : strokes_among (before ++ rest) ≡ strokes_among before =
      ap all_edges (filter-append has_no_rule before rest) ∙ edges_joined (filter has_no_rule before) (filter has_no_rule rest)
      ∙ ap (λ (ss : List Segment). strokes_among before ++ ss) no_strokes ∙ append-nil (strokes_among before) in
      of.strokes ∙ ap length (sym all);
  pens = λ pen d some small.
      let all : shapes_of pen (before ++ rest) ≡ shapes_of pen before =
      filter-append (λ (shape : Shape). nat_eq (last_pen shape.strokes) pen) before rest
      ∙ ap (λ (ss : List Shape). shapes_of pen before ++ ss) (no_pen pen some) ∙ append-nil (shapes_of pen before) in
      of.pens pen d some small ∙ ap pen_summary (sym all);
}
