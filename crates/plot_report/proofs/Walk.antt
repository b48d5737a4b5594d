-- A pass over shapes, from one to the next.
use Rattle.std.proofs.Common.{◌≡◌, ℕ, ◌+◌, ◌-◌, ◌<◌, ◌≤◌, List, [], ◌∷◌, ◌++◌, length, take, drop, get_or, map, Bool, true, false, cond, nat_eq, nat_le, Some, None, refl, ap, sym, subst, ◌∙◌, arith, inl, inr, append_assoc, length-append, length-drop, length-take}
use Rattle.std.proofs.lemmas.Bool.{cases_Bool, cases_lt}
use Rattle.std.proofs.lemmas.Bool.Decides.{nat_tests}
use Rattle.std.proofs.lemmas.List.{drop_all}
use Rattle.plot_page.specs.Segments.{Segment}
use Rattle.areas.specs.Shapes.{AreApart, Shape, area_shape, areas_from, beginning_at, edges_of, shapes, shapes_after, stroke_shape}
use Rattle.areas.specs.declared.area.Area.{Area}
use Rattle.polygons.specs.declared.lines.Rule.{Rule}
use Rattle.areas.proofs.Apart.{all_kept, apart_from}
use Rattle.areas.proofs.NextShapes.{area_next, stroke_next}
use Rattle.plot_report.specs.declared.pens.Summaries.{Summaries}
use Rattle.plot_report.specs.Report.{all_edges, shapes_of, strokes_among}
use Rattle.plot_report.specs.Summaries.{AreAtMost, AreOf, area_with}
use Rattle.plot_report.proofs.Table.{are_at_most, edges_more, still_of}

none_before : (k n : ℕ) (more : List Area) → AreApart k more → n < k → beginning_at n more ≡ None
none_before k n [] h low = refl
none_before k n (a ∷ more) h low =
    let other : nat_eq a.first n ≡ false = grind (arith, nat_tests, low, h.0) in
    rw other (none_before a.end n more h.2 (omega (arith, low, h.0, h.1)))

-- an area begins here, and those after it begin where it has ended, or later
record Begins (at : ℕ) (areas : List Area) (a : Area) : Type 0 where
  here : a.first ≡ at
  some : at < a.end
  left : areas_from at areas ≡ a ∷ areas_from a.end areas

begins_first : (k at : ℕ) (a b : Area) (more : List Area) → AreApart k (b ∷ more) → b.first ≡ at → b ≡ a → Begins at (b ∷ more) a
begins_first k at a b more h same is =
    let from : nat_le at b.first ≡ true = grind (arith, nat_tests, same) in
    let after : nat_le b.end b.first ≡ false = grind (arith, nat_tests, h.1) in
    let kept = all_kept b.end at more h.2 (omega (arith, h.1, same)) in
    let rest = all_kept b.end b.end more h.2 (omega arith) in
    let left : areas_from at (b ∷ more) ≡ b ∷ areas_from b.end (b ∷ more) = rw (from, after, kept, rest) refl in
    rw (← is) (record { here = same; some = omega (arith, same, h.1); left = left })

begins_later : (at : ℕ) (a b : Area) (more : List Area) → b.first < at → Begins at more a → Begins at (b ∷ more) a
begins_later at a b more low h =
    let from : nat_le at b.first ≡ false = grind (arith, nat_tests, low) in
    let after : nat_le a.end b.first ≡ false = grind (arith, nat_tests, low, h.some) in
    record { here = h.here; some = h.some; left = rw (from, after) h.left }

begins : (k at : ℕ) (areas : List Area) (a : Area) → AreApart k areas → beginning_at at areas ≡ Some a → Begins at areas a
begins k at [] a h is = cc
begins k at (b ∷ more) a h is = elim (cases_Bool (nat_eq b.first at)) [
  | inl e ↦
      let same : b.first ≡ at = grind (arith, nat_tests, e) in
      let found = rw e at is in
      let it : b ≡ a = cc in
      begins_first k at a b more h same it
  | inr e ↦
      let found = rw e at is in
      elim (cases_lt b.first at) [
        | inl low ↦ begins_later at a b more low (begins b.end at more a h.2 found)
        | inr high ↦
            let other : at < b.first = grind (arith, nat_tests, e, high) in
            let none = none_before b.end at more h.2 (omega (arith, other, h.1)) in
            cc
      ]
]

-- if none begins here, those that begin later are left
not_begun : (at : ℕ) (areas : List Area) → beginning_at at areas ≡ None → areas_from at areas ≡ areas_from (at + 1) areas
not_begun at [] none = refl
not_begun at (b ∷ more) none = elim (cases_Bool (nat_eq b.first at)) [
  | inl e ↦ let found = rw e at none in cc
  | inr e ↦
      let others = rw e at none in
      let rest = not_begun at more others in
      let test : nat_le at b.first ≡ nat_le (at + 1) b.first = grind (arith, nat_tests, e) in
      rw (test, rest) refl
]

-- the next shape is an area
next_area : (at : ℕ) (strokes : List Segment) (areas : List Area) (a : Area) → Begins at areas a → shapes_after at strokes (areas_from at areas) ≡ area_shape strokes a ∷ shapes_after a.end strokes (areas_from a.end areas)
next_area at strokes areas a h =
    ap (λ (left : List Area). shapes_after at strokes left) h.left ∙ area_next at strokes a (areas_from a.end areas) h.here

-- the next shape is a stroke
next_stroke : (at : ℕ) (strokes : List Segment) (areas : List Area) (s : Segment) → at < length strokes → s ≡ get_or strokes at s → AreApart 0 areas → beginning_at at areas ≡ None
    → shapes_after at strokes (areas_from at areas) ≡ stroke_shape s ∷ shapes_after (at + 1) strokes (areas_from (at + 1) areas)
next_stroke at strokes areas s lt is h none =
    ap (λ (left : List Area). shapes_after at strokes left) (not_begun at areas none)
    ∙ stroke_next at strokes (areas_from (at + 1) areas) s lt is (apart_from 0 (at + 1) areas h)

-- at first all shapes are left
all_left : (strokes : List Segment) (areas : List Area) → AreApart 0 areas → [] ++ shapes_after 0 strokes (areas_from 0 areas) ≡ shapes strokes areas
all_left strokes areas h = ap (λ (left : List Area). shapes_after 0 strokes left) (all_kept 0 0 areas h (omega arith))

-- one more shape was passed
passed : (before : List Shape) (shape : Shape) (left rest all : List Shape) → before ++ left ≡ all → left ≡ shape ∷ rest → (before ++ (shape ∷ [])) ++ rest ≡ all
passed before shape left rest all h is = append_assoc before (shape ∷ []) rest ∙ ap (λ (ss : List Shape). before ++ ss) (sym is) ∙ h

few_edges : (strokes : List Segment) (a : Area) → length (edges_of strokes a) ≤ a.end - a.first
few_edges strokes a = omega (arith, length-drop a.first (take a.end strokes), length-take a.end strokes)

-- past the last stroke there are only areas without edges
module _ (at : ℕ) (strokes : List Segment) (a : Area) (more : List Area) (apart : AreApart at (a ∷ more)) (past : length strokes ≤ at) where
  past_area : shapes_after at strokes (a ∷ more) ≡ area_with a.rule [] ∷ shapes_after a.end strokes more
  past_area =
      let none : drop at (take a.first strokes) ≡ [] = drop_all at (take a.first strokes) (omega (arith, past, length-take a.first strokes)) in
      let edges : edges_of strokes a ≡ [] = drop_all a.first (take a.end strokes) (omega (arith, past, apart.0, length-take a.end strokes)) in
      λ i. map stroke_shape (none i) ++ area_with a.rule (edges i) ∷ shapes_after a.end strokes more

no_strokes : (at : ℕ) (strokes : List Segment) (left : List Area) → AreApart at left → length strokes ≤ at → strokes_among (shapes_after at strokes left) ≡ []
no_strokes at strokes [] apart past = ap (λ (ss : List Segment). strokes_among (map stroke_shape ss)) (drop_all at strokes past)
no_strokes at strokes (a ∷ more) apart past =
    ap strokes_among (past_area at strokes a more apart past) ∙ no_strokes a.end strokes more apart.2 (omega (arith, past, apart.0, apart.1))

no_pen : (pen at : ℕ) (strokes : List Segment) (left : List Area) → 0 < pen → AreApart at left → length strokes ≤ at → shapes_of pen (shapes_after at strokes left) ≡ []
no_pen pen at strokes [] some apart past = ap (λ (ss : List Segment). shapes_of pen (map stroke_shape ss)) (drop_all at strokes past)
no_pen pen at strokes (a ∷ more) some apart past =
    let rest = no_pen pen a.end strokes more some apart.2 (omega (arith, past, apart.0, apart.1)) in
    let test : nat_eq 0 pen ≡ false = grind (arith, nat_tests, some) in
    ap (λ (ss : List Shape). shapes_of pen ss) (past_area at strokes a more apart past)
    ∙ ap (λ (b : Bool). cond b (area_with a.rule [] ∷ shapes_of pen (shapes_after a.end strokes more)) (shapes_of pen (shapes_after a.end strokes more))) test
    ∙ rest

-- the shapes before the stroke after the first `at` have been passed, and their numbers gathered
pub record HasPassed (strokes : List Segment) (areas : List Area) (at : ℕ) (s : Summaries) : Type 0 where
  pub before : List Shape
  pub of : AreOf s before
  pub all : before ++ shapes_after at strokes (areas_from at areas) ≡ shapes strokes areas
  pub few : length before ≤ at
  pub few_edges : length (all_edges before) ≤ at

pub none_passed : (strokes : List Segment) (areas : List Area) (s : Summaries) → AreApart 0 areas → AreOf s [] → HasPassed strokes areas 0 s
none_passed strokes areas s h of = record { before = []; of = of; all = all_left strokes areas h; few = omega arith; few_edges = omega arith }

module _ (strokes : List Segment) (areas : List Area) (at : ℕ) (s : Summaries) (apart : AreApart 0 areas) (so_far : HasPassed strokes areas at s) where
  -- their numbers are small
  pub numbers_are_few : (most : ℕ) → at ≤ most → AreAtMost s most
  numbers_are_few most le = are_at_most s so_far.before most so_far.of (omega (arith, le, so_far.few)) (omega (arith, le, so_far.few_edges))

  -- the next one is a stroke
  pub stroke_passed : (new : Summaries) (x : Segment) → at < length strokes → x ≡ get_or strokes at x → beginning_at at areas ≡ None
      → ((before : List Shape) → AreOf s before → AreOf new (before ++ (stroke_shape x ∷ []))) → HasPassed strokes areas (at + 1) new
  stroke_passed new x lt is none added =
      let before = so_far.before in
      record {
        before = before ++ (stroke_shape x ∷ []);
        of = added before so_far.of;
        all = passed before (stroke_shape x) _ (shapes_after (at + 1) strokes (areas_from (at + 1) areas)) (shapes strokes areas) so_far.all (next_stroke at strokes areas x lt is apart none);
        few = omega (arith, so_far.few, length-append before (stroke_shape x ∷ []));
        few_edges = omega (arith, so_far.few_edges, edges_more before (stroke_shape x));
      }

  -- the next one is an area
  pub area_passed : (new : Summaries) (a : Area) → beginning_at at areas ≡ Some a
      → ((before : List Shape) (rule : Rule) → AreOf s before → AreOf new (before ++ (area_with rule (edges_of strokes a) ∷ []))) → HasPassed strokes areas a.end new
  area_passed new a found added =
      let before = so_far.before in
      let shape = area_with a.rule (edges_of strokes a) in
      let h = begins 0 at areas a apart found in
      record {
        before = before ++ (shape ∷ []);
        of = added before a.rule so_far.of;
        all = passed before shape _ (shapes_after a.end strokes (areas_from a.end areas)) (shapes strokes areas) so_far.all (next_area at strokes areas a h);
        few = omega (arith, so_far.few, h.some, length-append before (shape ∷ []));
        few_edges = omega (arith, so_far.few_edges, h.some, h.here, edges_more before shape, few_edges strokes a);
      }

  -- after the last stroke there are only areas without edges
  pub all_passed : length strokes ≤ at → AreOf s (shapes strokes areas)
  all_passed le =
      let rest = shapes_after at strokes (areas_from at areas) in
      let left = apart_from 0 at areas apart in
      subst (λ (ss : List Shape). AreOf s ss) so_far.all (still_of s so_far.before rest so_far.of (no_strokes at strokes (areas_from at areas) left le) (λ pen some. no_pen pen at strokes (areas_from at areas) some left le))

-- an area ends after the stroke with which it begins, and has an edge, but no more than there are strokes
module _ (strokes : List Segment) (areas : List Area) (at : ℕ) (a : Area) (apart : AreApart 0 areas) (found : beginning_at at areas ≡ Some a) where
  pub ends_later : at < a.end
  ends_later = (begins 0 at areas a apart found).some

  pub has_edge : at < length strokes → 0 < length (edges_of strokes a)
  has_edge lt =
      let h = begins 0 at areas a apart found in
      omega (arith, h.some, h.here, lt, length-drop a.first (take a.end strokes), length-take a.end strokes)

pub edges_within : (strokes : List Segment) (a : Area) → length (edges_of strokes a) ≤ length strokes
edges_within strokes a = omega (arith, length-drop a.first (take a.end strokes), length-take a.end strokes)
