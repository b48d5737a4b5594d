-- The numbers of some strokes and one more.
use Rattle.std.proofs.Common.{◌≡◌, ℕ, ◌+◌, ◌<◌, max, ℤ, List, [], ◌∷◌, ◌++◌, length, map, refl, ap, sym, ◌∙◌, arith, length-append}
use Rattle.std.proofs.lemmas.List.{map-append}
use Rattle.std.proofs.lemmas.List.Concat.{flat_map-append}
use Rattle.std.proofs.lemmas.Int.{ints}
use Rattle.std.specs.Int.{int_max, int_min}
use Rattle.plot_page.specs.Segments.{Segment}
use Rattle.plot_report.specs.declared.summary.StrokeSummary.{StrokeSummary}
use Rattle.plot_report.specs.Report.{greatest, least_place, greatest_place, end_xs, end_ys, summary_of}

min_assoc : (x y z : ℤ) → int_min x (int_min y z) ≡ int_min (int_min x y) z
min_assoc x y z = grind (arith, ints)

max_assoc : (x y z : ℤ) → int_max x (int_max y z) ≡ int_max (int_max x y) z
max_assoc x y z = grind (arith, ints)

least_joined : (x : ℤ) (xs : List ℤ) (y : ℤ) (ys : List ℤ) → least_place ((x ∷ xs) ++ (y ∷ ys)) ≡ int_min (least_place (x ∷ xs)) (least_place (y ∷ ys))
least_joined x [] y ys = refl
least_joined x (w ∷ xs) y ys = ap (λ (z : ℤ). int_min x z) (least_joined w xs y ys) ∙ min_assoc x (least_place (w ∷ xs)) (least_place (y ∷ ys))

greatest_place_joined : (x : ℤ) (xs : List ℤ) (y : ℤ) (ys : List ℤ) → greatest_place ((x ∷ xs) ++ (y ∷ ys)) ≡ int_max (greatest_place (x ∷ xs)) (greatest_place (y ∷ ys))
greatest_place_joined x [] y ys = refl
greatest_place_joined x (w ∷ xs) y ys = ap (λ (z : ℤ). int_max x z) (greatest_place_joined w xs y ys) ∙ max_assoc x (greatest_place (w ∷ xs)) (greatest_place (y ∷ ys))

greatest_joined : (ms ns : List ℕ) → greatest (ms ++ ns) ≡ max (greatest ms) (greatest ns)
greatest_joined [] ns = grind arith
greatest_joined (m ∷ ms) ns =
    let rest : greatest (ms ++ ns) ≡ max (greatest ms) (greatest ns) = greatest_joined ms ns in
    grind arith

-- the numbers of two lists of strokes together, neither of which is empty
abbrev pub together : StrokeSummary → StrokeSummary → StrokeSummary
together a b = record {
  strokes = a.strokes + b.strokes;
  widest = max a.widest b.widest;
  least_x = int_min a.least_x b.least_x;
  least_y = int_min a.least_y b.least_y;
  greatest_x = int_max a.greatest_x b.greatest_x;
  greatest_y = int_max a.greatest_y b.greatest_y;
}

pub one_more : (b : Segment) (bs : List Segment) (s : Segment) → summary_of ((b ∷ bs) ++ (s ∷ [])) ≡ together (summary_of (b ∷ bs)) (summary_of (s ∷ []))
one_more b bs s =
    let xs : end_xs ((b ∷ bs) ++ (s ∷ [])) ≡ end_xs (b ∷ bs) ++ end_xs (s ∷ []) = flat_map-append (λ (t : Segment). t.ax ∷ t.bx ∷ []) (b ∷ bs) (s ∷ []) in
    let ys : end_ys ((b ∷ bs) ++ (s ∷ [])) ≡ end_ys (b ∷ bs) ++ end_ys (s ∷ []) = flat_map-append (λ (t : Segment). t.ay ∷ t.by ∷ []) (b ∷ bs) (s ∷ []) in
    let widths : map (λ (t : Segment). t.width) ((b ∷ bs) ++ (s ∷ [])) ≡ map (λ (t : Segment). t.width) (b ∷ bs) ++ map (λ (t : Segment). t.width) (s ∷ []) = map-append (λ (t : Segment). t.width) (b ∷ bs) (s ∷ []) in
    let e0 : length ((b ∷ bs) ++ (s ∷ [])) ≡ length (b ∷ bs) + length (s ∷ []) = length-append (b ∷ bs) (s ∷ []) in
    let e1 : greatest (map (λ (t : Segment). t.width) ((b ∷ bs) ++ (s ∷ []))) ≡ max (greatest (map (λ (t : Segment). t.width) (b ∷ bs))) (greatest (map (λ (t : Segment). t.width) (s ∷ []))) = ap greatest widths ∙ greatest_joined (map (λ (t : Segment). t.width) (b ∷ bs)) (s.width ∷ []) in
    let e2 : least_place (end_xs ((b ∷ bs) ++ (s ∷ []))) ≡ int_min (least_place (end_xs (b ∷ bs))) (least_place (end_xs (s ∷ []))) = ap least_place xs ∙ least_joined b.ax (b.bx ∷ end_xs bs) s.ax (s.bx ∷ []) in
    let e3 : least_place (end_ys ((b ∷ bs) ++ (s ∷ []))) ≡ int_min (least_place (end_ys (b ∷ bs))) (least_place (end_ys (s ∷ []))) = ap least_place ys ∙ least_joined b.ay (b.by ∷ end_ys bs) s.ay (s.by ∷ []) in
    let e4 : greatest_place (end_xs ((b ∷ bs) ++ (s ∷ []))) ≡ int_max (greatest_place (end_xs (b ∷ bs))) (greatest_place (end_xs (s ∷ []))) = ap greatest_place xs ∙ greatest_place_joined b.ax (b.bx ∷ end_xs bs) s.ax (s.bx ∷ []) in
    let e5 : greatest_place (end_ys ((b ∷ bs) ++ (s ∷ []))) ≡ int_max (greatest_place (end_ys (b ∷ bs))) (greatest_place (end_ys (s ∷ []))) = ap greatest_place ys ∙ greatest_place_joined b.ay (b.by ∷ end_ys bs) s.ay (s.by ∷ []) in
    cc

-- the numbers of some strokes together with those of one more
pub with_one : (all one result : StrokeSummary) (before : List Segment) (s : Segment) → 0 < all.strokes → all ≡ summary_of before → one ≡ summary_of (s ∷ []) → result ≡ together all one → result ≡ summary_of (before ++ (s ∷ []))
with_one all one result [] s some h is_one e =
    let none : all.strokes ≡ 0 = ap (λ (p : StrokeSummary). p.strokes) h in
    absurd (omega (arith, none, some))
with_one all one result (b ∷ bs) s some h is_one e =
    e ∙ ap (λ (p : StrokeSummary). together p one) h ∙ ap (λ (p : StrokeSummary). together (summary_of (b ∷ bs)) p) is_one ∙ sym (one_more b bs s)
