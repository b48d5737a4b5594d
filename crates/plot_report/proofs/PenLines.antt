-- The lines of shapes, from the table of the numbers of each pen.
use Rattle.std.proofs.Common.{◌≡◌, ℕ, ◌+◌, ◌<◌, ◌≤◌, List, [], ◌∷◌, ◌++◌, flat_map, get_or, length, nat_eq, cond, true, false, zero, suc, refl, ap, sym, ◌∙◌, arith, append_assoc, append-nil, codes, decimal, add-one, add-zero}
use Rattle.std.proofs.lemmas.Bool.Decides.{nat_tests}
use Rattle.std.specs.List.{range_with_len}
use Rattle.plot_page.specs.Segments.{Segment}
use Rattle.areas.specs.Shapes.{Shape}
use Rattle.plot_report.specs.declared.pens.PenSummary.{PenSummary}
use Rattle.plot_report.specs.declared.pens.Summaries.{Summaries}
use Rattle.plot_report.specs.declared.summary.StrokeSummary.{StrokeSummary}
use Rattle.plot_report.specs.Report.{all_edges, area_line, areas_among, areas_line, edges_line, images_line, line, pen_line, pen_shape_lines, shape_lines, shapes_of, strokes_among, strokes_line, summary_of, summary_line}
use Rattle.plot_report.specs.Summaries.{AreOf, areas_text, pen_summary, strokes_text, summary_text, summary_lines}

range_more : (f : ℕ → List ℕ) (a n : ℕ) → flat_map f (range_with_len a (suc n)) ≡ flat_map f (range_with_len a n) ++ f (a + n)
range_more f a zero = append-nil (f a) ∙ ap f (sym (add-zero a))
range_more f a (suc n) =
    let places : (a + 1) + n ≡ a + suc n = omega arith in
    ap (λ (zs : List ℕ). f a ++ zs) (range_more f (a + 1) n)
    ∙ ap (λ (k : ℕ). f a ++ (flat_map f (range_with_len (a + 1) n) ++ f k)) places
    ∙ sym (append_assoc (f a) (flat_map f (range_with_len (a + 1) n)) (f (a + suc n)))

pub range_same : (f g : ℕ → List ℕ) (a n : ℕ) → ((k : ℕ) → a ≤ k → k < a + n → f k ≡ g k) → flat_map f (range_with_len a n) ≡ flat_map g (range_with_len a n)
range_same f g a zero h = refl
range_same f g a (suc n) h =
    ap (λ (zs : List ℕ). zs ++ flat_map f (range_with_len (a + 1) n)) (h a (omega arith) (omega arith))
    ∙ ap (λ (zs : List ℕ). g a ++ zs) (range_same f g (a + 1) n (λ k from lt. h k (omega (arith, from)) (omega (arith, lt))))

pub no_lines : (pens : List PenSummary) → summary_lines pens 0 ≡ []
unfolding summary_lines
no_lines pens = refl

-- one pen more
pub lines_more : (pens : List PenSummary) (count : ℕ) → summary_lines pens (count + 1) ≡ summary_lines pens count ++ summary_text (count + 1) (get_or pens (count + 1) (pen_summary []))
unfolding summary_lines
lines_more pens count =
    let text = λ (pen : ℕ). summary_text pen (get_or pens pen (pen_summary [])) in
    let next : 1 + count ≡ count + 1 = omega arith in
    ap (λ (n : ℕ). flat_map text (range_with_len 1 n)) (add-one count) ∙ range_more text 1 count ∙ ap (λ (n : ℕ). flat_map text (range_with_len 1 count) ++ text n) next

-- a pen with strokes has a line for them, and one without has none; so have areas
pub text_of_some : (pen : ℕ) (s : StrokeSummary) → 0 < s.strokes → strokes_text pen s ≡ summary_line pen s
text_of_some pen s some =
    let test : nat_eq s.strokes 0 ≡ false = grind (arith, nat_tests) in
    ap (λ b. cond b [] (summary_line pen s)) test

pub text_of_none : (pen : ℕ) (s : StrokeSummary) → s.strokes ≤ 0 → strokes_text pen s ≡ []
text_of_none pen s none =
    let test : nat_eq s.strokes 0 ≡ true = grind (arith, nat_tests) in
    ap (λ b. cond b [] (summary_line pen s)) test

pub text_of_areas : (pen : ℕ) (s : PenSummary) → 0 < s.areas → areas_text pen s ≡ edges_line pen s.areas s.edges
text_of_areas pen s some =
    let test : nat_eq s.areas 0 ≡ false = grind (arith, nat_tests) in
    ap (λ b. cond b [] (edges_line pen s.areas s.edges)) test

pub text_of_no_areas : (pen : ℕ) (s : PenSummary) → s.areas ≤ 0 → areas_text pen s ≡ []
text_of_no_areas pen s none =
    let test : nat_eq s.areas 0 ≡ true = grind (arith, nat_tests) in
    ap (λ b. cond b [] (edges_line pen s.areas s.edges)) test

-- areas have a line for how many they are
pub line_of_areas : (n : ℕ) → 0 < n → areas_line n ≡ line (codes "areas" ∷ decimal n ∷ [])
line_of_areas n some =
    let test : nat_eq n 0 ≡ false = grind (arith, nat_tests) in
    ap (λ b. cond b [] (line (codes "areas" ∷ decimal n ∷ []))) test

pub line_of_no_areas : (n : ℕ) → n ≤ 0 → areas_line n ≡ []
line_of_no_areas n none =
    let test : nat_eq n 0 ≡ true = grind (arith, nat_tests) in
    ap (λ b. cond b [] (line (codes "areas" ∷ decimal n ∷ []))) test

-- so have images
pub line_of_images : (n : ℕ) → 0 < n → images_line n ≡ line (codes "images" ∷ decimal n ∷ [])
line_of_images n some =
    let test : nat_eq n 0 ≡ false = grind (arith, nat_tests) in
    ap (λ b. cond b [] (line (codes "images" ∷ decimal n ∷ []))) test

pub line_of_no_images : (n : ℕ) → n ≤ 0 → images_line n ≡ []
line_of_no_images n none =
    let test : nat_eq n 0 ≡ true = grind (arith, nat_tests) in
    ap (λ b. cond b [] (line (codes "images" ∷ decimal n ∷ []))) test

text_of_strokes : (pen : ℕ) (strokes : List Segment) → strokes_text pen (summary_of strokes) ≡ pen_line pen strokes
text_of_strokes pen [] = refl
text_of_strokes pen (s ∷ ss) = text_of_some pen (summary_of (s ∷ ss)) (omega arith)

areas_text_is : (pen : ℕ) (s : StrokeSummary) (areas : List Shape) → areas_text pen (record { strokes = s; areas = length areas; edges = summary_of (all_edges areas) }) ≡ area_line pen areas
areas_text_is pen s [] = refl
areas_text_is pen s (a ∷ more) = text_of_areas pen (record { strokes = s; areas = length (a ∷ more); edges = summary_of (all_edges (a ∷ more)) }) (omega arith)

text_of_shapes : (pen : ℕ) (shapes : List Shape) → summary_text pen (pen_summary shapes) ≡ pen_shape_lines pen shapes
text_of_shapes pen shapes =
    let strokes = text_of_strokes pen (strokes_among shapes) in
    let areas = areas_text_is pen (summary_of (strokes_among shapes)) (areas_among shapes) in
    λ i. strokes i ++ areas i

-- the table has the numbers of the shapes of each pen, so the lines are theirs
pub lines_of_shapes : (images : ℕ) (s : Summaries) (shapes : List Shape) → AreOf s shapes
    → strokes_line (strokes_among shapes) ++ areas_line (length (areas_among shapes)) ++ images_line images ++ summary_lines s.pens 255
    ≡ shape_lines images shapes
unfolding summary_lines shape_lines
lines_of_shapes images s shapes h =
    let pens = range_same (λ (pen : ℕ). summary_text pen (get_or s.pens pen (pen_summary []))) (λ (pen : ℕ). pen_shape_lines pen (shapes_of pen shapes)) 1 255
    (λ k from lt. ap (summary_text k) (h.pens k (pen_summary []) (omega (arith, from)) (omega (arith, lt))) ∙ text_of_shapes k (shapes_of k shapes)) in
    ap (λ (zs : List ℕ). strokes_line (strokes_among shapes) ++ areas_line (length (areas_among shapes)) ++ images_line images ++ zs) pens
