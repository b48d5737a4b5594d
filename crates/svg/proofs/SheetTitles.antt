-- The titles of sheets are the texts of the labels that are shown.
use Rattle.std.proofs.Common.{◌≡◌, ◌∙◌, ℕ, zero, suc, ◌+◌, ◌-◌, ◌<◌, ◌≤◌, nat_eq, nat_lt, List, [], ◌∷◌, ◌++◌, length, take, drop, filter, map, flat_map, Bool, true, false, cond, refl, ap, sym, arith}
use Rattle.std.proofs.lemmas.Bool.Decides.{nat_tests}
use Rattle.std.proofs.lemmas.List.{drop-drop, drop-take, drop_all, length-take, map-append, take-append-drop, take_all}
use Rattle.std.proofs.lemmas.List.Concat.{flat_map-append}
use Rattle.std.proofs.lemmas.List.Elements.{All-drop, All-head, All-tail, All-weaker, filter-append}
use Rattle.std.specs.List.{All, list_any}
use Rattle.areas.specs.declared.area.Area.{Area}
use Rattle.labels.specs.Labels.{LabelShape}
use Rattle.labels.specs.Sheets.{all_counted, count_to, counted, labels_to}
use Rattle.plot_page.specs.Segments.{Segment}
use Rattle.plot_page.specs.declared.page.Page.{Page}
use Rattle.plot_page.specs.declared.pens.PenSet.{PenSet}
use Rattle.stroke_runs.specs.Drawn.{is_drawn}
use Rattle.stroke_runs.specs.Sheets.{between, sheet_areas}
use Rattle.stroke_runs.specs.Shown.{is_shown}
use Rattle.svg.specs.Parts.{AreInOrder, cut_labels, parts}
use Rattle.svg.specs.Readings.{part_titles, parts_of_sheets, titles}
use Rattle.svg.specs.Sheets.{EndsAfter, Sheet, labelled_after, labelled_sheets, sheet_between}
use Rattle.svg.specs.Titles.{label_text}
use Rattle.svg.proofs.PartLaws.{all_titles, whole_labels}
use Rattle.svg.proofs.Texts.{sheet_size}

-- the titles of labels of which a stroke is drawn
abbrev shown_titles : PenSet → List Segment → List LabelShape → List (List ℕ)
shown_titles pens strokes labels = map label_text (filter (is_shown pens strokes) labels)

-- of labels and others
titles_of_both : (pens : PenSet) (strokes : List Segment) (ls ms : List LabelShape) → shown_titles pens strokes ls ++ shown_titles pens strokes ms ≡ shown_titles pens strokes (ls ++ ms)
titles_of_both pens strokes ls ms =
    sym (map-append label_text (filter (is_shown pens strokes) ls) (filter (is_shown pens strokes) ms)) ∙ ap (λ (zs : List LabelShape). map label_text zs) (sym (filter-append (is_shown pens strokes) ls ms))

-- a label whose strokes come after all strokes is not shown
hidden_step : (b : Bool) (l : LabelShape) (ls : List LabelShape) → b ≡ false → ls ≡ [] → cond b (l ∷ ls) ls ≡ []
hidden_step true l ls e h = cc
hidden_step false l ls e h = h

hidden : (pens : PenSet) (strokes : List Segment) (at : ℕ) (ls : List LabelShape) → length strokes ≤ at → AreInOrder at ls → filter (is_shown pens strokes) ls ≡ []
hidden pens strokes at [] h k = refl
hidden pens strokes at (l ∷ ls) h k =
    let short : length (take l.after strokes) ≤ l.first = omega (arith, h, k.0, length-take l.after strokes) in
    let none : is_shown pens strokes l ≡ false = ap (λ (ss : List Segment). list_any (is_drawn pens) ss) (drop_all l.first (take l.after strokes) short) in
    hidden_step (is_shown pens strokes l) l (filter (is_shown pens strokes) ls) none (hidden pens strokes l.after ls (omega (arith, h, k.0, k.1)) k.2)

-- the strokes of a label on the sheet that it is on
same_strokes : (strokes : List Segment) (at end first after : ℕ) → at ≤ first → first ≤ after → take after (take end strokes) ≡ take after strokes → between (between strokes at end) (first - at) (after - at) ≡ between strokes first after
same_strokes strokes at end first after h k e =
    let xs = take end strokes in
    let later : at + (after - at) ≡ after = omega (arith, h, k) in
    let inner : take (after - at) (drop at xs) ≡ drop at (take after xs) = sym (drop-take at (after - at) xs) ∙ ap (λ (n : ℕ). drop at (take n xs)) later in
    let places : at + (first - at) ≡ first = omega (arith, h) in
    ap (λ (zs : List Segment). drop (first - at) zs) inner ∙ drop-drop (first - at) at (take after xs) ∙ ap (λ (n : ℕ). drop n (take after xs)) places ∙ ap (λ (zs : List Segment). drop first zs) e

-- the sheet has all strokes of these labels
abbrev Kept : List Segment → ℕ → List LabelShape → Type 0
Kept strokes end [] = Unit {0}
Kept strokes end (l ∷ ls) = (take l.after (take end strokes) ≡ take l.after strokes) × Kept strokes end ls

title_step : (b c : Bool) (l m : LabelShape) (ls ms : List LabelShape) → b ≡ c → label_text l ≡ label_text m → map label_text ls ≡ map label_text ms → map label_text (cond b (l ∷ ls) ls) ≡ map label_text (cond c (m ∷ ms) ms)
title_step true true l m ls ms e h k = λ i. h i ∷ k i
title_step false false l m ls ms e h k = k
title_step true false l m ls ms e h k = cc
title_step false true l m ls ms e h k = cc

same_titles : (pens : PenSet) (strokes : List Segment) (at end start : ℕ) (ls : List LabelShape) → at ≤ start → AreInOrder start ls → Kept strokes end ls → shown_titles pens (between strokes at end) (all_counted at ls) ≡ shown_titles pens strokes ls
same_titles pens strokes at end start [] h k m = refl
same_titles pens strokes at end start (l ∷ ls) h k m =
    let low : at ≤ l.first = omega (arith, h, k.0) in
    let same = same_strokes strokes at end l.first l.after low k.1 m.0 in
    title_step (is_shown pens (between strokes at end) (counted at l)) (is_shown pens strokes l) (counted at l) l (filter (is_shown pens (between strokes at end)) (all_counted at ls)) (filter (is_shown pens strokes) ls)
    (ap (λ (ss : List Segment). list_any (is_drawn pens) ss) same) refl (same_titles pens strokes at end l.after ls (omega (arith, low, k.1)) k.2 m.1)

counted_order : (at start base : ℕ) (ls : List LabelShape) → base ≤ start - at → AreInOrder start ls → AreInOrder base (all_counted at ls)
counted_order at start base [] h k = tt
counted_order at start base (l ∷ ls) h k = (omega (arith, h, k.0), omega (arith, k.1), counted_order at l.after (l.after - at) ls (omega arith) k.2)

first_order : (n start : ℕ) (ls : List LabelShape) → AreInOrder start ls → AreInOrder start (take n ls)
first_order zero start ls h = tt
first_order (suc n) start [] h = tt
first_order (suc n) start (l ∷ ls) h = (h.0, h.1, first_order n l.after ls h.2)

-- the labels of the next sheets begin after its end
rest_step : (b : Bool) (end n : ℕ) (l : LabelShape) (ls : List LabelShape) → nat_lt l.first end ≡ b → l.first ≤ l.after → AreInOrder l.after ls → AreInOrder end (drop n ls) → AreInOrder end (drop (cond b (suc n) 0) (l ∷ ls))
rest_step true end n l ls e h k m = m
rest_step false end n l ls e h k m =
    let high : end ≤ l.first = grind (arith, nat_tests, e) in
    (high, h, k)

rest_order : (end start : ℕ) (ls : List LabelShape) → AreInOrder start ls → AreInOrder end (drop (count_to end ls) ls)
rest_order end start [] h = tt
rest_order end start (l ∷ ls) h = rest_step (nat_lt l.first end) end (count_to end ls) l ls refl h.1 h.2 (rest_order end l.after ls h.2)

take_less : {A : Type 0} (n m : ℕ) (xs : List A) → n ≤ m → take n (take m xs) ≡ take n xs
take_less {A} zero m xs h = refl
take_less {A} (suc n) zero xs h = absurd (omega (arith, h))
take_less {A} (suc n) (suc m) [] h = refl
take_less {A} (suc n) (suc m) (x ∷ xs) h = ap (λ (zs : List A). x ∷ zs) (take_less n m xs (omega (arith, h)))

kept_step : (b : Bool) (strokes : List Segment) (end n : ℕ) (l : LabelShape) (ls : List LabelShape) → nat_lt l.first end ≡ b → EndsAfter end l → Kept strokes end (take n ls) → Kept strokes end (take (cond b (suc n) 0) (l ∷ ls))
kept_step true strokes end n l ls e h k =
    let low : l.first < end = grind (arith, nat_tests, e) in
    (take_less l.after end strokes (h low), k)
kept_step false strokes end n l ls e h k = tt

kept : (strokes : List Segment) (end : ℕ) (ls : List LabelShape) → All (EndsAfter end) ls → Kept strokes end (labels_to end ls)
kept strokes end [] h = tt
kept strokes end (l ∷ ls) h = kept_step (nat_lt l.first end) strokes end (count_to end ls) l ls refl (All-head (EndsAfter end) l ls h) (kept strokes end ls (All-tail (EndsAfter end) l ls h))

all_kept : (strokes : List Segment) (ls : List LabelShape) → Kept strokes (length strokes) ls
all_kept strokes [] = tt
all_kept strokes (l ∷ ls) = (ap (λ (zs : List Segment). take l.after zs) (take_all (length strokes) strokes (omega arith)), all_kept strokes ls)

-- the titles of a sheet
pub sheet_titles : (page : Page) (pens : PenSet) (s : Sheet) → titles (parts page pens s.strokes s.areas s.labels) ≡ shown_titles pens s.strokes (cut_labels 0 s.labels)
sheet_titles page pens s = all_titles page pens s.strokes s.areas s.labels

one_sheet : (page : Page) (pens : PenSet) (strokes : List Segment) (areas : List Area) (at end : ℕ) (labels : List LabelShape) → AreInOrder at labels → Kept strokes end (labels_to end labels)
    → titles (parts page pens (between strokes at end) (sheet_areas at areas) (all_counted at (labels_to end labels))) ≡ shown_titles pens strokes (labels_to end labels)
one_sheet page pens strokes areas at end labels h k =
    let ls = labels_to end labels in
    let order = first_order (count_to end labels) at labels h in
    all_titles page pens (between strokes at end) (sheet_areas at areas) (all_counted at ls)
    ∙ ap (λ (zs : List LabelShape). shown_titles pens (between strokes at end) zs) (whole_labels 0 (all_counted at ls) (counted_order at at 0 ls (omega arith) order))
    ∙ same_titles pens strokes at end at ls (omega arith) order k

-- a sheet, and those after it
more_sheets : (page : Page) (pens : PenSet) (strokes : List Segment) (areas : List Area) (at end : ℕ) (labels : List LabelShape) (others : List Sheet) → AreInOrder at labels → Kept strokes end (labels_to end labels)
    → titles (parts_of_sheets page pens others) ≡ shown_titles pens strokes (drop (count_to end labels) labels) → titles (parts_of_sheets page pens (sheet_between strokes areas at end labels ∷ others)) ≡ shown_titles pens strokes labels
more_sheets page pens strokes areas at end labels others h k e =
    let s = sheet_between strokes areas at end labels in
    let n = count_to end labels in
    flat_map-append part_titles (parts page pens s.strokes s.areas s.labels) (parts_of_sheets page pens others)
    ∙ (λ i. one_sheet page pens strokes areas at end labels h k i ++ e i)
    ∙ titles_of_both pens strokes (take n labels) (drop n labels)
    ∙ ap (λ (zs : List LabelShape). shown_titles pens strokes zs) (take-append-drop n labels)

sheet_step : (b : Bool) (page : Page) (pens : PenSet) (ts : List (List ℕ)) (s : Sheet) (xs ys : List Sheet) → titles (parts_of_sheets page pens xs) ≡ ts → titles (parts_of_sheets page pens (s ∷ ys)) ≡ ts → titles (parts_of_sheets page pens (cond b xs (s ∷ ys))) ≡ ts
sheet_step true page pens ts s xs ys h k = h
sheet_step false page pens ts s xs ys h k = k

-- the last sheet
last_sheet : (b : Bool) (page : Page) (pens : PenSet) (strokes : List Segment) (areas : List Area) (at : ℕ) (labels : List LabelShape) → nat_eq (length (between strokes at (length strokes))) 0 ≡ b → AreInOrder at labels
    → titles (parts_of_sheets page pens (cond b [] (sheet_between strokes areas at (length strokes) labels ∷ []))) ≡ shown_titles pens strokes labels
last_sheet true page pens strokes areas at labels e h =
    let none : length (between strokes at (length strokes)) ≡ 0 = grind (arith, nat_tests, e) in
    let low : length strokes ≤ at = omega (arith, none, sheet_size strokes at (length strokes)) in
    ap (λ (zs : List LabelShape). map label_text zs) (sym (hidden pens strokes at labels low h))
last_sheet false page pens strokes areas at labels e h =
    let end = length strokes in
    let rest = hidden pens strokes end (drop (count_to end labels) labels) (omega arith) (rest_order end at labels h) in
    more_sheets page pens strokes areas at end labels [] h (all_kept strokes (labels_to end labels)) (ap (λ (zs : List LabelShape). map label_text zs) (sym rest))

titles_after : (page : Page) (pens : PenSet) (strokes : List Segment) (areas : List Area) (at : ℕ) (ends : List ℕ) (labels : List LabelShape) → AreInOrder at labels → All (λ end. All (EndsAfter end) labels) ends
    → titles (parts_of_sheets page pens (labelled_after strokes areas at (ends ++ length strokes ∷ []) labels)) ≡ shown_titles pens strokes labels
titles_after page pens strokes areas at [] labels h k = last_sheet (nat_eq (length (between strokes at (length strokes))) 0) page pens strokes areas at labels refl h
titles_after page pens strokes areas at (end ∷ ends) labels h k =
    let P : ℕ → Type 0 = λ e. All (EndsAfter e) labels in
    let n = count_to end labels in
    let later = drop n labels in
    let Q : ℕ → Type 0 = λ e. All (EndsAfter e) later in
    let here = All-head P end ends k in
    let rest = All-tail P end ends k in
    let all = ends ++ length strokes ∷ [] in
    sheet_step (nat_eq (length (between strokes at end)) 0) page pens (shown_titles pens strokes labels) (sheet_between strokes areas at end labels) (labelled_after strokes areas at all labels) (labelled_after strokes areas end all later)
    (titles_after page pens strokes areas at ends labels h rest)
    (more_sheets page pens strokes areas at end labels (labelled_after strokes areas end all later) h (kept strokes end labels here)
    (titles_after page pens strokes areas end ends later (rest_order end at labels h) (All-weaker P Q (λ e w. All-drop (EndsAfter e) n labels w) ends rest)))

pub all_sheet_titles : (page : Page) (pens : PenSet) (strokes : List Segment) (areas : List Area) (ends : List ℕ) (labels : List LabelShape) → AreInOrder 0 labels → All (λ end. All (EndsAfter end) labels) ends
    → titles (parts_of_sheets page pens (labelled_sheets strokes areas ends labels)) ≡ map label_text (filter (is_shown pens strokes) labels)
all_sheet_titles page pens strokes areas ends labels h k = titles_after page pens strokes areas 0 ends labels h k

-- each sheet has the titles of its own labels
pub each_sheet_titles : (page : Page) (pens : PenSet) (sheets : List Sheet) → titles (parts_of_sheets page pens sheets) ≡ flat_map (λ s. map label_text (filter (is_shown pens s.strokes) (cut_labels 0 s.labels))) sheets
each_sheet_titles page pens [] = refl
each_sheet_titles page pens (s ∷ sheets) =
    flat_map-append part_titles (parts page pens s.strokes s.areas s.labels) (parts_of_sheets page pens sheets) ∙ (λ i. sheet_titles page pens s i ++ each_sheet_titles page pens sheets i)
