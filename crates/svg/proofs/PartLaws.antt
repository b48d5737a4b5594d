-- What the parts of a sheet show, and their titles.
use Rattle.std.proofs.Common.{◌≡◌, ℕ, ◌-◌, ◌≤◌, List, [], ◌∷◌, ◌++◌, length, take, drop, filter, flat_map, max, min, map, Bool, true, false, cond, nat_eq, refl, ap, sym, ◌∙◌, arith, append-nil, length-drop}
use Rattle.std.proofs.lemmas.Bool.Decides.{nat_tests}
use Rattle.std.proofs.lemmas.List.{length-take, map-append}
use Rattle.std.proofs.lemmas.List.Concat.{flat_map-append}
use Rattle.std.proofs.lemmas.List.Elements.{All-cons, All-drop, All-head, All-nil, All-tail, All-take}
use Rattle.std.specs.List.{All, list_any}
use Rattle.areas.specs.Shapes.{AreApart, NoneGoesOn, Shape, areas_from, shapes, stroke_shape}
use Rattle.areas.specs.declared.area.Area.{Area}
use Rattle.labels.specs.Labels.{LabelShape}
use Rattle.labels.specs.Sheets.{all_counted, count_to, counted, labels_to}
use Rattle.plot_page.specs.Segments.{Segment}
use Rattle.plot_page.specs.declared.page.Page.{Page}
use Rattle.plot_page.specs.declared.pens.PenSet.{PenSet}
use Rattle.stroke_runs.proofs.ShapeCuts.{cut_shapes, first_shapes, last_shapes, no_more_shapes, none_at_later, none_at_start, none_drawn, none_on_sheet, shapes_from, sheet_apart, sheet_shapes, strokes_between}
use Rattle.stroke_runs.proofs.ShapeLaws.{drawn_strokes, whole_after}
use Rattle.stroke_runs.specs.Drawn.{drawn, drawn_shapes, is_drawn}
use Rattle.stroke_runs.specs.Sheets.{between, shapes_between, sheet_areas}
use Rattle.stroke_runs.specs.Shown.{is_shown, shown_shape, widened}
use Rattle.svg.specs.Documents.{foot_text, start_text, svg_bytes}
use Rattle.svg.specs.Parts.{AreBeside, AreInOrder, Part, Group, cut_label, cut_labels, label_parts, parts, parts_after}
use Rattle.svg.specs.Paths.{Path, paths, paths_text}
use Rattle.svg.specs.Readings.{part_paths, read_parts, read_paths, read_sheets, shapes_of, size_of, titles}
use Rattle.svg.specs.Sheets.{Sheet, labelled_after, labelled_sheets, sheet_between}
use Rattle.svg.specs.Titles.{label_text}
use Rattle.svg.proofs.ReadLaw.{all_read}

between_size : (strokes : List Segment) (at end : ℕ) → length (between strokes at end) ≡ min end (length strokes) - at
between_size strokes at end = length-drop at (take end strokes) ∙ ap (λ (n : ℕ). n - at) (length-take end strokes)

-- shapes as they are shown
abbrev seen : PenSet → List Shape → List Shape
seen pens ss = map shown_shape (drawn_shapes pens ss)

-- the shapes between two strokes, and those after them
seen_both : (pens : PenSet) (strokes : List Segment) (areas : List Area) (at m : ℕ) → AreApart 0 areas → at ≤ m → NoneGoesOn m areas
    → seen pens (shapes_between strokes areas at m) ++ seen pens (shapes_from strokes areas m) ≡ seen pens (shapes_from strokes areas at)
seen_both pens strokes areas at m h low whole =
    sym (map-append shown_shape (drawn_shapes pens (shapes_between strokes areas at m)) (drawn_shapes pens (shapes_from strokes areas m)))
    ∙ ap (λ (zs : List Shape). map shown_shape zs) (cut_shapes pens strokes areas at m h low whole)

read_append : (page : Page) (ps qs : List Path) → read_paths (size_of page) (ps ++ qs) ≡ read_paths (size_of page) ps ++ read_paths (size_of page) qs
read_append page ps qs = flat_map-append (shapes_of (size_of page)) ps qs

parts_append : (page : Page) (ps qs : List Part) → read_parts (size_of page) (ps ++ qs) ≡ read_parts (size_of page) ps ++ read_parts (size_of page) qs
parts_append page ps qs =
    ap (λ (z : List Path). read_paths (size_of page) z) (flat_map-append part_paths ps qs) ∙ read_append page (flat_map part_paths ps) (flat_map part_paths qs)

between_read : (page : Page) (pens : PenSet) (strokes : List Segment) (areas : List Area) (at end : ℕ)
    → read_paths (size_of page) (paths page pens (shapes_between strokes areas at end)) ≡ seen pens (shapes_between strokes areas at end)
between_read page pens strokes areas at end =
    all_read page pens (shapes_between strokes areas at end) (whole_after at (take end strokes) (areas_from at areas))

last_read : (page : Page) (pens : PenSet) (strokes : List Segment) (areas : List Area) (at : ℕ)
    → read_paths (size_of page) (paths page pens (shapes_between strokes areas at (length strokes)) ++ []) ≡ seen pens (shapes_from strokes areas at)
last_read page pens strokes areas at =
    ap (λ (z : List Path). read_paths (size_of page) z) (append-nil (paths page pens (shapes_between strokes areas at (length strokes))))
    ∙ between_read page pens strokes areas at (length strokes)
    ∙ ap (λ (zs : List Shape). seen pens zs) (last_shapes strokes areas at)

label_read : (b : Bool) (page : Page) (pens : PenSet) (ss : List Shape) (text : List ℕ) → (b ≡ false → drawn_shapes pens ss ≡ [])
    → read_paths (size_of page) (paths page pens ss) ≡ seen pens ss → read_parts (size_of page) (cond b (Group text (paths page pens ss) ∷ []) []) ≡ seen pens ss
label_read true page pens ss text none h = ap (λ (z : List Path). read_paths (size_of page) z) (append-nil (paths page pens ss)) ∙ h
label_read false page pens ss text none h = sym (ap (λ (z : List Shape). map shown_shape z) (none refl))

label_hidden : (pens : PenSet) (strokes : List Segment) (areas : List Area) (first after : ℕ) → AreApart 0 areas
    → list_any (is_drawn pens) (between strokes first after) ≡ false → drawn_shapes pens (shapes_between strokes areas first after) ≡ []
label_hidden pens strokes areas first after h e =
    none_drawn pens (shapes_between strokes areas first after) (ap (λ (zs : List Segment). list_any (is_drawn pens) zs) (strokes_between strokes areas first after h) ∙ e)

abbrev Beside : List Area → LabelShape → Type 0
Beside areas l = NoneGoesOn l.first areas × NoneGoesOn l.after areas

after_read : (page : Page) (pens : PenSet) (strokes : List Segment) (areas : List Area) (at : ℕ) (labels : List LabelShape) → AreApart 0 areas → NoneGoesOn at areas → AreBeside areas labels
    → read_parts (size_of page) (parts_after page pens strokes areas at (cut_labels at labels)) ≡ seen pens (shapes_from strokes areas at)
after_read page pens strokes areas at [] h whole beside = last_read page pens strokes areas at
after_read page pens strokes areas at (l ∷ ls) h whole beside =
    let c = cut_label at l in
    let P : LabelShape → Type 0 = λ k. Beside areas k in
    let own_beside = All-head P l ls beside in
    let whole_first = none_at_later at l.first areas whole own_beside.0 in
    let whole_after = none_at_later c.first l.after areas whole_first own_beside.1 in
    let front = shapes_between strokes areas at c.first in
    let own = shapes_between strokes areas c.first c.after in
    let group = label_parts page pens strokes areas c in
    let rest = parts_after page pens strokes areas c.after (cut_labels c.after ls) in
    let low : at ≤ c.first = omega arith in
    let high : c.first ≤ c.after = omega arith in
    read_append page (paths page pens front) (flat_map part_paths (group ++ rest))
    ∙ ap (λ (z : List Shape). z ++ read_parts (size_of page) (group ++ rest)) (between_read page pens strokes areas at c.first)
    ∙ ap (λ (z : List Shape). seen pens front ++ z) (
    parts_append page group rest
    ∙ ap (λ (z : List Shape). z ++ read_parts (size_of page) rest) (label_read (list_any (is_drawn pens) (between strokes c.first c.after)) page pens own (label_text c) (label_hidden pens strokes areas c.first c.after h) (between_read page pens strokes areas c.first c.after))
    ∙ ap (λ (z : List Shape). seen pens own ++ z) (after_read page pens strokes areas c.after ls h whole_after (All-tail P l ls beside))
    ∙ seen_both pens strokes areas c.first c.after h high whole_after
    )
    ∙ seen_both pens strokes areas at c.first h low whole_first

pub parts_read : (page : Page) (pens : PenSet) (strokes : List Segment) (areas : List Area) (labels : List LabelShape) → AreApart 0 areas → AreBeside areas labels
    → read_parts (size_of page) (parts page pens strokes areas labels) ≡ map shown_shape (drawn_shapes pens (shapes strokes areas))
parts_read page pens strokes areas labels h beside =
    after_read page pens strokes areas 0 labels h (none_at_start areas) beside
    ∙ ap (λ (zs : List Shape). seen pens zs) (first_shapes strokes areas h)

-- labels that are beside areas are beside those of a sheet
beside_counted : (at : ℕ) (areas : List Area) (ls : List LabelShape) → AreBeside areas ls → AreBeside (sheet_areas at areas) (all_counted at ls)
beside_counted at areas [] h = All-nil (Beside (sheet_areas at areas))
beside_counted at areas (l ∷ ls) h =
    let P : LabelShape → Type 0 = λ k. Beside areas k in
    let own = All-head P l ls h in
    All-cons (Beside (sheet_areas at areas)) (counted at l) (all_counted at ls) (none_on_sheet at l.first areas own.0, none_on_sheet at l.after areas own.1) (beside_counted at areas ls (All-tail P l ls h))

sheet_read : (page : Page) (pens : PenSet) (strokes : List Segment) (areas : List Area) (at end : ℕ) (labels : List LabelShape) → AreApart 0 areas → AreBeside areas labels
    → read_parts (size_of page) (parts page pens (between strokes at end) (sheet_areas at areas) (all_counted at (labels_to end labels))) ≡ seen pens (shapes_between strokes areas at end)
sheet_read page pens strokes areas at end labels h beside =
    parts_read page pens (between strokes at end) (sheet_areas at areas) (all_counted at (labels_to end labels)) (sheet_apart at areas h)
    (beside_counted at areas (labels_to end labels) (All-take (Beside areas) (count_to end labels) labels beside))
    ∙ ap (λ (zs : List Shape). seen pens zs) (sheet_shapes strokes areas at end h)

sheet_step : (b : Bool) (page : Page) (pens : PenSet) (s : Sheet) (xs ys : List Sheet) (all : List Shape) → (b ≡ true → read_sheets page pens xs ≡ all)
    → (b ≡ false → read_parts (size_of page) (parts page pens s.strokes s.areas s.labels) ++ read_sheets page pens ys ≡ all) → read_sheets page pens (cond b xs (s ∷ ys)) ≡ all
sheet_step true page pens s xs ys all p q = p refl
sheet_step false page pens s xs ys all p q = q refl

-- a sheet with strokes, and those after it
one_sheet : (page : Page) (pens : PenSet) (strokes : List Segment) (areas : List Area) (at end : ℕ) (labels : List LabelShape) (others : List Sheet) → AreApart 0 areas → AreBeside areas labels → NoneGoesOn end areas
    → read_sheets page pens others ≡ seen pens (shapes_from strokes areas end) → nat_eq (length (between strokes at end)) 0 ≡ false
    → read_sheets page pens (sheet_between strokes areas at end labels ∷ others) ≡ seen pens (shapes_from strokes areas at)
one_sheet page pens strokes areas at end labels others h beside whole rest some =
    let size : 1 ≤ length (between strokes at end) = grind (arith, nat_tests, some) in
    let low : at ≤ end = omega (arith, size, between_size strokes at end) in
    (λ i. sheet_read page pens strokes areas at end labels h beside i ++ rest i)
    ∙ seen_both pens strokes areas at end h low whole

-- there are no sheets after all strokes
no_sheets : (pens : PenSet) (strokes : List Segment) (areas : List Area) (at : ℕ) → AreApart 0 areas → length strokes ≤ at → [] ≡ seen pens (shapes_from strokes areas at)
no_sheets pens strokes areas at h short = sym (ap (λ (zs : List Shape). map shown_shape zs) (no_more_shapes pens strokes areas at h short))

-- the last sheet
last_sheet : (page : Page) (pens : PenSet) (strokes : List Segment) (areas : List Area) (at : ℕ) (labels : List LabelShape) → AreApart 0 areas → AreBeside areas labels
    → read_sheets page pens (labelled_after strokes areas at (length strokes ∷ []) labels) ≡ seen pens (shapes_from strokes areas at)
last_sheet page pens strokes areas at labels h beside =
    let end = length strokes in
    sheet_step (nat_eq (length (between strokes at end)) 0) page pens (sheet_between strokes areas at end labels) [] [] (seen pens (shapes_from strokes areas at))
    (λ e.
    let none : length (between strokes at end) ≡ 0 = grind (arith, nat_tests, e) in
    no_sheets pens strokes areas at h (omega (arith, none, between_size strokes at end)))
    (λ e.
    append-nil (read_parts (size_of page) (parts page pens (between strokes at end) (sheet_areas at areas) (all_counted at (labels_to end labels))))
    ∙ sheet_read page pens strokes areas at end labels h beside
    ∙ ap (λ (zs : List Shape). seen pens zs) (last_shapes strokes areas at))

labelled_read : (page : Page) (pens : PenSet) (strokes : List Segment) (areas : List Area) (at : ℕ) (ends : List ℕ) (labels : List LabelShape) → AreApart 0 areas → All (λ end. NoneGoesOn end areas) ends → AreBeside areas labels
    → read_sheets page pens (labelled_after strokes areas at (ends ++ length strokes ∷ []) labels) ≡ seen pens (shapes_from strokes areas at)
labelled_read page pens strokes areas at [] labels h whole beside = last_sheet page pens strokes areas at labels h beside
labelled_read page pens strokes areas at (end ∷ ends) labels h whole beside =
    let P : ℕ → Type 0 = λ e. NoneGoesOn e areas in
    let later = drop (count_to end labels) labels in
    let all = ends ++ length strokes ∷ [] in
    let rest = All-tail P end ends whole in
    sheet_step (nat_eq (length (between strokes at end)) 0) page pens (sheet_between strokes areas at end labels) (labelled_after strokes areas at all labels) (labelled_after strokes areas end all later) (seen pens (shapes_from strokes areas at))
    (λ e. labelled_read page pens strokes areas at ends labels h rest beside)
    (λ e. one_sheet page pens strokes areas at end labels (labelled_after strokes areas end all later) h beside (All-head P end ends whole)
    (labelled_read page pens strokes areas end ends later h rest (All-drop (Beside areas) (count_to end labels) labels beside)) e)

pub all_sheets_read : (page : Page) (pens : PenSet) (strokes : List Segment) (areas : List Area) (ends : List ℕ) (labels : List LabelShape) → AreApart 0 areas → All (λ end. NoneGoesOn end areas) ends → AreBeside areas labels
    → read_sheets page pens (labelled_sheets strokes areas ends labels) ≡ map shown_shape (drawn_shapes pens (shapes strokes areas))
all_sheets_read page pens strokes areas ends labels h whole beside =
    labelled_read page pens strokes areas 0 ends labels h whole beside
    ∙ ap (λ (zs : List Shape). seen pens zs) (first_shapes strokes areas h)

-- without areas the shapes are the strokes
shown_strokes : (ss : List Segment) → map shown_shape (map stroke_shape ss) ≡ map stroke_shape (map widened ss)
shown_strokes [] = refl
shown_strokes (s ∷ ss) = ap (λ (zs : List Shape). stroke_shape (widened s) ∷ zs) (shown_strokes ss)

pub seen_strokes : (pens : PenSet) (strokes : List Segment) → map shown_shape (drawn_shapes pens (shapes strokes [])) ≡ map stroke_shape (map widened (drawn pens strokes))
seen_strokes pens strokes = ap (λ (zs : List Shape). map shown_shape zs) (drawn_strokes pens strokes) ∙ shown_strokes (drawn pens strokes)

title_step : (b : Bool) (l : LabelShape) (ps : List Path) (rest : List Part) (ls : List LabelShape) → titles rest ≡ map label_text ls → titles (cond b (Group (label_text l) ps ∷ []) [] ++ rest) ≡ map label_text (cond b (l ∷ ls) ls)
title_step true l ps rest ls h = ap (λ (z : List (List ℕ)). label_text l ∷ z) h
title_step false l ps rest ls h = h

titles_after : (page : Page) (pens : PenSet) (strokes : List Segment) (areas : List Area) (at : ℕ) (labels : List LabelShape) → titles (parts_after page pens strokes areas at labels) ≡ map label_text (filter (is_shown pens strokes) labels)
titles_after page pens strokes areas at [] = refl
titles_after page pens strokes areas at (l ∷ ls) =
    title_step (is_shown pens strokes l) l (paths page pens (shapes_between strokes areas l.first l.after)) (parts_after page pens strokes areas l.after ls) (filter (is_shown pens strokes) ls) (titles_after page pens strokes areas l.after ls)

pub all_titles : (page : Page) (pens : PenSet) (strokes : List Segment) (areas : List Area) (labels : List LabelShape) → titles (parts page pens strokes areas labels) ≡ map label_text (filter (is_shown pens strokes) (cut_labels 0 labels))
all_titles page pens strokes areas labels = titles_after page pens strokes areas 0 (cut_labels 0 labels)

pub no_labels : (page : Page) (pens : PenSet) (strokes : List Segment) (areas : List Area) → AreApart 0 areas → svg_bytes page pens strokes areas [] ≡ start_text page pens strokes ++ paths_text page pens (shapes strokes areas) ++ foot_text
no_labels page pens strokes areas h =
    ap (λ (z : List ℕ). start_text page pens strokes ++ z ++ foot_text) (append-nil (paths_text page pens (shapes_between strokes areas 0 (length strokes))))
    ∙ ap (λ (zs : List Shape). start_text page pens strokes ++ paths_text page pens zs ++ foot_text) (last_shapes strokes areas 0 ∙ first_shapes strokes areas h)

-- a label in order is not cut
whole_label : (at : ℕ) (l : LabelShape) → at ≤ l.first → l.first ≤ l.after → cut_label at l ≡ l
whole_label at l low high =
    let first : max at l.first ≡ l.first = omega arith in
    let after : max (max at l.first) l.after ≡ l.after = omega arith in
    λ i. record l { first = first i; after = after i }

pub whole_labels : (at : ℕ) (labels : List LabelShape) → AreInOrder at labels → cut_labels at labels ≡ labels
whole_labels at [] h = refl
whole_labels at (l ∷ ls) h =
    let one = whole_label at l h.0 h.1 in
    (λ i. one i ∷ cut_labels (one i).after ls) ∙ ap (λ (zs : List LabelShape). l ∷ zs) (whole_labels l.after ls h.2)
