-- Shapes, cut where no area goes on, are all shapes.
use Rattle.std.proofs.Common.{◌≡◌, flat_map, ℕ, zero, suc, ◌+◌, ◌-◌, ◌<◌, ◌≤◌, List, [], ◌∷◌, ◌++◌, length, take, drop, map, max, Bool, true, false, nat_le, refl, ap, sym, subst, ◌∙◌, arith, append-nil, append_assoc, cond, inl, inr}
use Rattle.std.proofs.lemmas.Bool.{cases_Bool, cases_lt, or_parts}
use Rattle.std.proofs.lemmas.Bool.Decides.{nat_tests}
use Rattle.std.proofs.lemmas.List.{drop_all, drop-drop, drop-take, length-take, map-append, take-append-drop, take_all}
use Rattle.std.proofs.lemmas.List.Concat.{flat_map-append}
use Rattle.std.proofs.lemmas.List.Elements.{All-cons, All-filter, All-head, All-nil, All-tail, filter-append}
use Rattle.std.specs.List.{list_any}
use Rattle.areas.specs.Shapes.{AreApart, NoneGoesOn, Shape, all_counted, area_shape, areas_from, counted, edges_of, shapes, shapes_after, stroke_shape}
use Rattle.areas.specs.declared.area.Area.{Area}
use Rattle.plot_page.specs.Segments.{Segment}
use Rattle.plot_page.specs.declared.pens.PenSet.{PenSet}
use Rattle.stroke_runs.specs.Drawn.{begins_drawn, drawn_shapes, is_drawn}
use Rattle.stroke_runs.specs.Sheets.{between, shapes_between, sheet_areas}
use Rattle.areas.proofs.Apart.{all_kept, apart_counted, apart_from, counted_from_none}

-- what lies between two places, and what follows
pub cut_at : (strokes : List Segment) (at end : ℕ) → at ≤ end → between strokes at end ++ drop end strokes ≡ drop at strokes
cut_at strokes at end h =
    let later : at + (end - at) ≡ end = omega arith in
    let part : between strokes at end ≡ take (end - at) (drop at strokes) = ap (λ (k : ℕ). drop at (take k strokes)) (sym later) ∙ drop-take at (end - at) strokes in
    let rest : drop end strokes ≡ drop (end - at) (drop at strokes) = ap (λ (k : ℕ). drop k strokes) (sym later) ∙ sym (drop-drop (end - at) at strokes) in
    ap (λ (z : List Segment). z ++ drop end strokes) part ∙ ap (λ (z : List Segment). take (end - at) (drop at strokes) ++ z) rest ∙ take-append-drop (end - at) (drop at strokes)

take_less : (n m : ℕ) (xs : List Segment) → n ≤ m → take n (take m xs) ≡ take n xs
take_less zero m xs h = refl
take_less (suc n) zero xs h = absurd (omega (arith, h))
take_less (suc n) (suc m) [] h = refl
take_less (suc n) (suc m) (x ∷ xs) h = ap (λ (zs : List Segment). x ∷ zs) (take_less n m xs (omega (arith, h)))

-- there are no strokes after the last one
none_after : (strokes : List Segment) (at end : ℕ) → length strokes ≤ at → drop at (take end strokes) ≡ []
none_after strokes at end h = drop_all at (take end strokes) (omega (arith, h, length-take end strokes))

module _ (pens : PenSet) where
  abbrev seen : List Shape → List Shape
  seen ss = drawn_shapes pens ss

  pub seen_append : (ss ts : List Shape) → seen (ss ++ ts) ≡ seen ss ++ seen ts
  seen_append ss ts = filter-append (λ shape. begins_drawn pens shape.strokes) ss ts

  -- an area without edges is not drawn
  area_without : (strokes : List Segment) (a : Area) (rest : List Shape) → edges_of strokes a ≡ [] → seen (area_shape strokes a ∷ rest) ≡ seen rest
  area_without strokes a rest none =
      ap (λ (b : Bool). cond b (area_shape strokes a ∷ seen rest) (seen rest)) (ap (λ (zs : List Segment). begins_drawn pens zs) none)

  -- after all strokes nothing is drawn
  pub nothing_after : (at : ℕ) (strokes : List Segment) (areas : List Area) → AreApart at areas → length strokes ≤ at → seen (shapes_after at strokes areas) ≡ []
  nothing_after at strokes [] h short = ap (λ (zs : List Segment). seen (map stroke_shape zs)) (drop_all at strokes short)
  nothing_after at strokes (a ∷ more) h short =
      let rest = shapes_after a.end strokes more in
      ap (λ (zs : List Segment). seen (map stroke_shape zs ++ area_shape strokes a ∷ rest)) (none_after strokes at a.first short)
      ∙ area_without strokes a rest (none_after strokes a.first a.end (omega (arith, short, h.0)))
      ∙ nothing_after a.end strokes more h.2 (omega (arith, short, h.0, h.1))

  -- areas that begin after all strokes
  areas_beyond : (at k : ℕ) (strokes : List Segment) (areas : List Area) → AreApart k areas → length strokes ≤ k → seen (shapes_after at strokes areas) ≡ seen (map stroke_shape (drop at strokes))
  areas_beyond at k strokes [] h short = refl
  areas_beyond at k strokes (a ∷ more) h short =
      let rest = shapes_after a.end strokes more in
      let none : seen (area_shape strokes a ∷ rest) ≡ [] =
      area_without strokes a rest (none_after strokes a.first a.end (omega (arith, short, h.0))) ∙ nothing_after a.end strokes more h.2 (omega (arith, short, h.0, h.1)) in
      ap (λ (zs : List Segment). seen (map stroke_shape (drop at zs) ++ area_shape strokes a ∷ rest)) (take_all a.first strokes (omega (arith, short, h.0)))
      ∙ seen_append (map stroke_shape (drop at strokes)) (area_shape strokes a ∷ rest)
      ∙ ap (λ (zs : List Shape). seen (map stroke_shape (drop at strokes)) ++ zs) none
      ∙ append-nil (seen (map stroke_shape (drop at strokes)))

  -- strokes, and others after them
  both_strokes : (xs ys zs : List Segment) (rest : List Shape) → xs ++ ys ≡ zs → seen (map stroke_shape xs) ++ seen (map stroke_shape ys ++ rest) ≡ seen (map stroke_shape zs ++ rest)
  both_strokes xs ys zs rest h =
      sym (seen_append (map stroke_shape xs) (map stroke_shape ys ++ rest))
      ∙ ap (λ (ss : List Shape). seen ss) (sym (append_assoc (map stroke_shape xs) (map stroke_shape ys) rest) ∙ ap (λ (ss : List Shape). ss ++ rest) (sym (map-append stroke_shape xs ys)))
      ∙ ap (λ (ss : List Segment). seen (map stroke_shape ss ++ rest)) h

  -- the cut lies before an area
  before_area : (at m : ℕ) (strokes : List Segment) (a : Area) (more : List Area) → AreApart at (a ∷ more) → at ≤ m → m ≤ a.first
      → seen (shapes_after at (take m strokes) (a ∷ more)) ++ seen (shapes_after m strokes (a ∷ more)) ≡ seen (shapes_after at strokes (a ∷ more))
  before_area at m strokes a more h low high =
      let rest = area_shape strokes a ∷ shapes_after a.end strokes more in
      let front = areas_beyond at m (take m strokes) (a ∷ more) (high, h.1, h.2) (omega (arith, length-take m strokes)) in
      let both : drop at (take m strokes) ++ drop m (take a.first strokes) ≡ drop at (take a.first strokes) =
      ap (λ (zs : List Segment). drop at zs ++ drop m (take a.first strokes)) (sym (take_less m a.first strokes high)) ∙ cut_at (take a.first strokes) at m low in
      ap (λ (ss : List Shape). ss ++ seen (map stroke_shape (drop m (take a.first strokes)) ++ rest)) front
      ∙ both_strokes (drop at (take m strokes)) (drop m (take a.first strokes)) (drop at (take a.first strokes)) rest both

  -- the cut lies after it
  after_area : (at m : ℕ) (strokes : List Segment) (a : Area) (more later : List Area) → a.first < m → a.end ≤ m
      → seen (shapes_after a.end (take m strokes) more) ++ seen (shapes_after m strokes later) ≡ seen (shapes_after a.end strokes more)
      → seen (shapes_after at (take m strokes) (a ∷ more)) ++ seen (shapes_after m strokes later) ≡ seen (shapes_after at strokes (a ∷ more))
  after_area at m strokes a more later low high rest =
      let front = map stroke_shape (drop at (take a.first strokes)) in
      let area = area_shape strokes a in
      let part = shapes_after a.end (take m strokes) more in
      let others = shapes_after m strokes later in
      let first : take a.first (take m strokes) ≡ take a.first strokes = take_less a.first m strokes (omega (arith, low)) in
      let last : take a.end (take m strokes) ≡ take a.end strokes = take_less a.end m strokes high in
      let same : area_shape (take m strokes) a ≡ area = ap (λ (zs : List Segment). record area { strokes = drop a.first zs }) last in
      (λ i. seen (map stroke_shape (drop at (first i)) ++ same i ∷ part) ++ seen others)
      ∙ ap (λ (ss : List Shape). ss ++ seen others) (seen_append front (area ∷ part))
      ∙ append_assoc (seen front) (seen (area ∷ part)) (seen others)
      ∙ ap (λ (ss : List Shape). seen front ++ ss) (
      ap (λ (ss : List Shape). ss ++ seen others) (seen_append (area ∷ []) part)
      ∙ append_assoc (seen (area ∷ [])) (seen part) (seen others)
      ∙ ap (λ (ss : List Shape). seen (area ∷ []) ++ ss) rest
      ∙ sym (seen_append (area ∷ []) (shapes_after a.end strokes more))
      )
      ∙ sym (seen_append front (area ∷ shapes_after a.end strokes more))

  cut_areas : (at m : ℕ) (strokes : List Segment) (areas : List Area) → AreApart at areas → at ≤ m → NoneGoesOn m areas
      → seen (shapes_after at (take m strokes) areas) ++ seen (shapes_after m strokes (areas_from m areas)) ≡ seen (shapes_after at strokes areas)
  cut_areas at m strokes [] h low whole =
      sym (seen_append (map stroke_shape (drop at (take m strokes))) (map stroke_shape (drop m strokes)))
      ∙ ap (λ (ss : List Shape). seen ss) (sym (map-append stroke_shape (drop at (take m strokes)) (drop m strokes)) ∙ ap (λ (zs : List Segment). map stroke_shape zs) (cut_at strokes at m low))
  cut_areas at m strokes (a ∷ more) h low whole = elim (cases_Bool (nat_le m a.first)) [
    | inl e ↦
        let high : m ≤ a.first = grind (arith, nat_tests, e) in
        let kept : areas_from m (a ∷ more) ≡ a ∷ more = all_kept m m (a ∷ more) (high, h.1, h.2) (omega arith) in
        ap (λ (zs : List Area). seen (shapes_after at (take m strokes) (a ∷ more)) ++ seen (shapes_after m strokes zs)) kept
        ∙ before_area at m strokes a more h low high
    | inr e ↦
        let begun : a.first < m = grind (arith, nat_tests, e) in
        let P : Area → Type 0 = λ x. x.first < m → x.end ≤ m in
        let ended : a.end ≤ m = All-head P a more whole begun in
        let kept : areas_from m (a ∷ more) ≡ areas_from m more = ap (λ (b : Bool). cond b (a ∷ areas_from m more) (areas_from m more)) e in
        ap (λ (zs : List Area). seen (shapes_after at (take m strokes) (a ∷ more)) ++ seen (shapes_after m strokes zs)) kept
        ∙ after_area at m strokes a more (areas_from m more) begun ended (cut_areas a.end m strokes more h.2 ended (All-tail P a more whole))
  ]

from_step : (b c : Bool) (a : Area) (xs ys : List Area) (at m : ℕ) → nat_le at a.first ≡ b → nat_le m a.first ≡ c → at ≤ m → areas_from m xs ≡ ys → areas_from m (cond b (a ∷ xs) xs) ≡ cond c (a ∷ ys) ys
from_step true c a xs ys at m e f low h = λ i. cond (f i) (a ∷ h i) (h i)
from_step false true a xs ys at m e f low h = absurd (grind (arith, nat_tests, e, f, low))
from_step false false a xs ys at m e f low h = h

from_from : (at m : ℕ) (areas : List Area) → at ≤ m → areas_from m (areas_from at areas) ≡ areas_from m areas
from_from at m [] low = refl
from_from at m (a ∷ more) low = from_step (nat_le at a.first) (nat_le m a.first) a (areas_from at more) (areas_from m more) at m refl refl low (from_from at m more low)

-- the shapes after some strokes
abbrev pub shapes_from : List Segment → List Area → ℕ → List Shape
shapes_from strokes areas at = shapes_after at strokes (areas_from at areas)

-- the shapes between two strokes, and those after them
pub cut_shapes : (pens : PenSet) (strokes : List Segment) (areas : List Area) (at m : ℕ) → AreApart 0 areas → at ≤ m → NoneGoesOn m areas
    → drawn_shapes pens (shapes_between strokes areas at m) ++ drawn_shapes pens (shapes_from strokes areas m) ≡ drawn_shapes pens (shapes_from strokes areas at)
cut_shapes pens strokes areas at m h low whole =
    let P : Area → Type 0 = λ x. x.first < m → x.end ≤ m in
    let kept = All-filter (λ a. nat_le at a.first) P areas whole in
    ap (λ (zs : List Area). drawn_shapes pens (shapes_between strokes areas at m) ++ drawn_shapes pens (shapes_after m strokes zs)) (sym (from_from at m areas low))
    ∙ cut_areas pens at m strokes (areas_from at areas) (apart_from 0 at areas h) low kept

-- the last shapes, and all of them
pub last_shapes : (strokes : List Segment) (areas : List Area) (at : ℕ) → shapes_between strokes areas at (length strokes) ≡ shapes_from strokes areas at
last_shapes strokes areas at = ap (λ (zs : List Segment). shapes_after at zs (areas_from at areas)) (take_all (length strokes) strokes (omega arith))

pub first_shapes : (strokes : List Segment) (areas : List Area) → AreApart 0 areas → shapes_from strokes areas 0 ≡ shapes strokes areas
first_shapes strokes areas h = ap (λ (zs : List Area). shapes_after 0 strokes zs) (all_kept 0 0 areas h (omega arith))

pub no_more_shapes : (pens : PenSet) (strokes : List Segment) (areas : List Area) (at : ℕ) → AreApart 0 areas → length strokes ≤ at → drawn_shapes pens (shapes_from strokes areas at) ≡ []
no_more_shapes pens strokes areas at h short = nothing_after pens at strokes (areas_from at areas) (apart_from 0 at areas h) short

-- counted from the strokes of a sheet, shapes are the same
moved_cut : (base k n : ℕ) (strokes : List Segment) → base ≤ k → k ≤ n → drop (k - base) (take (n - base) (drop base strokes)) ≡ drop k (take n strokes)
moved_cut base k n strokes low high =
    let size : base + (n - base) ≡ n = omega (arith, low, high) in
    let place : base + (k - base) ≡ k = omega (arith, low) in
    ap (λ (zs : List Segment). drop (k - base) zs) (sym (drop-take base (n - base) strokes) ∙ ap (λ (j : ℕ). drop base (take j strokes)) size)
    ∙ drop-drop (k - base) base (take n strokes)
    ∙ ap (λ (j : ℕ). drop j (take n strokes)) place

moved_shapes : (base k : ℕ) (strokes : List Segment) (areas : List Area) → AreApart k areas → base ≤ k → shapes_after (k - base) (drop base strokes) (all_counted base areas) ≡ shapes_after k strokes areas
moved_shapes base k strokes [] h low =
    let place : base + (k - base) ≡ k = omega (arith, low) in
    ap (λ (zs : List Segment). map stroke_shape zs) (drop-drop (k - base) base strokes ∙ ap (λ (j : ℕ). drop j strokes) place)
moved_shapes base k strokes (a ∷ more) h low =
    let front = moved_cut base k a.first strokes low h.0 in
    let edges = moved_cut base a.first a.end strokes (omega (arith, low, h.0)) (omega (arith, h.1)) in
    let rest = moved_shapes base a.end strokes more h.2 (omega (arith, low, h.0, h.1)) in
    λ i. map stroke_shape (front i) ++ record (area_shape strokes a) { strokes = edges i } ∷ rest i

pub sheet_shapes : (strokes : List Segment) (areas : List Area) (at end : ℕ) → AreApart 0 areas → shapes (between strokes at end) (sheet_areas at areas) ≡ shapes_between strokes areas at end
sheet_shapes strokes areas at end h =
    let none : 0 ≡ at - at = omega arith in
    ap (λ (j : ℕ). shapes_after j (between strokes at end) (sheet_areas at areas)) none
    ∙ moved_shapes at at (take end strokes) (areas_from at areas) (apart_from 0 at areas h) (omega arith)

pub sheet_apart : (at : ℕ) (areas : List Area) → AreApart 0 areas → AreApart 0 (sheet_areas at areas)
sheet_apart at areas h =
    let none : at - at ≡ 0 = omega arith in
    subst (λ (j : ℕ). AreApart j (sheet_areas at areas)) none (apart_counted at at (areas_from at areas) (apart_from 0 at areas h) (omega arith))

-- before the first sheet there are no strokes
pub all_areas : (areas : List Area) → AreApart 0 areas → sheet_areas 0 areas ≡ areas
all_areas areas h = counted_from_none (areas_from 0 areas) ∙ all_kept 0 0 areas h (omega arith)

-- where no area goes on
pub none_at_start : (areas : List Area) → NoneGoesOn 0 areas
none_at_start [] = All-nil (λ (a : Area). a.first < 0 → a.end ≤ 0)
none_at_start (a ∷ more) = All-cons (λ (x : Area). x.first < 0 → x.end ≤ 0) a more (λ below. absurd (omega (arith, below))) (none_at_start more)

pub none_at_later : (m n : ℕ) (areas : List Area) → NoneGoesOn m areas → NoneGoesOn n areas → NoneGoesOn (max m n) areas
none_at_later m n areas h k = elim (cases_lt m n) [
  | inl less ↦ (let same : n ≡ max m n = omega (arith, less) in subst (λ (j : ℕ). NoneGoesOn j areas) same k)
  | inr more ↦ (let same : m ≡ max m n = omega (arith, more) in subst (λ (j : ℕ). NoneGoesOn j areas) same h)
]

one_counted : (at n : ℕ) (a : Area) → at ≤ a.first → (a.first < n → a.end ≤ n) → a.first - at < n - at → a.end - at ≤ n - at
one_counted at n a low h less =
    let ended = h (omega (arith, low, less)) in
    omega (arith, ended)

sheet_step : (b : Bool) (at n : ℕ) (a : Area) (more : List Area) → nat_le at a.first ≡ b → (a.first < n → a.end ≤ n) → NoneGoesOn (n - at) (all_counted at more)
    → NoneGoesOn (n - at) (all_counted at (cond b (a ∷ more) more))
sheet_step true at n a more e h rest =
    let P : Area → Type 0 = λ x. x.first < n - at → x.end ≤ n - at in
    let low : at ≤ a.first = grind (arith, nat_tests, e) in
    All-cons P (counted at a) (all_counted at more) (one_counted at n a low h) rest
sheet_step false at n a more e h rest = rest

pub none_on_sheet : (at n : ℕ) (areas : List Area) → NoneGoesOn n areas → NoneGoesOn (n - at) (sheet_areas at areas)
none_on_sheet at n [] h = All-nil (λ (a : Area). a.first < n - at → a.end ≤ n - at)
none_on_sheet at n (a ∷ more) h =
    let P : Area → Type 0 = λ x. x.first < n → x.end ≤ n in
    sheet_step (nat_le at a.first) at n a (areas_from at more) refl (All-head P a more h) (none_on_sheet at n more (All-tail P a more h))

-- the strokes of shapes
abbrev pub strokes_in : List Shape → List Segment
strokes_in ss = flat_map (λ shape. shape.strokes) ss

each_alone : (strokes : List Segment) → strokes_in (map stroke_shape strokes) ≡ strokes
each_alone [] = refl
each_alone (s ∷ ss) = ap (λ (zs : List Segment). s ∷ zs) (each_alone ss)

pub strokes_after : (at : ℕ) (strokes : List Segment) (areas : List Area) → AreApart at areas → strokes_in (shapes_after at strokes areas) ≡ drop at strokes
strokes_after at strokes [] h = each_alone (drop at strokes)
strokes_after at strokes (a ∷ more) h =
    let front = drop at (take a.first strokes) in
    let rest = shapes_after a.end strokes more in
    flat_map-append (λ shape. shape.strokes) (map stroke_shape front) (area_shape strokes a ∷ rest)
    ∙ (λ i. each_alone front i ++ (edges_of strokes a ++ strokes_after a.end strokes more h.2 i))
    ∙ ap (λ (zs : List Segment). front ++ zs) (cut_at strokes a.first a.end (omega (arith, h.1)))
    ∙ cut_at strokes at a.first h.0

pub strokes_between : (strokes : List Segment) (areas : List Area) (at end : ℕ) → AreApart 0 areas → strokes_in (shapes_between strokes areas at end) ≡ between strokes at end
strokes_between strokes areas at end h = strokes_after at (take end strokes) (areas_from at areas) (apart_from 0 at areas h)

-- of strokes of which none is drawn, no shape is
any_parts : (p : Segment → Bool) (xs ys : List Segment) → list_any p (xs ++ ys) ≡ false → (list_any p xs ≡ false) × (list_any p ys ≡ false)
any_parts p [] ys h = (refl, h)
any_parts p (x ∷ xs) ys h =
    let both = or_parts (p x) (list_any p (xs ++ ys)) h in
    let rest = any_parts p xs ys both.1 in
    (cc, rest.1)

first_hidden : (pens : PenSet) (ss : List Segment) → list_any (is_drawn pens) ss ≡ false → begins_drawn pens ss ≡ false
first_hidden pens [] h = refl
first_hidden pens (s ∷ ss) h = (or_parts (is_drawn pens s) (list_any (is_drawn pens) ss) h).0

pub none_drawn : (pens : PenSet) (ss : List Shape) → list_any (is_drawn pens) (strokes_in ss) ≡ false → drawn_shapes pens ss ≡ []
none_drawn pens [] h = refl
none_drawn pens (s ∷ ss) h =
    let both = any_parts (is_drawn pens) s.strokes (strokes_in ss) h in
    ap (λ (b : Bool). cond b (s ∷ drawn_shapes pens ss) (drawn_shapes pens ss)) (first_hidden pens s.strokes both.0) ∙ none_drawn pens ss both.1
