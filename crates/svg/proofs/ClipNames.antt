-- No two clip paths of a document have the same name.
use Rattle.std.proofs.Common.{◌≡◌, ◌≢◌, ◌∙◌, ℕ, zero, suc, ◌<◌, List, [], ◌∷◌, length, get_or, Bool, true, false, cond, Some, None, refl, ap, sym, arith}
use Rattle.std.proofs.lemmas.Bool.{false≢true}
use Rattle.std.proofs.lemmas.Cmp.{int_cmp_total, on_total, then_total, tied_itself}
use Rattle.std.specs.BTreeSet.{insert_key}
use Rattle.std.specs.Cmp.{IsTotalOrder}
use Rattle.std.specs.List.{All, AllPairs}
use Rattle.std.specs.Ordering.{is_eq, match_ordering, ordering_reverse}
use Rattle.std.specs.declared.cmp.Ordering.{Ordering}
use Rattle.std.specs.declared.cmp.Ordering.TheVariants.{Less, Equal, Greater}
use Rattle.plot_page.specs.Segments.{Segment}
use Rattle.plot_page.specs.declared.page.Page.{Page}
use Rattle.plot_page.specs.declared.pens.PenSet.{PenSet}
use Rattle.stroke_runs.specs.Drawn.{drawn}
use Rattle.stroke_runs.specs.Shown.{is_whole_page}
use Rattle.svg.specs.declared.places.Rectangle.{Rectangle}
use Rattle.svg.specs.Clips.{clips_of, rectangle_cmp, with_clip, with_clips}
use Rattle.svg.specs.Paths.{clip_name, clip_of}
use Rattle.svg.specs.Places.{rectangle_of}
use Rattle.stroke_runs.specs.Ranges.{IsInRange}
use Rattle.svg.proofs.BytesLaw.{all_small}
use Rattle.svg.proofs.ClipReads.{AreSmallRectangles, IsSmallRectangle, one_name}

by_numbers : IsTotalOrder rectangle_cmp
by_numbers =
    then_total (on_total (λ (r : Rectangle). r.x) int_cmp_total)
    (then_total (on_total (λ (r : Rectangle). r.y) int_cmp_total) (then_total (on_total (λ (r : Rectangle). r.width) int_cmp_total) (on_total (λ (r : Rectangle). r.height) int_cmp_total)))

-- a rectangle comes before each of others
abbrev IsBefore : Rectangle → List Rectangle → Type 0
IsBefore r [] = Unit {0}
IsBefore r (x ∷ rs) = (rectangle_cmp r x ≡ Less) × IsBefore r rs

-- each comes before those after it
abbrev AreSorted : List Rectangle → Type 0
AreSorted [] = Unit {0}
AreSorted (r ∷ rs) = IsBefore r rs × AreSorted rs

before_all : (r x : Rectangle) (rs : List Rectangle) → rectangle_cmp r x ≡ Less → IsBefore x rs → IsBefore r rs
before_all r x [] h k = tt
before_all r x (y ∷ rs) h k = (by_numbers.trans r x y h k.0, before_all r x rs h k.1)

abbrev with_one : List Rectangle → Rectangle → List Rectangle
with_one rs r = insert_key rectangle_cmp rs r

before_step : (o : Ordering) (q r x : Rectangle) (rs ts : List Rectangle) → rectangle_cmp q r ≡ Less → IsBefore q (x ∷ rs) → IsBefore q ts → IsBefore q (match_ordering o (r ∷ x ∷ rs) (x ∷ rs) (x ∷ ts))
before_step Less q r x rs ts h k m = (h, k)
before_step Equal q r x rs ts h k m = k
before_step Greater q r x rs ts h k m = (k.0, m)

before_more : (q r : Rectangle) (rs : List Rectangle) → rectangle_cmp q r ≡ Less → IsBefore q rs → IsBefore q (with_one rs r)
before_more q r [] h k = (h, tt)
before_more q r (x ∷ rs) h k = before_step (rectangle_cmp r x) q r x rs (with_one rs r) h k (before_more q r rs h k.1)

sorted_step : (o : Ordering) (r x : Rectangle) (rs : List Rectangle) → rectangle_cmp r x ≡ o → AreSorted (x ∷ rs) → AreSorted (with_one rs r) → AreSorted (match_ordering o (r ∷ x ∷ rs) (x ∷ rs) (x ∷ with_one rs r))
sorted_step Less r x rs e h k = ((e, before_all r x rs e h.0), h)
sorted_step Equal r x rs e h k = h
sorted_step Greater r x rs e h k = (before_more x r rs (by_numbers.antisymm x r ∙ ap ordering_reverse e) h.0, k)

sorted_more : (rs : List Rectangle) (r : Rectangle) → AreSorted rs → AreSorted (with_one rs r)
sorted_more [] r h = (tt, tt)
sorted_more (x ∷ rs) r h = sorted_step (rectangle_cmp r x) r x rs refl h (sorted_more rs r h.1)

clip_step : (b : Bool) (rs : List Rectangle) (r : Rectangle) → AreSorted rs → AreSorted (with_clip rs (cond b None (Some r)))
clip_step true rs r h = h
clip_step false rs r h = sorted_more rs r h

clips_sorted : (page : Page) (rs : List Rectangle) (ss : List Segment) → AreSorted rs → AreSorted (with_clips page rs ss)
clips_sorted page rs [] h = h
clips_sorted page rs (s ∷ ss) h = clips_sorted page (with_clip rs (clip_of page s.window)) ss (clip_step (is_whole_page page s.window) rs (rectangle_of page s.window) h)

-- rectangles of which one comes before the other have two names
two_names : (r q : Rectangle) → IsSmallRectangle r → IsSmallRectangle q → rectangle_cmp r q ≡ Less → clip_name r ≢ clip_name q
two_names r q h k e = λ same.
    let one = one_name r q h k same in
    false≢true (ap is_eq (sym e ∙ ap (λ (z : Rectangle). rectangle_cmp r z) (sym one) ∙ tied_itself by_numbers r))

first_name : (r : Rectangle) (rs : List Rectangle) (j : ℕ) (d : Rectangle) → IsSmallRectangle r → AreSmallRectangles rs → IsBefore r rs → j < length rs → clip_name r ≢ clip_name (get_or rs j d)
first_name r [] j d h k m lt = absurd (omega (arith, lt))
first_name r (x ∷ rs) zero d h k m lt = two_names r x h k.0 m.0
first_name r (x ∷ rs) (suc j) d h k m lt = first_name r rs j d h k.1 m.1 (omega (arith, lt))

all_names : (rs : List Rectangle) → AreSmallRectangles rs → AreSorted rs → AllPairs (λ (a b : Rectangle). clip_name a ≢ clip_name b) rs
all_names [] h k i j d lt in_list = absurd (omega (arith, in_list))
all_names (r ∷ rs) h k zero zero d lt in_list = absurd (omega (arith, lt))
all_names (r ∷ rs) h k zero (suc j) d lt in_list = first_name r rs j d h.0 h.1 k.0 (omega (arith, in_list))
all_names (r ∷ rs) h k (suc i) zero d lt in_list = absurd (omega (arith, lt))
all_names (r ∷ rs) h k (suc i) (suc j) d lt in_list = all_names rs h.1 k.1 i j d (omega (arith, lt)) (omega (arith, in_list))

pub names_once : (page : Page) (pens : PenSet) (strokes : List Segment) → All IsInRange strokes → AllPairs (λ (a b : Rectangle). clip_name a ≢ clip_name b) (clips_of page pens strokes)
names_once page pens strokes h = all_names (clips_of page pens strokes) (all_small page pens strokes h) (clips_sorted page [] (drawn pens strokes) tt)
