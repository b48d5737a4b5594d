-- What the paths are clipped to are clip paths of the document.
use Rattle.std.proofs.Common.{◌≡◌, ℕ, zero, suc, ◌<◌, ℤ, ◌<ℤ◌, List, [], ◌∷◌, length, get_or, Option, Some, None, refl, ap, sym, subst, arith}
use Rattle.std.proofs.lemmas.Bool.{false≢true}
use Rattle.std.proofs.lemmas.Cmp.{int_ranked}
use Rattle.std.specs.BTreeSet.{insert_key}
use Rattle.std.specs.List.{All, Contains}
use Rattle.std.specs.Ordering.{MatchOrdering, int_cmp, is_eq, match_ordering, ordering_then}
use Rattle.std.specs.declared.cmp.Ordering.{Ordering}
use Rattle.std.specs.declared.cmp.Ordering.TheVariants.{Less, Equal, Greater}
use Rattle.areas.specs.Shapes.{AreApart}
use Rattle.areas.specs.declared.area.Area.{Area}
use Rattle.labels.specs.Labels.{LabelShape}
use Rattle.plot_page.specs.Segments.{Segment}
use Rattle.plot_page.specs.declared.page.Page.{Page}
use Rattle.plot_page.specs.declared.pens.PenSet.{PenSet}
use Rattle.stroke_runs.specs.Drawn.{drawn}
use Rattle.svg.specs.declared.places.Rectangle.{Rectangle}
use Rattle.svg.specs.Clips.{IsAmong, clips_of, rectangle_cmp, with_clip, with_clips}
use Rattle.svg.specs.Parts.{parts}
use Rattle.svg.specs.Paths.{Path, clip_of}
use Rattle.svg.specs.Readings.{parts_of_sheets, paths_in}
use Rattle.svg.specs.Sheets.{labelled_sheets}
use Rattle.svg.proofs.EachPath.{Each, EachDrawn, FromRun, each_drawn, each_of_parts, each_of_sheets}

equal_int : (a b : ℤ) → int_cmp a b ≡ Equal → a ≡ b
equal_int a b h =
    let P : Ordering → Type 0 = λ r. MatchOrdering r (a <ℤ b) (a ≡ b) (b <ℤ a) in
    subst P h (int_ranked a b (int_cmp a b) refl)

then_both : (x y : Ordering) → ordering_then x y ≡ Equal → (x ≡ Equal) × (y ≡ Equal)
then_both Less y h = absurd (false≢true (ap is_eq h))
then_both Equal y h = (refl, h)
then_both Greater y h = absurd (false≢true (ap is_eq h))

same_rectangle : (a b : Rectangle) → rectangle_cmp a b ≡ Equal → a ≡ b
same_rectangle a b h =
    let one = then_both (int_cmp a.x b.x) _ h in
    let two = then_both (int_cmp a.y b.y) _ one.1 in
    let three = then_both (int_cmp a.width b.width) (int_cmp a.height b.height) two.1 in
    let x = equal_int a.x b.x one.0 in
    let y = equal_int a.y b.y two.0 in
    let width = equal_int a.width b.width three.0 in
    let height = equal_int a.height b.height three.1 in
    λ i. record { x = x i; y = y i; width = width i; height = height i }

here : (r : Rectangle) (rs : List Rectangle) → Contains (r ∷ rs) r
here r rs = (0, omega arith, refl)

there : (x r : Rectangle) (rs : List Rectangle) → Contains rs r → Contains (x ∷ rs) r
there x r rs h = (suc h.0, omega (arith, h.1), h.2)

abbrev with_one : List Rectangle → Rectangle → List Rectangle
with_one rs r = insert_key rectangle_cmp rs r

added_step : (o : Ordering) (r x : Rectangle) (rs : List Rectangle) → rectangle_cmp r x ≡ o → Contains (with_one rs r) r → Contains (match_ordering o (r ∷ x ∷ rs) (x ∷ rs) (x ∷ with_one rs r)) r
added_step Less r x rs h rec = here r (x ∷ rs)
added_step Equal r x rs h rec =
    let P : Rectangle → Type 0 = λ z. Contains (x ∷ rs) z in
    subst P (sym (same_rectangle r x h)) (here x rs)
added_step Greater r x rs h rec = there x r (with_one rs r) rec

-- one more rectangle is there
added : (rs : List Rectangle) (r : Rectangle) → Contains (with_one rs r) r
added [] r = here r []
added (x ∷ rs) r = added_step (rectangle_cmp r x) r x rs refl (added rs r)

later : (k : ℕ) (x q : Rectangle) (rs ts : List Rectangle) → k < length (x ∷ rs) → get_or (x ∷ rs) k q ≡ q → (Contains rs q → Contains ts q) → Contains (x ∷ ts) q
later zero x q rs ts lt e rec = (0, omega arith, e)
later (suc k) x q rs ts lt e rec = there x q ts (rec (k, omega (arith, lt), e))

kept_step : (o : Ordering) (r x q : Rectangle) (rs : List Rectangle) → Contains (x ∷ rs) q → (Contains rs q → Contains (with_one rs r) q) → Contains (match_ordering o (r ∷ x ∷ rs) (x ∷ rs) (x ∷ with_one rs r)) q
kept_step Less r x q rs h rec = there r q (x ∷ rs) h
kept_step Equal r x q rs h rec = h
kept_step Greater r x q rs h rec = later h.0 x q rs (with_one rs r) h.1 h.2 rec

-- the others are there still
kept : (rs : List Rectangle) (r q : Rectangle) → Contains rs q → Contains (with_one rs r) q
kept [] r q h = there r q [] h
kept (x ∷ rs) r q h = kept_step (rectangle_cmp r x) r x q rs h (kept rs r q)

clip_kept : (rs : List Rectangle) (o : Option Rectangle) (q : Rectangle) → Contains rs q → Contains (with_clip rs o) q
clip_kept rs None q h = h
clip_kept rs (Some r) q h = kept rs r q h

clips_kept : (page : Page) (rs : List Rectangle) (ss : List Segment) (q : Rectangle) → Contains rs q → Contains (with_clips page rs ss) q
clips_kept page rs [] q h = h
clips_kept page rs (s ∷ ss) q h = clips_kept page (with_clip rs (clip_of page s.window)) ss q (clip_kept rs (clip_of page s.window) q h)

among_more : (rs ts : List Rectangle) (o : Option Rectangle) → ((q : Rectangle) → Contains rs q → Contains ts q) → IsAmong rs o → IsAmong ts o
among_more rs ts None more h = tt
among_more rs ts (Some r) more h = more r h

clip_added : (rs : List Rectangle) (o : Option Rectangle) → IsAmong (with_clip rs o) o
clip_added rs None = tt
clip_added rs (Some r) = added rs r

-- what each of these strokes is clipped to is there
each_among : (page : Page) (rs : List Rectangle) (ss : List Segment) → Each (λ s. IsAmong (with_clips page rs ss) (clip_of page s.window)) ss
each_among page rs [] = tt
each_among page rs (s ∷ ss) =
    let o = clip_of page s.window in
    (among_more (with_clip rs o) (with_clips page (with_clip rs o) ss) o (clips_kept page (with_clip rs o) ss) (clip_added rs o), each_among page (with_clip rs o) ss)

-- a path is clipped to the window of its strokes
abbrev HasClip : Page → List Rectangle → Segment → Type 0
HasClip page rs s = IsAmong rs (clip_of page s.window)

abbrev IsClipped : List Rectangle → Path → Type 0
IsClipped rs p = IsAmong rs p.clip

clipped_runs : (page : Page) (rs : List Rectangle) → FromRun page (HasClip page rs) (λ s. Unit {0}) (IsClipped rs)
clipped_runs page rs rule s ss h k m = h

each_any : (ss : List Segment) → Each (λ s. Unit {0}) ss
each_any [] = tt
each_any (s ∷ ss) = (tt, each_any ss)

strokes_clipped : (page : Page) (pens : PenSet) (strokes : List Segment) → EachDrawn pens (HasClip page (clips_of page pens strokes)) strokes
strokes_clipped page pens strokes = each_drawn pens (HasClip page (clips_of page pens strokes)) strokes (each_among page [] (drawn pens strokes))

pub parts_clipped : (page : Page) (pens : PenSet) (strokes : List Segment) (areas : List Area) (labels : List LabelShape) → AreApart 0 areas → All (λ (p : Path). IsAmong (clips_of page pens strokes) p.clip) (paths_in (parts page pens strokes areas labels))
parts_clipped page pens strokes areas labels apart =
    let rs = clips_of page pens strokes in
    each_of_parts page (HasClip page rs) (λ s. Unit {0}) (IsClipped rs) (clipped_runs page rs) pens strokes areas apart (strokes_clipped page pens strokes) (each_any strokes) labels

pub sheets_clipped : (page : Page) (pens : PenSet) (strokes : List Segment) (areas : List Area) (ends : List ℕ) (labels : List LabelShape) → AreApart 0 areas → All (λ (p : Path). IsAmong (clips_of page pens strokes) p.clip) (paths_in (parts_of_sheets page pens (labelled_sheets strokes areas ends labels)))
sheets_clipped page pens strokes areas ends labels apart =
    let rs = clips_of page pens strokes in
    each_of_sheets page (HasClip page rs) (λ s. Unit {0}) (IsClipped rs) (clipped_runs page rs) pens strokes areas apart (strokes_clipped page pens strokes) (each_any strokes) ends labels
