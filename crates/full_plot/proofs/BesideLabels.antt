-- No area of a plot goes on where a label begins or ends.
use Rattle.std.proofs.Common.{◌≡◌, ◌≤◌, ℕ, inl, inr, arith, subst, Bool, true, false, List, [], ◌∷◌, length, nat_eq, nat_lt, Option, Some, None, Result, Ok, Err}
use Rattle.std.specs.Prelude.{if◌then◌else◌}
use Rattle.std.proofs.lemmas.Bool.{cases_Bool}
use Rattle.std.proofs.lemmas.List.Elements.{All-append, All-cons, All-nil}
use Rattle.areas.specs.Shapes.{NoneGoesOn}
use Rattle.areas.specs.declared.area.Area.{Area}
use Rattle.carousel.specs.declared.carousel.Carousel.{Carousel}
use Rattle.character_sets.specs.declared.encoding.Encoding.{Encoding}
use Rattle.full_text.specs.Cut.{full_cut}
use Rattle.hpgl_text.specs.Shapes.{BodyShape, ItemShape}
use Rattle.hpgl_plot.specs.declared.fault.PlotFault.{PlotFault}
use Rattle.labels.specs.Labels.{AreBeside, LabelShape, LineShape}
use Rattle.plot_page.specs.declared.page.Page.{Page}
use Rattle.full_plot.specs.Drawings.{full_at_start_with, full_ended, full_runs, is_too_much}
use Rattle.full_plot.specs.Items.{taken}
use Rattle.full_plot.specs.Labels.{label_between, label_of, labels_by, labels_from, labels_kept, labels_of, lines_of, text_written}
use Rattle.full_plot.specs.Worlds.{FullWorld}
use Rattle.full_plot.proofs.BesideAreas.{none_after_all}
use Rattle.full_plot.proofs.Changes.{In}
use Rattle.full_plot.proofs.Later.{IsAfter, IsInOrder, after_item, at_start_in_order}

-- a label begins and ends where no area goes on
abbrev IsBeside : List Area → LabelShape → Type 0
IsBeside areas l = NoneGoesOn l.first areas × NoneGoesOn l.after areas

-- after an item that is carried out, and those after it
judged : (full : Bool) (e : PlotFault) (r : Result FullWorld PlotFault) (u : FullWorld) → (if full then Err e else r) ≡ Ok u → r ≡ Ok u
judged true e r u h = absurd (cc h)
judged false e r u h = h

none_by_item : (w u : FullWorld) (b : BodyShape) (at n : ℕ) (o : Option FullWorld) (go : FullWorld → Result FullWorld PlotFault) → In (IsAfter w b) o
    → full_ended o at go ≡ Ok u → n ≤ length w.core.kept → NoneGoesOn n w.areas
    → ((v : FullWorld) → go v ≡ Ok u → n ≤ length v.core.kept → NoneGoesOn n v.areas → NoneGoesOn n u.areas) → NoneGoesOn n u.areas
none_by_item w u b at n None go h e before none next = absurd (cc e)
none_by_item w u b at n (Some v) go h e before none next =
    next v (judged (is_too_much v) _ (go v) u e) (omega (arith, before, h.grows)) (h.none_goes_on n before none)

-- what does not go on in a world does not go on when all items are carried out
none_at_last : (items : List ItemShape) (w u : FullWorld) (n : ℕ) → full_runs w items ≡ Ok u → n ≤ length w.core.kept → NoneGoesOn n w.areas
    → NoneGoesOn n u.areas
none_at_last [] w u n e before none =
    let same : w ≡ u = cc e in subst (λ (v : FullWorld). NoneGoesOn n v.areas) same none
none_at_last (i ∷ more) w u n e before none =
    none_by_item w u i.body i.at n (taken w i.body) (λ (v : FullWorld). full_runs v more) (after_item w i.body) e before none
    (λ (v : FullWorld) (f : full_runs v more ≡ Ok u) (l : n ≤ length v.core.kept) (k : NoneGoesOn n v.areas). none_at_last more v u n f l k)

-- so it is with all strokes of a world
none_after_world : (items : List ItemShape) (w u : FullWorld) → IsInOrder w → full_runs w items ≡ Ok u → NoneGoesOn (length w.core.kept) u.areas
none_after_world items w u h e =
    none_at_last items w u (length w.core.kept) e (omega arith) (none_after_all w.areas (length w.core.kept) h.2)

-- the label of an item, if it is one
one_beside : (areas : List Area) (first after : ℕ) (lines : List LineShape) → NoneGoesOn first areas → NoneGoesOn after areas
    → AreBeside areas (label_of first after lines)
one_beside areas first after lines h k = elim (cases_Bool (nat_eq (length lines) 0)) [
  | inl i ↦ rw i (All-nil (IsBeside areas))
  | inr i ↦ elim (cases_Bool (nat_lt first after)) [
    | inl j ↦ (let l : LabelShape = record { first = first; after = after; lines = lines } in
        rw (i, j) (All-cons (IsBeside areas) l [] (h, k) (All-nil (IsBeside areas))))
    | inr j ↦ rw (i, j) (All-nil (IsBeside areas))
  ]
]

by_item : (w u : FullWorld) (b : BodyShape) (at : ℕ) (more : List ItemShape) (o : Option FullWorld) → In (IsAfter w b) o → IsInOrder w
    → full_ended o at (λ (v : FullWorld). full_runs v more) ≡ Ok u → NoneGoesOn (length w.core.kept) u.areas
    → ((v : FullWorld) → IsInOrder v → full_runs v more ≡ Ok u → AreBeside u.areas (labels_from v more))
    → AreBeside u.areas (labels_by w b o (λ (v : FullWorld). labels_from v more))
by_item w u b at more None h order e none next = absurd (cc e)
by_item w u b at more (Some v) h order e none next =
    let later : IsInOrder v = h.in_order order in
    let rest : full_runs v more ≡ Ok u = judged (is_too_much v) _ (full_runs v more) u e in
    All-append (IsBeside u.areas) (label_between w b v) (labels_from v more)
    (one_beside u.areas (length w.core.kept) (length v.core.kept) (lines_of w (text_written w b)) none (none_after_world more v u later rest))
    (next v later rest)

by_items : (items : List ItemShape) (w u : FullWorld) → IsInOrder w → full_runs w items ≡ Ok u → AreBeside u.areas (labels_from w items)
by_items [] w u h e = All-nil (IsBeside u.areas)
by_items (i ∷ more) w u h e =
    by_item w u i.body i.at more (taken w i.body) (after_item w i.body) h e (none_after_world (i ∷ more) w u h e)
    (λ (v : FullWorld) (k : IsInOrder v) (f : full_runs v more ≡ Ok u). by_items more v u k f)

-- those that are kept, or none
kept_beside : (keeps : Bool) (areas : List Area) (labels : List LabelShape) → AreBeside areas labels → AreBeside areas (labels_kept keeps labels)
kept_beside true areas labels h = h
kept_beside false areas labels h = All-nil (IsBeside areas)

pub labels_beside : (keeps : Bool) (encoding : Encoding) (carousel : Carousel) (page : Page) (plot : List ℕ) (v : FullWorld)
    → full_runs (full_at_start_with encoding carousel page) (full_cut plot) ≡ Ok v
    → AreBeside v.areas (labels_kept keeps (labels_of encoding carousel page plot))
labels_beside keeps encoding carousel page plot v e =
    kept_beside keeps v.areas (labels_of encoding carousel page plot)
    (by_items (full_cut plot) (full_at_start_with encoding carousel page) v (at_start_in_order encoding carousel page) e)
