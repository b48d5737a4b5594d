-- A step is its path, and the state after it: what each figure leaves.
use Rattle.std.proofs.Common.{◌≡◌, ◌∙◌, ap, sym, subst, refl, inl, inr, Bool, true, not, ℤ, List, [], ◌∷◌, Option, Some, None, Result, Ok, Err}
use Rattle.std.proofs.lemmas.Bool.{cases_Bool}
use Rattle.std.proofs.lemmas.Option.{none-some, same_Some}
use Rattle.std.specs.List.{list_all}
use Rattle.std.specs.Prelude.{if◌then◌else◌}
use Rattle.std.specs.Result.{IsErrAnd}
use Rattle.plot_page.specs.declared.page.Page.{Page}
use Rattle.hpgl_plot.specs.declared.plotter.Stop.{Stop}
use Rattle.hpgl_plot.specs.declared.plotter.Stop.TheVariants.{Memory, OffRange}
use Rattle.exact.specs.declared.spot.Spot.{Spot}
use Rattle.hpgl_plot.specs.declared.state.Position.{Position}
use Rattle.hpgl_plot.specs.declared.state.State.{State}
use Rattle.hpgl_text.specs.EntryShapes.{PartShape, Pen, Pair, Bad, Stray}
use Rattle.plot_settings.specs.Meanings.{Step, Set, Lower, Move, Go, Edge, part_steps}
use Rattle.plot_settings.specs.declared.setting.Setting.TheVariants as setting
use Rattle.hpgl_plot.specs.declared.state.Frame.{Frame}
use Rattle.hpgl_plot.specs.Bounds.{IsPlain}
use Rattle.hpgl_plot.specs.Frames.{place}
use Rattle.hpgl_plot.specs.Paths.{Path, path, along, pen_at, position, target}
use Rattle.hpgl_plot.specs.Strokes.{are_in_range, path_strokes}
use Rattle.hpgl_plot.specs.Machine.{World, with_strokes, step, after, moved, travelled, travelled_all, ends_in, followed, run, Runs}
use Rattle.hpgl_plot.proofs.Polylines.{lines_are, one_line}

step_is : (w : World) (s : Step)
    → step w s ≡ ends_in (after w.page w.state s) (travelled_all w (path w.page w.state s).draws (path w.page w.state s).lines)
unfolding step
step_is w s =
    let p = path w.page w.state s in
    let e : step w s
    ≡ ends_in (after w.page w.state s)
    (if list_all (are_in_range w.range) p.lines then Some (with_strokes w w.state (path_strokes w.state p)) else None) =
    elim (cases_Bool (list_all (are_in_range w.range) p.lines)) [
      | inl t ↦ rw t refl
      | inr t ↦ rw t refl
    ] in
    e ∙ ap (λ (o : Option World). ends_in (after w.page w.state s) o) (sym (lines_are w p.draws p.lines))

pub step_by : (w : World) (s : Step) (p : Path) → path w.page w.state s ≡ p
    → step w s ≡ ends_in (after w.page w.state s) (travelled_all w p.draws p.lines)
step_by w s p e = step_is w s ∙ ap (λ (q : Path). ends_in (after w.page w.state s) (travelled_all w q.draws q.lines)) e

-- a path of one line
pub record Line : Type 0 where
  pub places : List Spot
  pub draws : Bool
  pub ends : Position

pub step_along : (w : World) (s : Step) (p : Line) → path w.page w.state s ≡ along p.places p.draws p.ends
    → step w s ≡ ends_in (after w.page w.state s) (travelled w p.draws p.places)
step_along w s p e =
    step_by w s (along p.places p.draws p.ends) e
    ∙ ap (λ (o : Option World). ends_in (after w.page w.state s) o) (one_line w p.draws p.places)

-- a line changes neither the page nor what is set
travelled_stays : (w : World) (draws : Bool) (places : List Spot) → ends_in w.state (travelled w draws places) ≡ travelled w draws places
travelled_stays w draws places = elim (cases_Bool (are_in_range w.range places)) [
  | inl t ↦ rw t refl
  | inr t ↦ rw t refl
]

pub record IsKept (w u : World) : Type 0 where
  pub page_is : u.page ≡ w.page
  pub range_is : u.range ≡ w.range
  pub state_is : u.state ≡ w.state

pub travelled_keeps : (w u : World) (draws : Bool) (places : List Spot) → travelled w draws places ≡ Some u → IsKept w u
travelled_keeps w u draws places h = elim (cases_Bool (are_in_range w.range places)) [
  | inl t ↦ (let e = sym (same_Some _ _ (rw t at h)) in
      record { page_is = ap (λ (v : World). v.page) e; range_is = ap (λ (v : World). v.range) e; state_is = ap (λ (v : World). v.state) e })
  | inr t ↦ absurd (none-some u (rw t at h))
]

-- nor do several lines
pub lines_keep : (w u : World) (draws : Bool) (ls : List (List Spot)) → travelled_all w draws ls ≡ Some u → IsKept w u
lines_keep w u draws [] h =
    let e = sym (same_Some _ _ h) in
    record { page_is = ap (λ (v : World). v.page) e; range_is = ap (λ (v : World). v.range) e; state_is = ap (λ (v : World). v.state) e }
lines_keep w u draws (l ∷ ls) h = elim (cases_Bool (list_all (are_in_range w.range) (l ∷ ls))) [
  | inl t ↦ (let e = sym (same_Some _ _ (rw t at (sym (lines_are w draws (l ∷ ls)) ∙ h))) in
      record { page_is = ap (λ (v : World). v.page) e; range_is = ap (λ (v : World). v.range) e; state_is = ap (λ (v : World). v.state) e })
  | inr t ↦ absurd (none-some u (rw t at (sym (lines_are w draws (l ∷ ls)) ∙ h)))
]

-- a step after which the pen is where it was has run if its path was travelled
pub still_runs : {U : Type 0} (w v : World) (s : Step) (p : Line) (r : Result U Stop)
    → after w.page w.state s ≡ w.state → path w.page w.state s ≡ along p.places p.draws p.ends → Runs (travelled w p.draws p.places) v r → Runs (step w s) v r
still_runs {U} w v s p r a e h =
    let k : step w s ≡ travelled w p.draws p.places =
    step_along w s p e ∙ ap (λ (t : State). ends_in t (travelled w p.draws p.places)) a ∙ travelled_stays w p.draws p.places in
    subst (λ (o : Option World). Runs o v r) (sym k) h

-- any other has run if its path was travelled, and then the pen came to its end
pub moved_runs : (w u v : World) (s : Step) (p : Line) → after w.page w.state s ≡ moved w.state p.ends → path w.page w.state s ≡ along p.places p.draws p.ends
    → travelled w p.draws p.places ≡ Some u → ends_in (moved u.state p.ends) (Some u) ≡ Some v → step w s ≡ Some v
moved_runs w u v s p a e h m =
    step_along w s p e
    ∙ ap (λ (t : State). ends_in t (travelled w p.draws p.places)) a
    ∙ ap (λ (t : State). ends_in (moved t p.ends) (travelled w p.draws p.places)) (sym (travelled_keeps w u p.draws p.places h).state_is)
    ∙ ap (λ (o : Option World). ends_in (moved u.state p.ends) o) h
    ∙ m

-- a step whose path leaves the range
pub step_out : (w : World) (s : Step) (p : Line) → path w.page w.state s ≡ along p.places p.draws p.ends → travelled w p.draws p.places ≡ None → step w s ≡ None
step_out w s p e h = step_along w s p e ∙ ap (λ (o : Option World). ends_in (after w.page w.state s) o) h

-- what stops early stops all of it
pub stopped : {U : Type 0} (o p : Option World) (u v : World) (e : Stop) (r : Result U Stop) → (o ≡ None → p ≡ None)
    → Runs {U = U} o u (Err e) → IsErrAnd r (λ f. f ≡ e) → Runs p v r
stopped o p u v e (Ok x) n h i = absurd i
stopped o p u v Memory (Err f) n h i = rw i tt
stopped o p u v OffRange (Err f) n h i = rw i (n h)

-- a move is travelled from the pen to its end, and the pen comes there
pub go_is : (w : World) (relative : Bool) (x y : ℤ) (end : Position) → end ≡ pen_at w.page w.state.frame (target relative w.state.coordinates x y)
    → step w (Go relative x y) ≡ ends_in (moved w.state end) (travelled w w.state.is_down (w.state.place ∷ (end.place ∷ [])))
go_is w relative x y end e =
    let s = w.state in
    let p : Line = record { places = s.place ∷ (end.place ∷ []); draws = s.is_down; ends = end } in
    let q : path w.page s (Go relative x y) ≡ along p.places p.draws p.ends = rw e refl in
    step_along w (Go relative x y) p q ∙ ap (λ (r : Path). ends_in (moved s r.ends) (travelled w p.draws p.places)) q

-- a plain frame is as plain after a move
pub plain_after : (w v : World) (x y : ℤ) → step w (Move x y) ≡ Some v → IsPlain w.page w.state.frame → IsPlain v.page v.state.frame
unfolding step
plain_after w v x y h p = elim (cases_Bool (list_all (are_in_range w.range) (path w.page w.state (Move x y)).lines)) [
  | inl t ↦ (let e = same_Some _ _ (rw t at h) in subst (λ (u : World). IsPlain u.page u.state.frame) e p)
  | inr t ↦ absurd (none-some v (rw t at h))
]

-- nor does any other step that leaves the frame make it less plain
pub kept_plain : (w v : World) (s : Step) → (after w.page w.state s).frame ≡ w.state.frame → step w s ≡ Some v → IsPlain w.page w.state.frame → IsPlain v.page v.state.frame
unfolding step
kept_plain w v s k h p = elim (cases_Bool (list_all (are_in_range w.range) (path w.page w.state s).lines)) [
  | inl t ↦ (let e = same_Some _ _ (rw t at h) in
      subst (λ (u : World). IsPlain u.page u.state.frame) e (subst (λ (f : Frame). IsPlain w.page f) (sym k) p))
  | inr t ↦ absurd (none-some v (rw t at h))
]

-- what ran to its end went through a first step
first_ran : (o : Option World) (f : World → Option World) (v : World) → followed o f ≡ Some v → (u : World) × (o ≡ Some u) × (f u ≡ Some v)
first_ran None f v h = absurd (none-some v h)
first_ran (Some u) f v h = (u, refl, h)

-- a plain frame is as plain after a part of a PE
pub plain_part : (w v : World) (part : PartShape) → run w (part_steps part) ≡ Some v → IsPlain w.page w.state.frame → IsPlain v.page v.state.frame
plain_part w v (Pen n) h p =
    let set = first_ran (step w (Set (setting.Pen n))) _ v h in
    let e = same_Some _ _ set.2 in
    subst (λ (u : World). IsPlain u.page u.state.frame) e (kept_plain w set.0 (Set (setting.Pen n)) refl set.1 p)
plain_part w v (Pair up absolute x y) h p =
    let lowered = first_ran (step w (Lower (not up))) _ v h in
    let gone = first_ran (step lowered.0 (Go (not absolute) x y)) _ v lowered.2 in
    let e = same_Some _ _ gone.2 in
    subst (λ (u : World). IsPlain u.page u.state.frame) e
    (kept_plain lowered.0 gone.0 (Go (not absolute) x y) refl gone.1 (kept_plain w lowered.0 (Lower (not up)) refl lowered.1 p))
plain_part w v Bad h p = subst (λ (u : World). IsPlain u.page u.state.frame) (same_Some _ _ h) p
plain_part w v (Stray byte) h p = subst (λ (u : World). IsPlain u.page u.state.frame) (same_Some _ _ h) p

-- the corners b, c and d of a rectangle, from the coordinates t opposite of the pen and p and q beside it
pub record AreCorners (page : Page) (s : State) (relative : Bool) (x y : ℤ) (t p q b c d : Spot) : Type 0 where
  pub opposite : t ≡ target relative s.coordinates x y
  pub beside : p ≡ record { x = t.x; y = s.coordinates.y }
  pub above : q ≡ record { x = s.coordinates.x; y = t.y }
  pub b_is : b ≡ place page s.frame p
  pub c_is : c ≡ place page s.frame t
  pub d_is : d ≡ place page s.frame q

pub edge_path_is : (page : Page) (s : State) (relative : Bool) (x y : ℤ) (t p q b c d : Spot) → AreCorners page s relative x y t p q b c d
    → path page s (Edge relative x y) ≡ along (s.place ∷ (b ∷ (c ∷ (d ∷ (s.place ∷ []))))) true (position s)
edge_path_is page s relative x y t p q b c d h = rw (h.b_is, h.c_is, h.d_is, h.beside, h.above, h.opposite) refl
