-- Lines along places: those in solid lines are core's, and the others are dashed one after another.
use Rattle.std.proofs.Common.{◌≡◌, ◌∙◌, ◌<◌, ◌+◌, drop, drop-cons, Bool, true, false, slice_index_or, ℕ, zero, suc, List, [], ◌∷◌, length, append-nil, refl, sym, ap, subst, inl, inr, arith, Option, Some, None, Result, Ok, Err}
use Rattle.std.specs.Prelude.{if◌then◌else◌}
use Rattle.std.specs.Result.{IsErrAnd}
use Rattle.std.proofs.lemmas.Bool.{and_parts, cases_Bool}
use Rattle.std.proofs.lemmas.Bool.Decides.{nat_tests}
use Rattle.std.proofs.lemmas.Option.{none-some, same_Some}
use Rattle.exact.specs.declared.spot.Spot.{Spot}
use Rattle.line_types.specs.LineTypes.{Solid}
use Rattle.plot_settings.specs.Meanings.{Step}
use Rattle.hpgl_plot.specs.declared.plotter.Stop.{Stop}
use Rattle.hpgl_plot.specs.declared.plotter.Stop.TheVariants.{Memory, OffRange}
use Rattle.hpgl_plot.specs.declared.state.Position.{Position}
use Rattle.hpgl_plot.specs.declared.state.State.{State}
use Rattle.hpgl_plot.specs.Bounds.{IsInRange, IsRangeOfPlaces}
use Rattle.hpgl_plot.proofs.Fed.{within}
use Rattle.hpgl_plot.proofs.Sound.{as_far}
use Rattle.plot_page.specs.declared.stroke.TheConstants.{FARTHEST_END}
use Rattle.hpgl_plot.specs.Paths.{along}
use Rattle.hpgl_plot.specs.Strokes.{are_in_range, by_a_pen, is_in_range, joined, stroke}
use Rattle.hpgl_plot.specs.Strokes as strokes
use Rattle.hpgl_plot.specs.Machine as core
use Rattle.hpgl_plot.proofs.Travels.{Line, step_along}
use Rattle.full_settings.specs.LineStyles.{is_solid}
use Rattle.full_plot.specs.Lines.{drawn_in_type, drawn_along, with_state, ended_in, line_step, lines_along, places_of, shape_in, state_after, step_path}
use Rattle.full_plot.specs.Machine.{Runs}
use Rattle.full_plot.specs.Polygons.{trace_step, traced}
use Rattle.full_plot.specs.Worlds.{FullWorld, with_core}
use Rattle.full_plot.proofs.DrawnLines.{drawn_in_type-append, none_drawn}
use Rattle.full_plot.proofs.Solid.{run_solid, shape_solid, solid_joined}
use Rattle.full_plot.proofs.Changes.{In, in_if, made_if}

-- what stops core stops a step, if it goes out of range with core
pub core_stopped : {U : Type 0} (T : Type 0) (o : Option core.World) (p : Option FullWorld) (u : core.World) (v : FullWorld) (e : Stop) (r : Result U Stop) → (o ≡ None → p ≡ None)
    → core.Runs {U = T} o u (Err e) → IsErrAnd r (λ f. f ≡ e) → Runs p v r
core_stopped T o p u v e (Ok x) n h i = absurd i
core_stopped T o p u v Memory (Err f) n h i = rw i tt
core_stopped T o p u v OffRange (Err f) n h i = rw i (n h)

-- what core answers, in the profile full
pub with_runs : {U : Type 0} (w : FullWorld) (o : Option core.World) (v : core.World) (r : Result U Stop) → core.Runs o v r → Runs (with_core w o) (record w { core = v }) r
with_runs w o v (Ok x) h = ap (λ (p : Option core.World). with_core w p) h
with_runs w o v (Err Memory) h = tt
with_runs w o v (Err OffRange) h = ap (λ (p : Option core.World). with_core w p) h

-- in solid lines they are core's
pub solid_along : (w : FullWorld) (draws : Bool) (places : List Spot) → shape_in w ≡ Solid
    → drawn_along w draws places ≡ with_core w (core.travelled w.core draws places)
solid_along w draws places h = elim (cases_Bool (are_in_range w.core.range places)) [
  | inl i ↦ rw (i, h, solid_joined w.core.state w.run draws places, run_solid w.run _) refl
  | inr i ↦ rw i refl
]

pub solid_along_runs : {U : Type 0} (w : FullWorld) (draws : Bool) (places : List Spot) (v : core.World) (r : Result U Stop) → is_solid w.style.kind ≡ true
    → core.Runs (core.travelled w.core draws places) v r → Runs (drawn_along w draws places) (record w { core = v }) r
solid_along_runs w draws places v r h k =
    rw (solid_along w draws places (shape_solid w.style.kind w.style.own _ h)) (with_runs w _ v r k)

-- a step whose path is one line
abbrev pub IsLine : FullWorld → Step → Type 0
IsLine w t = step_path w t ≡ along (places_of w t) (step_path w t).draws (step_path w t).ends

ended_with : (w : FullWorld) (s : State) (o : Option core.World) → ended_in s (with_core w o) ≡ with_core w (core.ends_in s o)
ended_with w s None = refl
ended_with w s (Some c) = refl

pub solid_line : (w : FullWorld) (t : Step) → IsLine w t → shape_in w ≡ Solid → line_step w t ≡ with_core w (core.step w.core t)
unfolding line_step
solid_line w t l h =
    let p : Line = record { places = places_of w t; draws = (step_path w t).draws; ends = (step_path w t).ends } in
    let s = state_after w t in
    ap (λ (o : Option FullWorld). ended_in s o) (solid_along w p.draws p.places h)
    ∙ ended_with w s (core.travelled w.core p.draws p.places)
    ∙ ap (λ (o : Option core.World). with_core w o) (sym (step_along w.core t p l))

pub solid_runs : {U : Type 0} (w : FullWorld) (t : Step) (v : core.World) (r : Result U Stop) → IsLine w t → is_solid w.style.kind ≡ true
    → core.Runs (core.step w.core t) v r → Runs (line_step w t) (record w { core = v }) r
solid_runs w t v r l h k =
    rw (solid_line w t l (shape_solid w.style.kind w.style.own _ h)) (with_runs w (core.step w.core t) v r k)

-- a step with this path
pub line_by : (w : FullWorld) (t : Step) (draws : Bool) (places : List Spot) (end : Position) → step_path w t ≡ along places draws end
    → line_step w t ≡ ended_in (state_after w t) (drawn_along w draws places)
unfolding line_step
line_by w t draws places end e = rw e refl

-- a figure after which the pen is where it was
still_in : (b : Bool) (w v : FullWorld) → v.core.state ≡ w.core.state → ended_in w.core.state (if b then Some v else None) ≡ (if b then Some v else None)
still_in true w v h = ap (λ (s : State). Some (with_state v s)) (sym h)
still_in false w v h = refl

pub still_by : (w : FullWorld) (t : Step) (draws : Bool) (places : List Spot) (end : Position) → step_path w t ≡ along places draws end
    → state_after w t ≡ w.core.state → line_step w t ≡ drawn_along w draws places
still_by w t draws places end e h =
    line_by w t draws places end e
    ∙ ap (λ (s : State). ended_in s (drawn_along w draws places)) h
    ∙ still_in (are_in_range w.core.range places) w (drawn_in_type w (lines_along w.core.state draws places)) refl

pub traced_by : (w : FullWorld) (t : Step) (draws : Bool) (places : List Spot) (end : Position) → step_path w t ≡ along places draws end
    → trace_step w t ≡ (if are_in_range w.core.range places then Some (record (with_state w (state_after w t)) { buffer = traced w t places }) else None)
unfolding trace_step
traced_by w t draws places end e = rw e refl

-- a place that core finds out of range
out_is : (c : core.World) (draws : Bool) (a : Spot) → core.travelled c draws (a ∷ []) ≡ None → is_in_range c.range a ≡ false
out_is c draws a k = elim (cases_Bool (is_in_range c.range a)) [
  | inl i ↦ absurd (none-some _ (sym (rw i at k)))
  | inr i ↦ i
]

pub along_out : (w : FullWorld) (draws : Bool) (a : Spot) (rest : List Spot) → core.travelled w.core draws (a ∷ []) ≡ None → drawn_along w draws (a ∷ rest) ≡ None
along_out w draws a rest k = rw (out_is w.core draws a k) refl

pub along_two_out : (w : FullWorld) (draws : Bool) (a b : Spot) → core.travelled w.core draws (b ∷ []) ≡ None → drawn_along w draws (a ∷ (b ∷ [])) ≡ None
along_two_out w draws a b k = elim (cases_Bool (is_in_range w.core.range a)) [
  | inl i ↦ rw (i, out_is w.core draws b k) refl
  | inr i ↦ rw i refl
]

-- the first line, and the rest
more_lines : (w : FullWorld) (draws : Bool) (a b : Spot) (rest : List Spot)
    → drawn_in_type w (lines_along w.core.state draws (a ∷ (b ∷ rest)))
    ≡ drawn_in_type (drawn_in_type w (lines_along w.core.state draws (a ∷ (b ∷ [])))) (lines_along w.core.state draws (b ∷ rest))
more_lines w true a b rest =
    let s = by_a_pen w.core.state in
    rw (append-nil (strokes.drawn s a b)) (drawn_in_type-append w (strokes.drawn s a b) (joined s (b ∷ rest)))
more_lines w false a b rest = sym (none_drawn (drawn_in_type w []))

pub along_more : (w v : FullWorld) (draws : Bool) (a b : Spot) (rest : List Spot) → drawn_along w draws (a ∷ (b ∷ [])) ≡ Some v
    → drawn_along w draws (a ∷ (b ∷ rest)) ≡ drawn_along v draws (b ∷ rest)
along_more w v draws a b rest h = elim (cases_Bool (is_in_range w.core.range a)) [
  | inr s ↦ absurd (none-some v (rw s at h))
  | inl s ↦ elim (cases_Bool (is_in_range w.core.range b)) [
    | inr t ↦ absurd (none-some v (rw (s, t) at h))
    | inl t ↦ (let e = same_Some _ _ (rw (s, t) at h) in
        subst (λ (u : FullWorld). drawn_along w draws (a ∷ (b ∷ rest)) ≡ drawn_along u draws (b ∷ rest)) e
        (rw (s, t) (ap (λ (u : FullWorld). if are_in_range w.core.range rest then Some u else None) (more_lines w draws a b rest))))
  ]
]

-- lines of which the first leaves the range
pub along_none : (w : FullWorld) (draws : Bool) (a b : Spot) (rest : List Spot) → drawn_along w draws (a ∷ (b ∷ [])) ≡ None
    → drawn_along w draws (a ∷ (b ∷ rest)) ≡ None
along_none w draws a b rest h = elim (cases_Bool (is_in_range w.core.range a)) [
  | inr s ↦ rw s refl
  | inl s ↦ elim (cases_Bool (is_in_range w.core.range b)) [
    | inr t ↦ rw (s, t) refl
    | inl t ↦ absurd (none-some _ (sym (rw (s, t) at h)))
  ]
]

-- and no more lines
no_lines : (w : FullWorld) (draws : Bool) (a : Spot) → drawn_in_type w (lines_along w.core.state draws (a ∷ [])) ≡ w
no_lines w true a = none_drawn w
no_lines w false a = none_drawn w

pub along_end : (w : FullWorld) (draws : Bool) (a : Spot) → IsInRange w.core.range a → drawn_along w draws (a ∷ []) ≡ Some w
along_end w draws a h = rw (within w.core.range a h) (ap (λ (u : FullWorld). Some u) (no_lines w draws a))

-- lines leave the page and the state as they are
pub record Keeps (w v : FullWorld) : Type 0 where
  pub page_is : v.core.page ≡ w.core.page
  pub range_is : v.core.range ≡ w.core.range
  pub state_is : v.core.state ≡ w.core.state

pub along_keeps : (w v : FullWorld) (draws : Bool) (places : List Spot) → drawn_along w draws places ≡ Some v → Keeps w v
along_keeps w v draws places k = subst (In (Keeps w)) k (in_if (Keeps w) (are_in_range w.core.range places) _ (record { page_is = refl; range_is = refl; state_is = refl }))

-- and the range of places
pub kept_range : (w v : FullWorld) (q : Spot) → Keeps w v → IsInRange w.core.range q → IsInRange v.core.range q
kept_range w v q k h = subst (λ (n : ℕ). IsInRange n q) (sym k.range_is) h

pub along_shape : (w v : FullWorld) (draws : Bool) (places : List Spot) → drawn_along w draws places ≡ Some v → shape_in v ≡ shape_in w
along_shape w v draws places k =
    let P : FullWorld → Type 0 = λ x. shape_in x ≡ shape_in w in subst (In P) k (in_if P (are_in_range w.core.range places) _ refl)

-- where the pen comes to
in_range_of : (range : ℕ) (q : Spot) → is_in_range range q ≡ true → IsInRange range q
in_range_of range q h = record { x_in = grind (arith, nat_tests); y_in = grind (arith, nat_tests) }

pub places_in_range : (range : ℕ) (ps : List Spot) → are_in_range range ps ≡ true → (k : ℕ) (d : Spot) → k < length ps → IsInRange range (slice_index_or ps k d)
places_in_range range [] h k d l = absurd (omega arith)
places_in_range range (q ∷ qs) h zero d l = in_range_of range q (and_parts (is_in_range range q) (are_in_range range qs) h).0
places_in_range range (q ∷ qs) h (suc k) d l = places_in_range range qs (and_parts (is_in_range range q) (are_in_range range qs) h).1 k d (omega arith)

pub first_in_range : (range : ℕ) (q : Spot) (qs : List Spot) → are_in_range range (q ∷ qs) ≡ true → IsInRange range q
first_in_range range q qs h = in_range_of range q (and_parts (is_in_range range q) (are_in_range range qs) h).0

pub second_in_range : (range : ℕ) (a q : Spot) (qs : List Spot) → are_in_range range (a ∷ (q ∷ qs)) ≡ true → IsInRange range q
second_in_range range a q qs h = first_in_range range q qs (and_parts (is_in_range range a) (are_in_range range (q ∷ qs)) h).1

pub rest_in_range : (range : ℕ) (q : Spot) (qs : List Spot) → are_in_range range (q ∷ qs) ≡ true → (k : ℕ) (d : Spot) → k < length qs → IsInRange range (slice_index_or qs k d)
rest_in_range range q qs h = places_in_range range qs (and_parts (is_in_range range q) (are_in_range range qs) h).1

-- in the range of any stroke
pub rest_far : (range : ℕ) (q : Spot) (qs : List Spot) → IsRangeOfPlaces range → are_in_range range (q ∷ qs) ≡ true → (k : ℕ) (d : Spot) → k < length qs
    → IsInRange FARTHEST_END (slice_index_or qs k d)
rest_far range q qs r h k d l = as_far range (slice_index_or qs k d) r (rest_in_range range q qs h k d l)

pub travelled_in : (c d : core.World) (draws : Bool) (places : List Spot) → core.travelled c draws places ≡ Some d → are_in_range c.range places ≡ true
travelled_in c d draws places k = made_if (are_in_range c.range places) _ d k

pub along_in : (w v : FullWorld) (draws : Bool) (places : List Spot) → drawn_along w draws places ≡ Some v → are_in_range w.core.range places ≡ true
along_in w v draws places k = made_if (are_in_range w.core.range places) _ v k

-- core passes places without lines: nothing is drawn
pub not_drawn : (c d : core.World) (places : List Spot) → core.travelled c false places ≡ Some d → d ≡ c
not_drawn c d places k = sym (same_Some c d (rw (travelled_in c d false places k) at k))

pub not_passed : (c : core.World) (draws : Bool) (places : List Spot) → core.travelled c draws places ≡ None → are_in_range c.range places ≡ false
not_passed c draws places k = elim (cases_Bool (are_in_range c.range places)) [
  | inl i ↦ absurd (none-some _ (sym (rw i at k)))
  | inr i ↦ i
]

-- one line more of those along a list of places
pub one_along : (w v : FullWorld) (draws : Bool) (a d : Spot) (places : List Spot) (i : ℕ) → i < length places
    → drawn_along w draws (a ∷ (slice_index_or places i d ∷ [])) ≡ Some v
    → drawn_along v draws (slice_index_or places i d ∷ drop (i + 1) places) ≡ drawn_along w draws (a ∷ drop i places)
one_along w v draws a d places i h k =
    let q = slice_index_or places i d in
    let next : suc i ≡ i + 1 = omega arith in
    let cons : drop i places ≡ q ∷ drop (i + 1) places = rw next at (drop-cons places i d h) in
    sym (along_more w v draws a q (drop (i + 1) places) k) ∙ ap (λ (qs : List Spot). drawn_along w draws (a ∷ qs)) (sym cons)
