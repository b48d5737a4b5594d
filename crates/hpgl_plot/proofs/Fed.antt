-- A path that is fed to the plotter one place after another.
use Rattle.std.proofs.Common.{◌≡◌, ap, ap₂, sym, subst, refl, inl, inr, ℕ, Bool, true, false, List, [], ◌∷◌, ◌++◌, append-nil, Some, None, arith}
use Rattle.std.specs.Prelude.{if◌then◌else◌}
use Rattle.std.proofs.lemmas.Bool.{cases_Bool}
use Rattle.std.proofs.lemmas.Option.{none-some, same_Some}
use Rattle.plot_page.specs.Segments.{Segment}
use Rattle.std.proofs.lemmas.Bool.Decides.{nat_tests}
use Rattle.exact.specs.declared.spot.Spot.{Spot}
use Rattle.hpgl_plot.specs.Bounds.{IsInRange}
use Rattle.hpgl_plot.specs.Strokes.{is_in_range, are_in_range, drawn, joined}
use Rattle.hpgl_plot.specs.Machine.{World, with_strokes, travelled}
use Rattle.hpgl_plot.proofs.Bridge.{kept_with-append, full_with-append}

pub within : (range : ℕ) (q : Spot) → IsInRange range q → is_in_range range q ≡ true
within range q h =
    let x = h.x_in in
    let y = h.y_in in
    grind (arith, nat_tests)

-- strokes, and then others
pub with_more : (w : World) (a b : List Segment) → with_strokes w w.state (a ++ b) ≡ with_strokes (with_strokes w w.state a) w.state b
with_more w a b =
    ap₂ (λ (k : List Segment) (f : Bool). record { page = w.page; range = w.range; state = w.state; kept = k; full = f })
    (sym (kept_with-append w.kept w.full a b)) (sym (full_with-append w.kept w.full a b))

-- the strokes of the first line of a path, and of the rest
more_strokes : (w : World) (draws : Bool) (a b : Spot) (rest : List Spot)
    → with_strokes w w.state (if draws then joined w.state (a ∷ (b ∷ rest)) else [])
    ≡ with_strokes (with_strokes w w.state (if draws then joined w.state (a ∷ (b ∷ [])) else [])) w.state
    (if draws then joined w.state (b ∷ rest) else [])
more_strokes w true a b rest = rw (append-nil (drawn w.state a b)) (with_more w (drawn w.state a b) (joined w.state (b ∷ rest)))
more_strokes w false a b rest = refl

-- the first line of a path, and then the rest of it
pub travelled_more : (w v : World) (draws : Bool) (a b : Spot) (rest : List Spot) → travelled w draws (a ∷ (b ∷ [])) ≡ Some v
    → travelled w draws (a ∷ (b ∷ rest)) ≡ travelled v draws (b ∷ rest)
travelled_more w v draws a b rest h = elim (cases_Bool (is_in_range w.range a)) [
  | inr s ↦ absurd (none-some v (rw s at h))
  | inl s ↦ elim (cases_Bool (is_in_range w.range b)) [
    | inr t ↦ absurd (none-some v (rw (s, t) at h))
    | inl t ↦ (let e = same_Some _ _ (rw (s, t) at h) in
        subst (λ (u : World). travelled w draws (a ∷ (b ∷ rest)) ≡ travelled u draws (b ∷ rest)) e
        (rw (s, t) (ap (λ (u : World). if are_in_range w.range rest then Some u else None) (more_strokes w draws a b rest))))
  ]
]

-- the first line of a path that leaves the range, and the whole path
pub travelled_never : (w : World) (draws : Bool) (a b : Spot) (rest : List Spot) → travelled w draws (a ∷ (b ∷ [])) ≡ None
    → travelled w draws (a ∷ (b ∷ rest)) ≡ None
travelled_never w draws a b rest h = elim (cases_Bool (is_in_range w.range a)) [
  | inr s ↦ rw s refl
  | inl s ↦ elim (cases_Bool (is_in_range w.range b)) [
    | inr t ↦ rw (s, t) refl
    | inl t ↦ absurd (none-some _ (sym (rw (s, t) at h)))
  ]
]

-- a path of one place
pub travelled_one : (w : World) (draws : Bool) (a : Spot) → IsInRange w.range a → travelled w draws (a ∷ []) ≡ Some w
travelled_one w true a h = rw (within w.range a h) refl
travelled_one w false a h = rw (within w.range a h) refl

-- a path that does not begin, and the whole path
pub travelled_out : (w : World) (draws : Bool) (a : Spot) (rest : List Spot) → travelled w draws (a ∷ []) ≡ None
    → travelled w draws (a ∷ rest) ≡ None
travelled_out w draws a rest h = elim (cases_Bool (is_in_range w.range a)) [
  | inl t ↦ absurd (none-some _ (sym (rw t at h)))
  | inr t ↦ rw t refl
]
