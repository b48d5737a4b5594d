-- The lines of bold letters, one after another.
use Rattle.std.proofs.Common.{◌≡◌, sym, ap, inl, inr, refl, true, List, [], ◌∷◌, Option, Some, None, false}
use Rattle.std.proofs.lemmas.Bool.{cases_Bool}
use Rattle.std.proofs.lemmas.Option.{none-some, same_Some}
use Rattle.exact.specs.declared.spot.Spot.{Spot}
use Rattle.hpgl_plot.specs.Inks.{draws_nothing}
use Rattle.hpgl_plot.specs.Machine.{World, followed, travelled, with_strokes}
use Rattle.hpgl_plot.specs.Strokes.{are_in_range, is_in_range, stroke}
use Rattle.hpgl_plot.proofs.Travels.{IsKept}
use Rattle.full_plot.specs.Bold.{bold_line, bold_lines, bolder}

pub bold_keeps : (w u : World) (places : List Spot) → bold_line w places ≡ Some u → IsKept w u
bold_keeps w u places h = elim (cases_Bool (are_in_range w.range places)) [
  | inl t ↦ (let e = sym (same_Some _ _ (rw t at h)) in
      record { page_is = ap (λ (v : World). v.page) e; range_is = ap (λ (v : World). v.range) e; state_is = ap (λ (v : World). v.state) e })
  | inr t ↦ absurd (none-some u (rw t at h))
]

pub bold_more : (w v : World) (l : List Spot) (ls : List (List Spot)) → bold_line w l ≡ Some v → bold_lines w (l ∷ ls) ≡ bold_lines v ls
bold_more w v l ls h = ap (λ (o : Option World). followed o (λ (u : World). bold_lines u ls)) h

pub bold_out : (w : World) (l : List Spot) (ls : List (List Spot)) → bold_line w l ≡ None → bold_lines w (l ∷ ls) ≡ None
bold_out w l ls h = ap (λ (o : Option World). followed o (λ (u : World). bold_lines u ls)) h

-- a line of two places, of which one is out of range
none_as_some : {W : Type 0} {w : W} → Some w ≡ None → ⊥
none_as_some h = none-some _ (sym h)

pub bold_out_first : (w : World) (a b : Spot) → travelled w true (a ∷ []) ≡ None → bold_line w (a ∷ (b ∷ [])) ≡ None
bold_out_first w a b h = elim (cases_Bool (is_in_range w.range a)) [
  | inl t ↦ absurd (none_as_some (rw t at h))
  | inr t ↦ rw t refl
]

pub bold_out_second : (w : World) (a b : Spot) → travelled w true (b ∷ []) ≡ None → bold_line w (a ∷ (b ∷ [])) ≡ None
bold_out_second w a b h = elim (cases_Bool (is_in_range w.range b)) [
  | inl t ↦ absurd (none_as_some (rw t at h))
  | inr t ↦ elim (cases_Bool (is_in_range w.range a)) [
    | inl u ↦ rw (u, t) refl
    | inr u ↦ rw u refl
  ]
]

-- and one of two places in range
pub bold_made : (w v u : World) (a b : Spot) → travelled w true (a ∷ []) ≡ Some v → travelled w true (b ∷ []) ≡ Some u → draws_nothing w.state ≡ false
    → bold_line w (a ∷ (b ∷ [])) ≡ Some (with_strokes w w.state (bolder (stroke w.state a b) ∷ []))
bold_made w v u a b h k pen = elim (cases_Bool (is_in_range w.range a)) [
  | inr t ↦ absurd (none-some v (rw t at h))
  | inl t ↦ elim (cases_Bool (is_in_range w.range b)) [
    | inr i ↦ absurd (none-some u (rw i at k))
    | inl i ↦ rw (t, i, pen) refl
  ]
]
