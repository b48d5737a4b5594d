-- Solid lines are those of core.
use Rattle.std.proofs.Common.{◌≡◌, ◌∙◌, ◌≤◌, ℕ, max, List, [], ◌∷◌, ◌++◌, refl, ap, ap₂, sym, inl, inr, nat_eq, arith, Option, Bool, true, false, true≢false, ◌&&◌, ◌||◌}
use Rattle.std.specs.Prelude.{if◌then◌else◌}
use Rattle.std.proofs.lemmas.Bool.{cases_Bool}
use Rattle.std.proofs.lemmas.Bool.Decides.{nat_tests}
use Rattle.exact.specs.declared.spot.Spot.{Spot}
use Rattle.plot_page.specs.Segments.{Segment}
use Rattle.line_types.specs.declared.run.Run.{Run}
use Rattle.line_types.specs.LineTypes.{Solid}
use Rattle.full_settings.specs.LineStyles.{is_solid, shape_by}
use Rattle.full_settings.specs.declared.line_setting.LineKind.TheVariants as kind
use Rattle.full_settings.specs.declared.line_setting.LineKind.{LineKind}
use Rattle.hpgl_plot.specs.declared.state.State.{State}
use Rattle.plot_page.specs.Colours.{is_white}
use Rattle.hpgl_plot.specs.Inks.{draws_nothing, pen_colour}
use Rattle.hpgl_plot.specs.Strokes.{by_a_pen, drawn, joined, stroke}
use Rattle.full_plot.specs.Dashing.{dashed, run_through}
use Rattle.full_plot.specs.Lines.{inked}

pub dashed_solid : (run : Option Run) (ss : List Segment) → dashed Solid run ss ≡ ss
dashed_solid run [] = refl
dashed_solid run (s ∷ ss) = ap (λ (r : List Segment). s ∷ r) (dashed_solid run ss)

pub run_solid : (run : Option Run) (ss : List Segment) → run_through Solid run ss ≡ run
run_solid run [] = refl
run_solid run (s ∷ ss) = run_solid run ss

-- a pen that draws nothing
nothing_joined : (s : State) → draws_nothing s ≡ true → (places : List Spot) → joined s places ≡ []
nothing_joined s e [] = refl
nothing_joined s e (a ∷ []) = refl
nothing_joined s e (a ∷ (b ∷ rest)) = rw e (nothing_joined s e (b ∷ rest))

nothing_if : (s : State) → draws_nothing s ≡ true → (draws : Bool) (places : List Spot) → (if draws then joined s places else []) ≡ []
nothing_if s e true places = nothing_joined s e places
nothing_if s e false places = refl

-- a pen that draws is not pen 0
or_left : (a b : Bool) → (a || b) ≡ false → a ≡ false
or_left false b h = refl
or_left true b h = absurd (true≢false h)

pub pen_not_0 : (s : State) → draws_nothing s ≡ false → 1 ≤ s.pen
pen_not_0 s h =
    let t : nat_eq s.pen 0 ≡ false = or_left (nat_eq s.pen 0) (s.hides_white && is_white (pen_colour s)) h in grind (arith, nat_tests)

pub same_stroke : (s : State) (a b : Spot) → draws_nothing s ≡ false → stroke (by_a_pen s) a b ≡ stroke s a b
same_stroke s a b h =
    let some : 1 ≤ s.pen = pen_not_0 s h in
    let e : max 1 s.pen ≡ s.pen = omega arith in ap (λ (n : ℕ). stroke (record s { pen = n }) a b) e

by_a_pen_draws : (s : State) → draws_nothing (by_a_pen s) ≡ false
by_a_pen_draws s =
    let t : nat_eq (max 1 s.pen) 0 ≡ false = grind (arith, nat_tests) in
    ap (λ (n : Bool). n || (false && is_white (pen_colour (by_a_pen s)))) t

drawn_is : (s : State) (a b : Spot) → draws_nothing s ≡ false → drawn s a b ≡ stroke s a b ∷ []
drawn_is s a b h = ap (λ (n : Bool). if n then [] else (stroke s a b ∷ [])) h

same_drawn : (s : State) (a b : Spot) → draws_nothing s ≡ false → drawn (by_a_pen s) a b ≡ drawn s a b
same_drawn s a b h =
    drawn_is (by_a_pen s) a b (by_a_pen_draws s) ∙ ap (λ (l : Segment). l ∷ []) (same_stroke s a b h) ∙ sym (drawn_is s a b h)

same_joined : (s : State) → draws_nothing s ≡ false → (places : List Spot) → joined (by_a_pen s) places ≡ joined s places
same_joined s h [] = refl
same_joined s h (a ∷ []) = refl
same_joined s h (a ∷ (b ∷ rest)) =
    ap₂ (λ (x y : List Segment). x ++ y) (same_drawn s a b h) (same_joined s h (b ∷ rest))

same_if : (s : State) → draws_nothing s ≡ false → (draws : Bool) (places : List Spot)
    → (if draws then joined (by_a_pen s) places else []) ≡ (if draws then joined s places else [])
same_if s h true places = same_joined s h places
same_if s h false places = refl

pub solid_joined : (s : State) (run : Option Run) (draws : Bool) (places : List Spot)
    → inked s (dashed Solid run (if draws then joined (by_a_pen s) places else [])) ≡ (if draws then joined s places else [])
solid_joined s run draws places = elim (cases_Bool (draws_nothing s)) [
  | inl t ↦ rw t (sym (nothing_if s t draws places))
  | inr t ↦ rw t (dashed_solid run (if draws then joined (by_a_pen s) places else [])
      ∙ same_if s t draws places)
]

-- a solid line type
pub shape_solid : (k : LineKind) (own : List (Option (List ℕ))) (ticks : ℕ) → is_solid k ≡ true → shape_by k own ticks ≡ Solid
shape_solid kind.Solid own ticks h = refl
shape_solid (kind.Patterned n) own ticks h = absurd (true≢false (sym h))
