-- The runs of strokes are all of them, each drawn in one way, and as long as they can be.
use Rattle.std.proofs.Common.{◌≡◌, ◌≤◌, ◌⊎◌, ◌&&◌, inl, inr, ℕ, ◌-◌, List, [], ◌∷◌, ◌++◌, length, Bool, true, false, cond, nat_le, refl, ap, arith}
use Rattle.std.proofs.lemmas.Bool.{and_parts}
use Rattle.std.proofs.lemmas.Bool.Decides.{nat_tests}
use Rattle.plot_page.specs.Segments.{Segment}
use Rattle.stroke_runs.specs.Drawn.{is_alike}
use Rattle.stroke_runs.specs.Runs.{Following, going_on, beginning, goes_on, following, runs_of, runs}
use Rattle.stroke_runs.specs.Laws.{joined, AreAlike, AreRuns, last_of, AreGreatest}

all_step : (b : Bool) (s : Segment) (ss : List Segment) (f g : Following) → f.rest ++ joined f.runs ≡ ss → g.rest ++ joined g.runs ≡ ss → (cond b (going_on s f) (beginning s g)).rest ++ joined (cond b (going_on s f) (beginning s g)).runs ≡ s ∷ ss
all_step true s ss f g p q = ap (λ (zs : List Segment). s ∷ zs) p
all_step false s ss f g p q = ap (λ (zs : List Segment). s ∷ zs) q

all_following : (last : Segment) (room : ℕ) (ss : List Segment) → (following last room ss).rest ++ joined (following last room ss).runs ≡ ss
all_following last room [] = refl
all_following last room (s ∷ ss) = all_step (goes_on last room s) s ss (following s (room - 1) ss) (following s 999 ss) (all_following s (room - 1) ss) (all_following s 999 ss)

pub all_of : (ss : List Segment) → joined (runs_of ss) ≡ ss
all_of [] = refl
all_of (s ∷ ss) = ap (λ (zs : List Segment). s ∷ zs) (all_following s 999 ss)

-- the rest of the run is drawn as the last stroke and fits, and the others are runs
abbrev AllAlike : Segment → ℕ → Following → Type 0
AllAlike last room f = AreAlike last f.rest × (length f.rest ≤ room) × AreRuns f.runs

alike_step : (b : Bool) (last : Segment) (room : ℕ) (s : Segment) (f g : Following) → goes_on last room s ≡ b → room ≤ 999 → AllAlike s (room - 1) f → AllAlike s 999 g → AllAlike last room (cond b (going_on s f) (beginning s g))
alike_step true last room s f g test small p q =
    let both = and_parts (nat_le 1 room) (is_alike last s) test in
    let some : 1 ≤ room = grind (arith, nat_tests, both.0) in
    ((both.1, p.0), omega (arith, some, p.1), p.2)
alike_step false last room s f g test small p q = (tt, omega arith, ((omega (arith, q.1), q.0), q.2))

alike_following : (last : Segment) (room : ℕ) (ss : List Segment) → room ≤ 999 → AllAlike last room (following last room ss)
alike_following last room [] small = (tt, omega arith, tt)
alike_following last room (s ∷ ss) small =
    alike_step (goes_on last room s) last room s (following s (room - 1) ss) (following s 999 ss) refl small (alike_following s (room - 1) ss (omega (arith, small))) (alike_following s 999 ss (omega arith))

pub alike_of : (ss : List Segment) → AreRuns (runs_of ss)
alike_of [] = tt
alike_of (s ∷ ss) =
    let f = alike_following s 999 ss (omega arith) in
    ((omega (arith, f.1), f.0), f.2)

-- the run ends because it is full, or because the next stroke is drawn in another way
abbrev EndsRight : Segment → ℕ → List Segment → List (List Segment) → Type 0
EndsRight last room rest [] = Unit {0}
EndsRight last room rest ([] ∷ runs) = ⊥
EndsRight last room rest ((t ∷ ts) ∷ runs) = (length rest ≡ room) ⊎ (is_alike (last_of last rest) t ≡ false)

longer : (last : Segment) (room : ℕ) (s : Segment) (rest : List Segment) (runs : List (List Segment)) → 1 ≤ room → EndsRight s (room - 1) rest runs → EndsRight last room (s ∷ rest) runs
longer last room s rest [] some h = tt
longer last room s rest ([] ∷ runs) some h = h
longer last room s rest ((t ∷ ts) ∷ runs) some (inl full) = inl (omega (arith, full, some))
longer last room s rest ((t ∷ ts) ∷ runs) some (inr other) = inr other

cut_off : (a b : Bool) (room : ℕ) → nat_le 1 room ≡ a → (a && b) ≡ false → (0 ≡ room) ⊎ (b ≡ false)
cut_off true b room test h = inr h
cut_off false b room test h = inl (grind (arith, nat_tests, test))

run_before : (s : Segment) (rest : List Segment) (runs : List (List Segment)) → EndsRight s 999 rest runs → AreGreatest runs → AreGreatest ((s ∷ rest) ∷ runs)
run_before s rest [] h g = tt
run_before s rest ([] ∷ runs) h g = absurd h
run_before s rest ((t ∷ ts) ∷ runs) (inl full) g = (inl (omega (arith, full)), g)
run_before s rest ((t ∷ ts) ∷ runs) (inr other) g = (inr other, g)

abbrev AllGreatest : Segment → ℕ → Following → Type 0
AllGreatest last room f = EndsRight last room f.rest f.runs × AreGreatest f.runs

greatest_step : (b : Bool) (last : Segment) (room : ℕ) (s : Segment) (f g : Following) → goes_on last room s ≡ b → AllGreatest s (room - 1) f → AllGreatest s 999 g → AllGreatest last room (cond b (going_on s f) (beginning s g))
greatest_step true last room s f g test p q =
    let both = and_parts (nat_le 1 room) (is_alike last s) test in
    let some : 1 ≤ room = grind (arith, nat_tests, both.0) in
    (longer last room s f.rest f.runs some p.0, p.1)
greatest_step false last room s f g test p q = (cut_off (nat_le 1 room) (is_alike last s) room refl test, run_before s g.rest g.runs q.0 q.1)

greatest_following : (last : Segment) (room : ℕ) (ss : List Segment) → AllGreatest last room (following last room ss)
greatest_following last room [] = (tt, tt)
greatest_following last room (s ∷ ss) =
    greatest_step (goes_on last room s) last room s (following s (room - 1) ss) (following s 999 ss) refl (greatest_following s (room - 1) ss) (greatest_following s 999 ss)

pub greatest_of : (ss : List Segment) → AreGreatest (runs_of ss)
greatest_of [] = tt
greatest_of (s ∷ ss) =
    let f = greatest_following s 999 ss in
    run_before s (following s 999 ss).rest (following s 999 ss).runs f.0 f.1
