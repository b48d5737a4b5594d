-- The sheets are all strokes, one after another.
use Rattle.std.proofs.Common.{◌≡◌, ℕ, ◌+◌, ◌-◌, min, ◌≤◌, List, [], ◌∷◌, ◌++◌, length, take, drop, Bool, true, false, cond, nat_eq, refl, ap, sym, ◌∙◌, arith, append-nil, length-drop}
use Rattle.std.proofs.lemmas.Bool.Decides.{nat_tests}
use Rattle.std.proofs.lemmas.List.{length-take, drop_all, take_all, drop-take, drop-drop, take-append-drop}
use Rattle.plot_page.specs.Segments.{Segment}
use Rattle.stroke_runs.specs.Laws.{joined}
use Rattle.stroke_runs.specs.Sheets.{between, sheets_after, sheets_of}

-- up to the end of the strokes
whole : (strokes : List Segment) (at : ℕ) → between strokes at (length strokes) ≡ drop at strokes
whole strokes at = ap (λ (z : List Segment). drop at z) (take_all (length strokes) strokes (omega arith))

size : (strokes : List Segment) (at end : ℕ) → length (between strokes at end) ≡ min end (length strokes) - at
size strokes at end = length-drop at (take end strokes) ∙ ap (λ (n : ℕ). n - at) (length-take end strokes)

-- what lies between two places, and what follows
cut : (strokes : List Segment) (at end : ℕ) → nat_eq (length (between strokes at end)) 0 ≡ false → between strokes at end ++ drop end strokes ≡ drop at strokes
cut strokes at end h =
    let n = length (between strokes at end) in
    let some : 1 ≤ n = grind (arith, nat_tests, h) in
    let later : at + (end - at) ≡ end = omega (arith, some, size strokes at end) in
    let part : between strokes at end ≡ take (end - at) (drop at strokes) = ap (λ (k : ℕ). drop at (take k strokes)) (sym later) ∙ drop-take at (end - at) strokes in
    let rest : drop end strokes ≡ drop (end - at) (drop at strokes) = ap (λ (k : ℕ). drop k strokes) (sym later) ∙ sym (drop-drop (end - at) at strokes) in
    ap (λ (z : List Segment). z ++ drop end strokes) part ∙ ap (λ (z : List Segment). take (end - at) (drop at strokes) ++ z) rest ∙ take-append-drop (end - at) (drop at strokes)

step : (b : Bool) (strokes : List Segment) (at end : ℕ) (ends : List ℕ) → nat_eq (length (between strokes at end)) 0 ≡ b → joined (sheets_after strokes at (ends ++ length strokes ∷ [])) ≡ drop at strokes → joined (sheets_after strokes end (ends ++ length strokes ∷ [])) ≡ drop end strokes
    → joined (cond b (sheets_after strokes at (ends ++ length strokes ∷ [])) (between strokes at end ∷ sheets_after strokes end (ends ++ length strokes ∷ []))) ≡ drop at strokes
step true strokes at end ends h p q = p
step false strokes at end ends h p q = ap (λ (z : List Segment). between strokes at end ++ z) q ∙ cut strokes at end h

last : (b : Bool) (strokes : List Segment) (at : ℕ) → nat_eq (length (between strokes at (length strokes))) 0 ≡ b → joined (cond b [] (between strokes at (length strokes) ∷ [])) ≡ drop at strokes
last true strokes at h =
    let none : length (between strokes at (length strokes)) ≡ 0 = grind (arith, nat_tests, h) in
    sym (drop_all at strokes (omega (arith, none, size strokes at (length strokes))))
last false strokes at h = append-nil (between strokes at (length strokes)) ∙ whole strokes at

all_after : (strokes : List Segment) (at : ℕ) (ends : List ℕ) → joined (sheets_after strokes at (ends ++ length strokes ∷ [])) ≡ drop at strokes
all_after strokes at [] = last (nat_eq (length (between strokes at (length strokes))) 0) strokes at refl
all_after strokes at (end ∷ ends) = step (nat_eq (length (between strokes at end)) 0) strokes at end ends refl (all_after strokes at ends) (all_after strokes end ends)

pub all_sheets : (strokes : List Segment) (ends : List ℕ) → joined (sheets_of strokes ends) ≡ strokes
all_sheets strokes ends = all_after strokes 0 ends
