-- The strokes of several polylines, by their numbers.
use Rattle.std.proofs.Common.{◌≡◌, ◌<◌, ◌≤◌, ◌-◌, ℕ, zero, suc, List, [], ◌∷◌, ◌++◌, length, map, drop, get_or, slice_get, refl, ap, sym, ◌∙◌, arith, Bor}
use Rattle.std.specs.List.{flat_map}

slice_get-append_first : {X : Type 0} (xs ys : List X) (k : ℕ) → k < length xs → slice_get (xs ++ ys) k ≡ slice_get xs k
slice_get-append_first [] ys k h = absurd (omega arith)
slice_get-append_first (x ∷ xs) ys zero h = refl
slice_get-append_first (x ∷ xs) ys (suc k) h = let within : k < length xs = omega arith in slice_get-append_first xs ys k within

slice_get-append_rest : {X : Type 0} (xs ys : List X) (k : ℕ) → length xs ≤ k → slice_get (xs ++ ys) k ≡ slice_get ys (k - length xs)
slice_get-append_rest [] ys k h = let same : k - 0 ≡ k = omega arith in ap (slice_get ys) (sym same)
slice_get-append_rest (x ∷ xs) ys zero h = absurd (omega arith)
slice_get-append_rest (x ∷ xs) ys (suc k) h =
    let beyond : length xs ≤ k = omega arith in
    let same : k - length xs ≡ suc k - suc (length xs) = omega arith in
    slice_get-append_rest xs ys k beyond ∙ ap (slice_get ys) same

abbrev pub strokes_from : {X : Type 0} → (List ℕ → List X) → List (Bor (List ℕ)) → ℕ → List X
strokes_from f lines i = flat_map f (map (λ line. line.now) (drop i lines))

strokes_from-split : {X : Type 0} (f : List ℕ → List X) (lines : List (Bor (List ℕ))) (i : ℕ) (none : Bor (List ℕ)) → i < length lines → strokes_from f lines i ≡ f (get_or lines i none).now ++ strokes_from f lines (suc i)
strokes_from-split f [] i none h = absurd (omega arith)
strokes_from-split f (x ∷ xs) zero none h = refl
strokes_from-split f (x ∷ xs) (suc i) none h = let within : i < length xs = omega arith in strokes_from-split f xs i none within

-- a stroke of the polyline number i
pub stroke_here : {X : Type 0} (f : List ℕ → List X) (lines : List (Bor (List ℕ))) (i : ℕ) (none : Bor (List ℕ)) (line : List ℕ) (k : ℕ) → line ≡ (get_or lines i none).now → i < length lines → k < length (f line) → slice_get (strokes_from f lines i) k ≡ slice_get (f line) k
stroke_here f lines i none line k e within h =
    let split = strokes_from-split f lines i none within in
    let same : f (get_or lines i none).now ++ strokes_from f lines (suc i) ≡ f line ++ strokes_from f lines (suc i) = ap (λ t. f t ++ strokes_from f lines (suc i)) (sym e) in
    ap (λ xs. slice_get xs k) (split ∙ same) ∙ slice_get-append_first (f line) (strokes_from f lines (suc i)) k h

-- a stroke of the polylines after it
pub stroke_later : {X : Type 0} (f : List ℕ → List X) (lines : List (Bor (List ℕ))) (i : ℕ) (none : Bor (List ℕ)) (line : List ℕ) (k : ℕ) → line ≡ (get_or lines i none).now → i < length lines → length (f line) ≤ k → slice_get (strokes_from f lines i) k ≡ slice_get (strokes_from f lines (suc i)) (k - length (f line))
stroke_later f lines i none line k e within h =
    let split = strokes_from-split f lines i none within in
    let same : f (get_or lines i none).now ++ strokes_from f lines (suc i) ≡ f line ++ strokes_from f lines (suc i) = ap (λ t. f t ++ strokes_from f lines (suc i)) (sym e) in
    ap (λ xs. slice_get xs k) (split ∙ same) ∙ slice_get-append_rest (f line) (strokes_from f lines (suc i)) k h
