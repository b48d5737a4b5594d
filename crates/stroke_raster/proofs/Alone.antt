-- Strokes without areas are shown as the last of them.
use Rattle.std.proofs.Common.{◌≡◌, ℕ, zero, suc, ◌+◌, ◌-◌, ◌≤◌, Bool, true, false, ◌&&◌, ◌||◌, cond, List, [], ◌∷◌, ◌++◌, map, take, length, refl, sym, ap, ap₂, ◌∙◌, arith}
use Rattle.std.specs.List.{range_with_len}
use Rattle.std.proofs.lemmas.List.{length-take-le}
use Rattle.plot_page.specs.Pens.{has_pen}
use Rattle.plot_page.specs.Resolutions.{columns_of}
use Rattle.plot_page.specs.Segments.{Segment}
use Rattle.stroke_raster.specs.Covers.{centre, in_window}
use Rattle.stroke_raster.specs.Laws.{StrokesAlone}
use Rattle.stroke_raster.specs.Shown.{last_position, shown}
use Rattle.stroke_raster.specs.ShownShapes.{last_at, shown_at, shows_at, stroke_at}
use Rattle.stroke_raster.proofs.Slots.{last_as, take_slot, take_whole}
use Rattle.stroke_raster.proofs.Tops.{last_position-push}

-- the last of the first j strokes for which the test holds
last_slot : (test : Segment → Bool) (xs : List Segment) (j : ℕ) → suc j ≤ length xs
    → last_position test (take (suc j) xs) ≡ cond (test (stroke_at xs (suc j))) (suc j) (last_position test (take j xs))
last_slot test xs j fit =
    let n : length (take j xs) + 1 ≡ suc j = omega (arith, length-take-le j xs (omega (arith, fit))) in
    let z : suc j - 1 ≡ j = omega arith in
    let e : take (suc j) xs ≡ take (suc j - 1) xs ++ stroke_at xs (suc j) ∷ [] = take_slot xs (suc j) (omega arith) fit in
    ap (last_position test) (e ∙ ap (λ (k : ℕ). take k xs ++ stroke_at xs (suc j) ∷ []) z) ∙ last_position-push test (take j xs) (stroke_at xs (suc j))
    ∙ ap (λ (k : ℕ). cond (test (stroke_at xs (suc j))) k (last_position test (take j xs))) n

last_is : (test : Segment → Bool) (xs : List Segment) (j : ℕ) → j ≤ length xs → last_at (λ i. test (stroke_at xs i)) j ≡ last_position test (take j xs)
last_is test xs zero fit = refl
last_is test xs (suc j) fit =
    ap (λ (k : ℕ). cond (test (stroke_at xs (suc j))) (suc j) k) (last_is test xs j (omega (arith, fit))) ∙ sym (last_slot test xs j fit)

or_nothing : (a b w : Bool) → (a && (b || (w && false))) ≡ (a && b)
or_nothing true true w = refl
or_nothing true false true = refl
or_nothing true false false = refl
or_nothing false b w = refl

map_same : (f g : ℕ → ℕ) → ((k : ℕ) → f k ≡ g k) → (ks : List ℕ) → map f ks ≡ map g ks
map_same f g same [] = refl
map_same f g same (k ∷ ks) = ap₂ (λ (x : ℕ) (xs : List ℕ). x ∷ xs) (same k) (map_same f g same ks)

pub strokes_alone : StrokesAlone
strokes_alone reaches pens strokes page dots row =
    map_same (λ column. shown_at (shows_at reaches pens strokes [] page dots) (length strokes) row column)
    (λ column. shown (λ s. reaches s page dots) pens strokes row column) pixel (range_with_len 0 (columns_of page dots))
  where
    pixel : (column : ℕ) → shown_at (shows_at reaches pens strokes [] page dots) (length strokes) row column ≡ shown (λ s. reaches s page dots) pens strokes row column
    pixel column =
        last_as (λ j. shows_at reaches pens strokes [] page dots j row column) (λ j. has_pen pens (stroke_at strokes j).pen && reaches (stroke_at strokes j) page dots row column) (length strokes)
        (λ j low high. or_nothing (has_pen pens (stroke_at strokes j).pen) (reaches (stroke_at strokes j) page dots row column)
        (in_window (stroke_at strokes j).window dots.resolution (centre page.height dots.resolution row column)))
        ∙ last_is (λ s. has_pen pens s.pen && reaches s page dots row column) strokes (length strokes) (omega arith)
        ∙ ap (last_position (λ s. has_pen pens s.pen && reaches s page dots row column)) (take_whole strokes)
