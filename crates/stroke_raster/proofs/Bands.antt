-- The rows of a painter's bands, joined.
use Rattle.std.proofs.Common.{◌≡◌, ℕ, ◌+◌, ◌-◌, ◌*◌, ◌/◌, ◌<◌, ◌≤◌, List, [], ◌∷◌, ◌++◌, flat_map, map, ap, ◌∙◌, arith, refl, zero, suc}
use Rattle.std.specs.List.{range_with_len}
use Rattle.std.proofs.Math.Nat.{div-lt_iff_lt-mul}
use Rattle.plot_page.specs.Resolutions.{rows_of}
use Rattle.stroke_raster.specs.Painting.{Painting, Reaches, painted_rows, Moves, rows_next}
use Rattle.stroke_raster.specs.Laws.{LendsAll}

-- n rows from one on, and then the rows after them
tables_joined : {X : Type 0} (f : ℕ → X) (a n k : ℕ) → map f (range_with_len a n) ++ map f (range_with_len (a + n) k) ≡ map f (range_with_len a (n + k))
tables_joined f a zero k = ap (λ (z : ℕ). map f (range_with_len z k)) (omega arith) ∙ ap (λ (z : ℕ). map f (range_with_len a z)) (omega arith)
tables_joined f a (suc n) k =
    let next : a + suc n ≡ a + 1 + n = omega arith in
    let more : suc (n + k) ≡ suc n + k = omega arith in
    ap (λ (z : ℕ). f a ∷ (map f (range_with_len (a + 1) n) ++ map f (range_with_len z k))) next
    ∙ ap (λ (z : List _). f a ∷ z) (tables_joined f (a + 1) n k)
    ∙ ap (λ (z : ℕ). map f (range_with_len a z)) more

rows_joined : (reaches : Reaches) (p : Painting) (first n k all : ℕ) → n + k ≡ all → painted_rows reaches p first n ++ painted_rows reaches p (first + n) k ≡ painted_rows reaches p first all
rows_joined reaches p first n k all e = tables_joined _ first n k ∙ ap (painted_rows reaches p first) e

-- the rows that are left to the painter after a band
rows_left : (reaches : Reaches) (old new : Painting) → Moves old new → painted_rows reaches new new.next (new.end - new.next) ≡ painted_rows reaches old (old.next + rows_next old) (old.end - (old.next + rows_next old))
rows_left reaches old new m = rw (m.strokes, m.areas, m.page, m.dots, m.pens, m.end, m.next) refl

pub bands_join : (reaches : Reaches) (p : Painting) (bands : List (List (List ℕ))) → LendsAll reaches p bands → flat_map (λ rows. rows) bands ≡ painted_rows reaches p p.next (p.end - p.next)
bands_join reaches p [] past =
    let none : 0 ≡ p.end - p.next = omega (arith, past) in
    ap (painted_rows reaches p p.next) none
bands_join reaches p (rows ∷ bands) h =
    let new = h.0 in
    let band = h.1 in
    let whole : rows_next p + (p.end - (p.next + rows_next p)) ≡ p.end - p.next = omega arith in
    ap (λ (z : List (List ℕ)). z ++ flat_map (λ more. more) bands) band.rows_are
    ∙ ap (λ (z : List (List ℕ)). painted_rows reaches p p.next (rows_next p) ++ z) (bands_join reaches new bands h.2 ∙ rows_left reaches p new band.moves)
    ∙ rows_joined reaches p p.next (rows_next p) _ _ whole

-- the bands reach the last row
pub enough_bands : (rows first h n : ℕ) → 0 < h → first ≤ rows → n ≡ (rows - first + (h - 1)) / h → rows ≤ first + n * h
enough_bands rows first h n pos within e =
    let d : (rows - first + (h - 1)) / h < n + 1 = omega (arith, e) in
    let m : rows - first + (h - 1) < (n + 1) * h = (div-lt_iff_lt-mul pos).0 d in
    omega (arith, m, within, pos)
