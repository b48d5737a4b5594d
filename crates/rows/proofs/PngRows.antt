-- Rows of a PNG show the colours of the picture.
use Rattle.std.proofs.Common.{◌≡◌, ℕ, zero, suc, ◌+◌, ◌*◌, ◌<◌, ◌≤◌, true, List, ◌++◌, length, length-append, take, drop, refl, sym, ap, ◌∙◌, arith, Option, None, Some, ◌==◌}
use Rattle.std.proofs.lemmas.List.{take_at, drop_at}
use Rattle.std.proofs.lemmas.Bool.{eq-eqb}
use Rattle.std.specs.Io.KnownBytes.{Appends}
use Rattle.plot_page.specs.declared.page.Page.{Page}
use Rattle.plot_page.specs.declared.dots.Dots.{Dots}
use Rattle.plot_page.specs.Resolutions.{columns_of, rows_of}
use Rattle.png.specs.Samples.{Head, Picture, colours, picture_of, row_colours, stride}
use Rattle.rows.specs.Pictures.{rows_bytes}
use Rattle.rows.specs.Documents.{per_metre, picture_with}
use Rattle.rows.specs.Layouts.{IsRowOf}

-- what is known of bytes that were appended
pub appended : (a b : Option (List ℕ)) (x bytes : List ℕ) → Appends a b bytes → a ≡ Some x → b ≡ Some (x ++ bytes)
appended None b x bytes h is = absurd (cc)
appended (Some u) None x bytes h is = absurd h
appended (Some u) (Some v) x bytes h is = let same : u ≡ x = cc in ap Some (h ∙ ap (λ (z : List ℕ). z ++ bytes) same)

-- how many bytes rows have
pub rows_size : (h : Head) (text colour : ℕ → List ℕ) → (first n : ℕ) → ((r : ℕ) → first ≤ r → r < first + n → IsRowOf h (text r) (colour r)) → length (rows_bytes text first n) ≡ n * stride h
rows_size h text colour first zero made = omega arith
rows_size h text colour first (suc n) made =
    omega (arith, length-append (text first) (rows_bytes text (first + 1) n), (made first (omega arith) (omega arith)).size, rows_size h text colour (first + 1) n (λ r from to. made r (omega (arith, from)) (omega (arith, to))))

pub rows_shown : (h : Head) (text colour : ℕ → List ℕ) (first n : ℕ) → ((r : ℕ) → first ≤ r → r < first + n → IsRowOf h (text r) (colour r)) → colours h n (rows_bytes text first n) ≡ Some (rows_bytes colour first n)
unfolding colours
rows_shown h text colour first zero made = refl
rows_shown h text colour first (suc n) made =
    let rest = rows_bytes text (first + 1) n in
    let this = made first (omega arith) (omega arith) in
    let front : take (stride h) (text first ++ rest) ≡ text first = take_at (text first) rest (stride h) this.size in
    let back : drop (stride h) (text first ++ rest) ≡ rest = drop_at (text first) rest (stride h) this.size in
    let one : row_colours h (take (stride h) (text first ++ rest)) ≡ Some (colour first) = ap (row_colours h) front ∙ this.shows in
    let others : colours h n (drop (stride h) (text first ++ rest)) ≡ Some (rows_bytes colour (first + 1) n) =
    ap (colours h n) back ∙ rows_shown h text colour (first + 1) n (λ r from to. made r (omega (arith, from)) (omega (arith, to))) in
    rw (one, others) refl

-- the rows of a picture, one after the other, are the picture
pub pictured : (h : Head) (page : Page) (dots : Dots) (colour text : ℕ → List ℕ) → h.columns ≡ columns_of page dots → h.rows ≡ rows_of page dots
    → h.per_metre ≡ per_metre dots.resolution → ((r : ℕ) → r < rows_of page dots → IsRowOf h (text r) (colour r))
    → picture_of h (rows_bytes text 0 (rows_of page dots)) ≡ Some (picture_with page dots colour)
unfolding picture_of
pictured h page dots colour text wide tall fine made =
    let n = rows_of page dots in
    let each : (r : ℕ) → 0 ≤ r → r < 0 + n → IsRowOf h (text r) (colour r) = λ r from to. made r (omega (arith, to)) in
    let size : length (rows_bytes text 0 n) ≡ h.rows * stride h = rows_size h text colour 0 n each ∙ ap (λ (k : ℕ). k * stride h) (sym tall) in
    let whole : (length (rows_bytes text 0 n) == h.rows * stride h) ≡ true = eq-eqb _ _ size in
    let shown : colours h h.rows (rows_bytes text 0 n) ≡ Some (rows_bytes colour 0 n) = ap (λ (k : ℕ). colours h k (rows_bytes text 0 n)) tall ∙ rows_shown h text colour 0 n each in
    let made_of : (columns rows per_metre : ℕ) → columns ≡ columns_of page dots → rows ≡ n → per_metre ≡ _ →
    ◌≡◌ {A = Option Picture} (Some (record { columns = columns; rows = rows; per_metre = per_metre; pixels = rows_bytes colour 0 n })) (Some (picture_with page dots colour)) =
    λ columns rows metre ec er em. rw (ec, er, em) refl in
    rw (whole, shown) (made_of h.columns h.rows h.per_metre wide tall fine)
