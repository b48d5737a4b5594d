-- Rows of bits, joined, are the rows of a PBM.
use Rattle.std.proofs.Common.{◌≡◌, ℕ, ◌+◌, ◌*◌, ◌≤◌, List, [], ◌∷◌, ◌++◌, All, length, take, drop, map, get_or}
use Rattle.std.proofs.Common.{refl, sym, ap, ap₂, subst, ◌∙◌, arith, Result, Ok, Err, IfOk}
use Rattle.std.proofs.lemmas.Nat.{mul-le}
use Rattle.std.proofs.lemmas.List.{take-append-drop, length-drop, length-map}
use Rattle.stroke_raster.specs.Painting.{Painting, Moves, painted_rows, rows_next}
use Rattle.stroke_raster.specs.Rows.{split_rows}
use Rattle.stroke_raster.specs.ShownShapes.{shows_at}
use Rattle.stroke_raster.proofs.Rows.{rows_height, rows_width}
use Rattle.plot_page.specs.declared.page.Page.{Page}
use Rattle.plot_page.specs.declared.dots.Dots.{Dots}
use Rattle.plot_page.specs.declared.dots.TheConstants.{MOST_PIXELS_A_SIDE}
use Rattle.plot_page.specs.Resolutions.{cell_count, columns_of, rows_of}
use Rattle.picture_out.specs.declared.form.Form.TheVariants.{Pbm}
use Rattle.picture_out.specs.declared.inks.Ink.{Ink}
use Rattle.bit_rows.specs.Bits.{bytes_for, packed}
use Rattle.picture_out.proofs.Sizes.{packed_size}
use Rattle.rows.specs.Pictures.{Reach}
use Rattle.rows.specs.Progress.{AreEven, rows_text}

-- rows of as many cells have as many bytes
pub packed_width : (columns : ℕ) (rows : List (List ℕ)) → All (λ (row : List ℕ). length row ≡ columns) rows → All (λ (row : List ℕ). length (packed row) ≡ bytes_for columns) rows
packed_width columns rows wide = λ k d h. packed_size (get_or rows k d) ∙ ap bytes_for (wide k d h)

-- so the rows of a PBM are of as many bytes
pub pbm_even : (inks : List Ink) (at s : ℕ) (rows : List (List ℕ)) → All (λ (row : List ℕ). length (packed row) ≡ s) rows → AreEven Pbm inks at rows s
pbm_even inks at s rows wide = λ k h. wide k [] h

nothing : (xs : List ℕ) → length xs ≡ 0 → xs ≡ []
nothing [] h = refl
nothing (x ∷ xs) h = absurd (omega (arith, h))

-- bytes whose rows are the packed rows
pub text_of_bits : (inks : List Ink) (at s : ℕ) (rows : List (List ℕ)) (bytes : List ℕ) → split_rows s (length rows) bytes ≡ map packed rows → length bytes ≡ length rows * s → bytes ≡ rows_text Pbm inks at rows
text_of_bits inks at s [] bytes same size = nothing bytes (omega (arith, size))
text_of_bits inks at s (x ∷ xs) bytes same size =
    let first : take s bytes ≡ packed x = ap (λ (z : List (List ℕ)). get_or z 0 []) same in
    let others : split_rows s (length xs) (drop s bytes) ≡ map packed xs = ap (λ (z : List (List ℕ)). drop 1 z) same in
    let left : length (drop s bytes) ≡ length xs * s = omega (arith, length-drop s bytes, size) in
    sym (take-append-drop s bytes) ∙ ap₂ (λ (y z : List ℕ). y ++ z) first (text_of_bits inks (at + 1) s xs (drop s bytes) others left)

pub if_ok : {T E : Type 0} (r : Result T E) (P Q : T → Type 0) → IfOk r P → ((x : T) → P x → Q x) → IfOk r Q
if_ok (Ok x) P Q h f = f x h
if_ok (Err e) P Q h f = tt

-- a page has few rows
pub few_rows : (height resolution : ℕ) → height ≤ 524288 → resolution ≤ 1200 → cell_count height resolution ≤ MOST_PIXELS_A_SIDE
few_rows height resolution h r = let m = mul-le height resolution 524288 1200 h r in omega (arith, m)

-- the n rows of s bytes each that an inker has in a band of these bits, by its painting p before it
pub record IsNextBand (p : Painting) (rows : List (List ℕ)) (n s : ℕ) (bits : List ℕ) : Type 0 where
  pub tall : length rows ≡ n
  pub many : n ≡ rows_next p
  pub some : 1 ≤ n
  pub low : n ≤ MOST_PIXELS_A_SIDE
  pub narrow : s ≤ bytes_for MOST_PIXELS_A_SIDE
  pub size : length bits ≡ n * s
  pub wide : All (λ row. length (packed row) ≡ s) rows
  pub split : split_rows s n bits ≡ map packed rows

-- the painting is q after it
pub next_band : (p q : Painting) (reaches : Reach) (n columns s : ℕ) (bits : List ℕ) → p.end ≤ rows_of p.page p.dots → Moves p q → n ≡ rows_next p → 1 ≤ rows_next p
    → q.last.rows ≡ map packed (painted_rows reaches p p.next (rows_next p))
    → split_rows (bytes_for (columns_of q.page q.dots)) (length q.last.rows) bits ≡ q.last.rows
    → length bits ≡ length q.last.rows * bytes_for (columns_of q.page q.dots)
    → columns ≡ columns_of p.page p.dots → columns ≤ MOST_PIXELS_A_SIDE → s ≡ bytes_for columns
    → IsNextBand p (painted_rows reaches p p.next (rows_next p)) n s bits
next_band p q reaches n columns s bits within moved n_is some shown split sized columns_is few s_is =
    let page_columns = columns_of p.page p.dots in
    let rows : List (List ℕ) = painted_rows reaches p p.next (rows_next p) in
    let tall : length rows ≡ n = rows_height (shows_at reaches p.pens p.strokes p.areas p.page p.dots) (length p.strokes) page_columns p.next (rows_next p) ∙ sym n_is in
    let many : length q.last.rows ≡ n = ap length shown ∙ length-map rows packed ∙ tall in
    let stride : s ≡ bytes_for page_columns = s_is ∙ ap bytes_for columns_is in
    let same : bytes_for (columns_of q.page q.dots) ≡ s = ap₂ (λ (z : Page) (d : Dots). bytes_for (columns_of z d)) moved.page moved.dots ∙ sym stride in
    let wide = packed_width page_columns rows (rows_width (shows_at reaches p.pens p.strokes p.areas p.page p.dots) (length p.strokes) page_columns p.next (rows_next p)) in
    let rows_in = few_rows p.page.height p.dots.resolution (omega (arith, p.page.height_in)) (omega (arith, p.dots.at_most)) in
    record {
      tall = tall;
      many = n_is;
      some = omega (arith, n_is, some);
      low = omega (arith, n_is, rows_in, within);
      narrow = omega (arith, s_is, few);
      size = sized ∙ ap₂ (λ (a b : ℕ). a * b) many same;
      wide = subst (λ (k : ℕ). All (λ (row : List ℕ). length (packed row) ≡ k) rows) (sym stride) wide;
      split = sym (ap₂ (λ (a b : ℕ). split_rows a b bits) same many) ∙ split ∙ shown;
    }
