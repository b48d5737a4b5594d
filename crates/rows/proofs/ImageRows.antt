-- Rows of cells with images, in bands.
use Rattle.std.proofs.Common.{◌≡◌, ◌≢◌, ℕ, ◌+◌, ◌-◌, ◌*◌, ◌^◌, ◌<◌, ◌≤◌, List, [], All, length, get_or, set, map, take, min, refl, sym, ap, subst, ◌∙◌, arith, inl, inr}
use Rattle.std.specs.Global.{Vec}
use Rattle.std.specs.List.{range_with_len}
use Rattle.std.proofs.lemmas.Bool.{cases_lt}
use Rattle.std.proofs.lemmas.List.{ext_get_or, get_or-map, get_or-set_other, get_or-set_same, get_or-take, get_or_default, get_or_past, length-set, length-take}
use Rattle.std.proofs.lemmas.List.FromFn.{get_or-map-range_with_len, length-map-range_with_len}
use Rattle.plot_page.specs.Segments.{Segment}
use Rattle.plot_page.specs.declared.dots.Dots.{Dots}
use Rattle.plot_page.specs.declared.page.Page.{Page}
use Rattle.page_images.specs.PageImages.{ImageShape}
use Rattle.page_images.specs.Views.{images_in}
use Rattle.page_images.specs.declared.list.PageImages.{PageImages}
use Rattle.image_raster.specs.Cells.{AreCells}
use Rattle.picture_out.specs.declared.form.Form.{Form}
use Rattle.picture_out.specs.declared.inks.Ink.{Ink}
use Rattle.picture_out.specs.Forms.{row_bytes}
use Rattle.picture_out.specs.Inks.{cell_colour}
use Rattle.smoothing.specs.Cells.{cells_of, colours_of_cells}
use Rattle.smoothing.specs.Smoothings.{smoothed}
use Rattle.rows.specs.ImageCells.{inked, inks_up_to, with_images}
use Rattle.rows.specs.Inks.{image_inks_held}
use Rattle.rows.specs.Progress.{band_with_images}
use Rattle.rows.specs.declared.image_inks.ImageInks.{ImageInks}
use Rattle.rows.proofs.ImageCells.{cells_are_inked}
use Rattle.rows.proofs.SmoothedRows.{smoothed_same}

-- the bytes of a row, by equal parts
pub image_bytes_same : (form form' : Form) (row row' : ℕ) (inks inks' : ImageInks) (images images' : PageImages) (page page' : Page) (dots dots' : Dots) (cells cells' : List ℕ) → form ≡ form' → row ≡ row' → inks ≡ inks' → images ≡ images' → page ≡ page' → dots ≡ dots' → cells ≡ cells'
    → row_bytes form row (image_inks_held inks) (inked form (with_images (images_in images) page dots row cells))
    ≡ row_bytes form' row' (image_inks_held inks') (inked form' (with_images (images_in images') page' dots' row' cells'))
image_bytes_same form form' row row' inks inks' images images' page page' dots dots' cells cells' ef er ei em ep ed ec = rw (ef, er, ei, em, ep, ed, ec) refl

-- rows of cells, one of which is another
pub cells_set_by : (P : List ℕ → Type 0) (rows : List (Vec ℕ)) (i k : ℕ) (v : Vec ℕ) → i < length rows → k < length rows → (k ≡ i → P v.items) → (k ≢ i → P (get_or (cells_of rows) k []))
    → P (get_or (cells_of (set rows i v)) k [])
cells_set_by P rows i k v lt within same other =
    let f : Vec ℕ → List ℕ = λ v. v.items in
    let inside : k < length (set rows i v) = omega (arith, within, length-set rows i v) in
    let here : get_or (cells_of (set rows i v)) k [] ≡ (get_or (set rows i v) k v).items = get_or-map f (set rows i v) k v [] inside in
    let kept : k ≢ i → get_or (cells_of (set rows i v)) k [] ≡ get_or (cells_of rows) k [] = λ ne.
    here ∙ ap f (get_or-set_other rows i k v v ne) ∙ sym (get_or-map f rows k v [] within) in
    elim (cases_lt k i) [
      | inl before ↦ (let ne : k ≢ i = λ e. omega (arith, e, before) in subst P (sym (kept ne)) (other ne))
      | inr from ↦ elim (cases_lt i k) [
        | inl after ↦ (let ne : k ≢ i = λ e. omega (arith, e, after) in subst P (sym (kept ne)) (other ne))
        | inr most ↦ (let e : k ≡ i = omega (arith, from, most) in
            let at : (get_or (set rows i v) k v).items ≡ v.items = ap (λ (j : ℕ). (get_or (set rows i v) j v).items) e ∙ ap f (get_or-set_same rows i v v lt) in
            subst P (sym (here ∙ at)) (same e))
      ]
    ]

-- the first of some rows of cells are inked
pub first_inked : (n count : ℕ) (strokes : List Segment) (rows : List (List ℕ)) → n ≡ 2 ^ 31 + 2 ^ 24 - 1 → ((k : ℕ) → k < count → AreCells (get_or rows k []))
    → All (λ row. All (λ cell. cell ≤ length (inks_up_to n strokes)) row) (take count rows)
first_inked n count strokes rows is small k d lt =
    let few = length-take count rows in
    let inside : k < count = omega (arith, lt, few) in
    let within : k < length rows = omega (arith, lt, few) in
    let e : get_or (take count rows) k d ≡ get_or rows k [] = get_or-take count rows k d inside ∙ get_or_default rows k d [] within in
    subst (λ (row : List ℕ). All (λ cell. cell ≤ length (inks_up_to n strokes)) row) (sym e) (cells_are_inked n strokes (get_or rows k []) is (small k inside))

-- the pixels of rows that were taken of a band
pub pixels_of_band : (inks : List Ink) (n i count width first : ℕ) (images : List ImageShape) (page : Page) (dots : Dots) (cells rows : List (List ℕ)) → length cells ≡ n → count ≡ min n (length rows - n * i)
    → ((k : ℕ) → k < count → get_or cells k [] ≡ with_images images page dots (first + (n * i + k)) (get_or rows (n * i + k) []))
    → map (smoothed n (colours_of_cells inks (take count cells)) 0) (range_with_len 0 width)
    ≡ map (smoothed n (colours_of_cells inks (band_with_images images page dots first rows)) i) (range_with_len 0 width)
pixels_of_band inks n i count width first images page dots cells rows size counted painted =
    let all = band_with_images images page dots first rows in
    let sub = take count cells in
    let made : ℕ → List ℕ = λ r. with_images images page dots (first + r) (get_or rows r []) in
    let f = smoothed n (colours_of_cells inks sub) 0 in
    let g = smoothed n (colours_of_cells inks all) i in
    let none : n * 0 ≡ 0 = omega arith in
    let row_is : (j : ℕ) → j < n → get_or sub (n * 0 + j) [] ≡ get_or all (n * i + j) [] = λ j lt.
    let there : n * 0 + j ≡ j = omega (arith, none) in
    ap (λ (k : ℕ). get_or sub k []) there ∙ elim (cases_lt j count) [
      | inl before ↦ (let inside : n * i + j < length rows = omega (arith, before, counted) in
          get_or-take count cells j [] before ∙ painted j before ∙ sym (get_or-map-range_with_len made 0 (length rows) (n * i + j) (n * i + j) [] inside (omega arith)))
      | inr from ↦ (let past : length rows ≤ n * i + j = omega (arith, from, counted, lt) in
          get_or_past sub j [] (omega (arith, from, length-take count cells)) ∙ sym (get_or_past all (n * i + j) [] (omega (arith, past, length-map-range_with_len made 0 (length rows)))))
    ] in
    let same : (column : ℕ) → f column ≡ g column = λ column.
    smoothed_same n (colours_of_cells inks sub) (colours_of_cells inks all) 0 i column (λ j c lt. ap (λ (row : List ℕ). cell_colour inks (get_or row c 0)) (row_is j lt)) in
    ext_get_or [] (map f (range_with_len 0 width)) (map g (range_with_len 0 width)) (length-map-range_with_len f 0 width ∙ sym (length-map-range_with_len g 0 width))
    (λ k lt.
    let inside : k < width = omega (arith, lt, length-map-range_with_len f 0 width) in
    get_or-map-range_with_len f 0 width k k [] inside (omega arith) ∙ same k ∙ sym (get_or-map-range_with_len g 0 width k k [] inside (omega arith)))
