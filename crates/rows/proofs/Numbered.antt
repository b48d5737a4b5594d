-- Rows of numbers of a palette show the colours of the strokes.
use Rattle.std.proofs.Common.{◌≡◌, ℕ, zero, suc, ◌+◌, ◌-◌, ◌*◌, ◌/◌, ◌^◌, ◌<◌, ◌≤◌, Bool, true, false, cond, nat_eq, ◌&&◌, List, [], ◌∷◌, ◌++◌, length, get_or, take, drop, map, fold, refl, sym, ap, ap₂, ◌∙◌, subst, arith, Some, inl, inr}
use Rattle.std.specs.List.{flat_map, list_all, list_any}
use Rattle.std.specs.Str.{bytes_eq}
use Rattle.std.proofs.Math.ListN.{get_or-map}
use denote.Bor.{Bor}
use Rattle.std.proofs.lemmas.Bool.{cases_lt, lt-ltb}
use Rattle.std.proofs.lemmas.Bool.Decides.{nat_tests}
use Rattle.std.proofs.lemmas.Grind.{same_number_lists}
use Rattle.std.proofs.lemmas.List.{get_or_default, get_or_past, length-map}
use Rattle.std.proofs.lemmas.List.Concat.{flat_map-cons}
use Rattle.std.proofs.lemmas.List.FromFn.{get_or-map-range_with_len, length-map-range_with_len}
use Rattle.plot_page.specs.Segments.{Segment}
use Rattle.areas.specs.Shapes.{ShapeList}
use Rattle.plot_page.specs.Pens.{has_pen}
use Rattle.plot_page.specs.declared.page.Page.{Page}
use Rattle.plot_page.specs.declared.dots.Dots.{Dots}
use Rattle.plot_page.specs.declared.pens.PenSet.{PenSet}
use Rattle.plot_page.specs.Resolutions.{columns_of}
use Rattle.stroke_raster.specs.Boxes.{selected}
use Rattle.stroke_raster.specs.ShownShapes.{last_at, nobody, row_of_shapes, shown_at, shows_at, stroke_at}
use Rattle.picture_out.specs.declared.form.Form.TheVariants.{Ppm}
use Rattle.picture_out.specs.declared.inks.Ink.{Ink}
use Rattle.picture_out.specs.Inks.{cell_colour, colour_bytes, ink_at, paper}
use Rattle.png.specs.declared.header.Depth.{Depth}
use Rattle.png.specs.declared.header.Depth.TheVariants.{One, Two, Four, Eight}
use Rattle.png.specs.declared.header.Layout.{Layout}
use Rattle.png.specs.declared.header.Layout.TheVariants.{Indexed, Rgb}
use Rattle.png.specs.declared.header.Header.{Header}
use Rattle.png.specs.Headers.{bits_of_depth, colour_type, depth_of, head, palette_of, three}
use Rattle.png.specs.Packing.{packed_samples, per_byte}
use Rattle.png.specs.Samples.{entry, is_entry, sample, samples}
use Rattle.png.specs.Chunks.{given}
use Rattle.png.proofs.Packings.{sample_read}
use Rattle.rows.specs.Pictures.{Reach, ink_of, inks_of, row_of_list}
use Rattle.rows.specs.Palettes.{AreNumbers, stroke_colour, colours_used, number_of, numbers_bytes, numbers_row, with_colour}
use Rattle.rows.specs.Layouts.{IsRowOf}
use Rattle.rows.proofs.NumberRows.{depth_some, number_few, packed_length}

-- the last position for which a test holds passes the test
pub last_passes : (test : ℕ → Bool) (n k : ℕ) → last_at test n ≡ suc k → (k < n) × (test (suc k) ≡ true)
last_passes test zero k e = absurd (omega (arith, e))
last_passes test (suc n) k e =
    elim (test (suc n)) as (λ b. test (suc n) ≡ b → cond b (suc n) (last_at test n) ≡ suc k → (k < suc n) × (test (suc k) ≡ true)) [
      | true ↦ λ t e'. (let here : n ≡ k = omega (arith, e') in (omega (arith, here), subst (λ (j : ℕ). test (suc j) ≡ true) here t))
      | false ↦ λ t e'. (let h = last_passes test n k e' in (omega (arith, h.0), h.1))
    ] refl e

-- its stroke is selected
pub is_chosen : (pens : PenSet) (ss : List Segment) (test : ℕ → Bool) (k : ℕ) → ((j : ℕ) → test j ≡ true → has_pen pens (stroke_at ss j).pen ≡ true)
    → test (suc k) ≡ true → has_pen pens (get_or ss k nobody).pen ≡ true
is_chosen pens ss test k chosen h =
    let same : suc k - 1 ≡ k = omega arith in
    subst (λ (j : ℕ). has_pen pens (get_or ss j nobody).pen ≡ true) same (chosen (suc k) h)

pub both : (a b : Bool) → (a && b) ≡ true → a ≡ true
both true b h = refl
both false b h = absurd (cc)

-- the first colour of a palette is white
pub first_kept : (white : List ℕ) (rest colours : List (List ℕ)) → (get_or (fold with_colour (white ∷ rest) colours) 0 [] ≡ white) × (0 < length (fold with_colour (white ∷ rest) colours))
first_kept white rest [] = (refl, omega arith)
first_kept white rest (c ∷ colours) =
    elim (list_any (bytes_eq c) (white ∷ rest)) as (λ b. (get_or (fold with_colour (cond b (white ∷ rest) ((white ∷ rest) ++ c ∷ [])) colours) 0 [] ≡ white) × (0 < length (fold with_colour (cond b (white ∷ rest) ((white ∷ rest) ++ c ∷ [])) colours))) [
      | true ↦ first_kept white rest colours
      | false ↦ first_kept white (rest ++ c ∷ []) colours
    ]

-- an entry of a palette
pub entry_is : (colours : List (List ℕ)) (n : ℕ) → n < length colours → entry (flat_map three colours) n ≡ three (get_or colours n [])
entry_is [] n lt = absurd (omega (arith, lt))
entry_is (c ∷ colours) zero lt = ap (take 3) (flat_map-cons three c colours)
entry_is (c ∷ colours) (suc n) lt =
    let rest = flat_map three colours in
    let at : 3 * suc n ≡ suc (suc (suc (3 * n))) = omega arith in
    ap (λ (k : ℕ). take 3 (drop k (flat_map three (c ∷ colours)))) at
    ∙ ap (λ (z : List ℕ). take 3 (drop (suc (suc (suc (3 * n)))) z)) (flat_map-cons three c colours)
    ∙ entry_is colours n (omega (arith, lt))

pub palette_size : (colours : List (List ℕ)) → length (flat_map three colours) ≡ 3 * length colours
palette_size [] = omega arith
palette_size (c ∷ colours) = omega (arith, ap length (flat_map-cons three c colours), palette_size colours)

-- the colour of a cell that shows a stroke
pub colour_shown : (ss : List Segment) (k : ℕ) (d : Segment) → k < length ss → cell_colour (inks_of ss) (suc k) ≡ stroke_colour (get_or ss k d)
colour_shown ss k d lt =
    let some : nat_eq (suc k) 0 ≡ false = grind (arith, nat_tests) in
    let same : suc k - 1 ≡ k = omega arith in
    let ink : ink_at (inks_of ss) (suc k) ≡ ink_of (get_or ss k d) =
    ap (λ (j : ℕ). get_or (inks_of ss) j paper) same ∙ get_or_default (inks_of ss) k paper (ink_of d) (omega (arith, lt, length-map ss ink_of)) ∙ get_or-map ink_of ss k d in
    ap (λ (b : Bool). cond b (colour_bytes paper) (colour_bytes (ink_at (inks_of ss) (suc k)))) some ∙ ap colour_bytes ink

-- what a cell of a row shows: the number of its colour
pub record IsShown (colours : List (List ℕ)) (ss : List Segment) (numbers : List ℕ) (cell : ℕ) : Type 0 where
  pub within : number_of numbers cell < length colours
  pub named : get_or colours (number_of numbers cell) [] ≡ cell_colour (inks_of ss) cell

cell_shown : (pens : PenSet) (ss : List Segment) (colours : List (List ℕ)) (numbers : List ℕ) (test : ℕ → Bool) (cell : ℕ) → colours ≡ colours_used pens ss → AreNumbers pens ss colours numbers
    → ((j : ℕ) → test j ≡ true → has_pen pens (stroke_at ss j).pen ≡ true) → last_at test (length ss) ≡ cell → IsShown colours ss numbers cell
cell_shown pens ss colours numbers test zero used are chosen is =
    let h = first_kept (colour_bytes paper) [] (map stroke_colour (selected pens ss)) in
    record {
      within = omega (arith, h.1, ap length used);
      named = ap (λ (z : List (List ℕ)). get_or z 0 []) used ∙ h.0;
    }
cell_shown pens ss colours numbers test (suc k) used are chosen is =
    let h = last_passes test (length ss) k is in
    let some : nat_eq (suc k) 0 ≡ false = grind (arith, nat_tests) in
    let same : suc k - 1 ≡ k = omega arith in
    let mine : number_of numbers (suc k) ≡ get_or numbers k 0 = ap (λ (b : Bool). cond b 0 (get_or numbers (suc k - 1) 0)) some ∙ ap (λ (j : ℕ). get_or numbers j 0) same in
    record {
      within = rw mine (are.within k 0 (omega (arith, h.0, are.size)));
      named = ap (λ (n : ℕ). get_or colours n []) mine ∙ are.named k nobody h.0 (is_chosen pens ss test k chosen h.1) ∙ sym (colour_shown ss k nobody h.0);
    }

three_of : (inks : List Ink) (cell : ℕ) → three (cell_colour inks cell) ≡ cell_colour inks cell
three_of inks cell = elim (nat_eq cell 0) as (λ b. three (cond b (colour_bytes paper) (colour_bytes (ink_at inks cell))) ≡ cond b (colour_bytes paper) (colour_bytes (ink_at inks cell))) [ true ↦ refl | false ↦ refl ]

-- the colours of cells by their numbers
entries_are : (colours : List (List ℕ)) (ss : List Segment) (numbers cells : List ℕ) → ((k : ℕ) → k < length cells → IsShown colours ss numbers (get_or cells k 0))
    → flat_map (entry (flat_map three colours)) (map (number_of numbers) cells) ≡ flat_map (cell_colour (inks_of ss)) cells
entries_are colours ss numbers [] h = refl
entries_are colours ss numbers (cell ∷ cells) h =
    let P = flat_map three colours in
    let first = h 0 (omega arith) in
    let one : entry P (number_of numbers cell) ≡ cell_colour (inks_of ss) cell = entry_is colours (number_of numbers cell) first.within ∙ ap three first.named ∙ three_of (inks_of ss) cell in
    flat_map-cons (entry P) (number_of numbers cell) (map (number_of numbers) cells)
    ∙ ap₂ (λ (a b : List ℕ). a ++ b) one (entries_are colours ss numbers cells (λ k lt. h (suc k) (omega (arith, lt))))
    ∙ sym (flat_map-cons (cell_colour (inks_of ss)) cell cells)

pub all_entries : (P ns : List ℕ) → ((k : ℕ) → k < length ns → 3 * get_or ns k 0 < length P) → list_all (is_entry P) ns ≡ true
all_entries P [] h = refl
all_entries P (n ∷ ns) h =
    let first : is_entry P n ≡ true = lt-ltb (3 * n) (length P) (h 0 (omega arith)) in
    let others : list_all (is_entry P) ns ≡ true = all_entries P ns (λ k lt. h (suc k) (omega (arith, lt))) in
    rw (first, others) refl

-- the samples of packed numbers are the numbers
pub samples_are : (depth : Depth) (columns : ℕ) (numbers : List ℕ) → length numbers ≡ columns → ((k : ℕ) → get_or numbers k 0 < 2 ^ bits_of_depth depth)
    → samples (bits_of_depth depth) columns (packed_samples depth (numbers_bytes depth columns) numbers) ≡ numbers
samples_are depth columns numbers size small =
    let bytes = packed_samples depth (numbers_bytes depth columns) numbers in
    let f = sample (bits_of_depth depth) bytes in
    same_number_lists (samples (bits_of_depth depth) columns bytes) numbers (length-map-range_with_len f 0 columns ∙ sym size)
    (λ k lt.
    let inside : k < columns = omega (arith, lt, length-map-range_with_len f 0 columns) in
    get_or-map-range_with_len f 0 columns k k 0 inside (omega arith) ∙ sample_read depth (numbers_bytes depth columns) numbers k (place_in depth columns k inside) small)
  where
    place_in : (depth : Depth) (columns k : ℕ) → k < columns → k / per_byte depth < numbers_bytes depth columns
    place_in One columns k lt = omega arith
    place_in Two columns k lt = omega arith
    place_in Four columns k lt = omega arith
    place_in Eight columns k lt = omega arith

-- what a header with a palette says of its rows
pub stride_is : (depth : Depth) (columns : ℕ) → (columns * (1 * bits_of_depth depth) + 7) / 8 ≡ numbers_bytes depth columns
stride_is One columns = omega arith
stride_is Two columns = omega arith
stride_is Four columns = omega arith
stride_is Eight columns = omega arith

pub row_numbered : (header : Header) (depth : Depth) (palette : Bor (List (List ℕ))) (pens : PenSet) (ss : ShapeList) (page : Page) (dots : Dots) (numbers : List ℕ) (reaches : Reach) (row : ℕ) → header.layout ≡ Indexed depth palette
    → header.columns ≡ columns_of page dots → palette.now ≡ colours_used pens ss.strokes → AreNumbers pens ss.strokes palette.now numbers → length palette.now ≤ 2 ^ bits_of_depth depth
    → IsRowOf (head header) (numbers_row depth numbers pens ss page dots reaches row) (row_of_list Ppm reaches pens ss page dots row)
row_numbered header depth palette pens ss page dots numbers reaches row layout wide used are few =
    let columns = columns_of page dots in
    let bits = bits_of_depth depth in
    let colours = palette.now in
    let P = flat_map three colours in
    let cells : List ℕ = row_of_shapes reaches pens ss.strokes ss.areas page dots row in
    let ns : List ℕ = map (number_of numbers) cells in
    let bytes : List ℕ = numbers_row depth numbers pens ss page dots reaches row in
    let tall : length cells ≡ columns = length-map-range_with_len (λ (k : ℕ). shown_at (shows_at reaches pens ss.strokes ss.areas page dots) (length ss.strokes) row k) 0 columns in
    let size : length ns ≡ columns = length-map cells (number_of numbers) ∙ tall in
    let each : (k : ℕ) → k < length cells → IsShown colours ss.strokes numbers (get_or cells k 0) =
    λ k lt. cell_shown pens ss.strokes colours numbers (λ (j : ℕ). shows_at reaches pens ss.strokes ss.areas page dots j row k) (get_or cells k 0) used are (λ s t. both _ _ t)
    (sym (get_or-map-range_with_len (λ (j : ℕ). shown_at (shows_at reaches pens ss.strokes ss.areas page dots) (length ss.strokes) row j) 0 columns k k 0 (omega (arith, lt, tall)) (omega arith))) in
    let number_at : (k : ℕ) → get_or ns k 0 ≡ number_of numbers (get_or cells k 0) = λ k. get_or-map (number_of numbers) cells k 0 in
    let small : (k : ℕ) → get_or ns k 0 < 2 ^ bits = λ k. elim (cases_lt k (length cells)) as (λ _. get_or ns k 0 < 2 ^ bits) [
      | inl lt ↦ rw (number_at k) (number_few depth _ (length colours) (each k lt).within few)
      | inr le ↦ (let none : get_or ns k 0 ≡ 0 = get_or_past ns k 0 (omega (arith, le, length-map cells (number_of numbers))) in rw none (depth_some depth))
    ] in
    let read : samples bits header.columns bytes ≡ ns = ap (λ (w : ℕ). samples bits w bytes) wide ∙ samples_are depth columns ns size small in
    let inside : list_all (is_entry P) (samples bits header.columns bytes) ≡ true = ap (list_all (is_entry P)) read
    ∙ all_entries P ns (λ k lt. (let within = (each k (omega (arith, lt, size, tall))).within in omega (arith, within, number_at k, palette_size colours))) in
    let shows : flat_map (entry P) (samples bits header.columns bytes) ≡ flat_map (cell_colour (inks_of ss.strokes)) cells = ap (flat_map (entry P)) read ∙ entries_are colours ss.strokes numbers cells each in
    subst (λ (l : Layout). IsRowOf (record { columns = header.columns; rows = header.rows; depth = depth_of l; colour = colour_type l; per_metre = header.per_metre; palette = palette_of l }) bytes (row_of_list Ppm reaches pens ss page dots row)) (sym layout)
    (record {
      size = packed_length depth (numbers_bytes depth columns) ns ∙ sym (stride_is depth columns) ∙ ap (λ (w : ℕ). (w * (1 * bits) + 7) / 8) (sym wide);
      shows = ap (λ (b : Bool). given b (Some (flat_map (entry P) (samples bits header.columns bytes)))) inside ∙ ap Some shows;
    })

-- the rows of a PPM are rows of a picture without a palette
pub row_coloured : (header : Header) (bytes : List ℕ) → header.layout ≡ Rgb → length bytes ≡ 3 * header.columns → IsRowOf (head header) bytes bytes
row_coloured header bytes layout size =
    subst (λ (l : Layout). IsRowOf (record { columns = header.columns; rows = header.rows; depth = depth_of l; colour = colour_type l; per_metre = header.per_metre; palette = palette_of l }) bytes bytes) (sym layout)
    (record { size = omega (arith, size); shows = refl })
