-- Rows of pixels of any colours show their colours, in each layout; which colours palettes have, and which pixels are grey.
use Rattle.std.proofs.Common.{◌≡◌, ℕ, zero, suc, ◌+◌, ◌*◌, ◌/◌, ◌^◌, ◌<◌, Bool, true, false, cond, ◌||◌, All, List, [], ◌∷◌, ◌++◌, length, get_or, map, fold, refl, sym, ap, ap₂, ◌∙◌, subst, arith, Some, inl, inr, nat_lt}
use Rattle.std.specs.List.{flat_map, list_all, list_any, range_with_len}
use Rattle.std.specs.Str.{bytes_eq}
use denote.Bor.{Bor}
use Rattle.std.proofs.Math.Seq.{take-length}
use Rattle.std.proofs.lemmas.Bool.{cases_lt, lt-ltb}
use Rattle.std.proofs.lemmas.List.{get_or_past, length-map}
use Rattle.std.proofs.lemmas.Slice.Eq.{bytes_eq-Decides}
use Rattle.std.proofs.lemmas.List.Elements.{All-cons}
use Rattle.std.proofs.lemmas.List.Concat.{flat_map-cons}
use Rattle.png.specs.declared.header.Depth.{Depth}
use Rattle.png.specs.declared.header.Depth.TheVariants.{Eight}
use Rattle.png.specs.declared.header.Layout.{Layout}
use Rattle.png.specs.declared.header.Layout.TheVariants.{Indexed, Grey, Rgb}
use Rattle.png.specs.declared.header.Header.{Header}
use Rattle.png.specs.Chunks.{given}
use Rattle.png.specs.Headers.{HasColours, bits_of_depth, colour_type, depth_of, head, palette_of, three}
use Rattle.png.specs.Packing.{packed_samples}
use Rattle.png.specs.Samples.{Head, entry, is_entry, samples}
use Rattle.png.proofs.Packings.{packed_bytes}
use Rattle.rows.specs.Layouts.{HasPixels, IsRowOf, AreGrey}
use Rattle.rows.specs.Palettes.{numbers_bytes, with_colour}
use Rattle.rows.specs.PixelRows.{layout_bytes, number_in, place_of}
use Rattle.rows.proofs.NumberRows.{depth_some, number_few, packed_length}
use Rattle.rows.proofs.Numbered.{all_entries, entry_is, palette_size, samples_are, stride_is, both, colour_shown, is_chosen, last_passes}
use Rattle.rows.proofs.PixelRows.{channels_size, number_within}
use Rattle.std.proofs.lemmas.List.Folds.{list_any-append}
use Rattle.std.proofs.lemmas.List.FromFn.{get_or-map-range_with_len, length-map-range_with_len}
use Rattle.plot_page.specs.Segments.{Segment}
use Rattle.areas.specs.Shapes.{ShapeList}
use Rattle.plot_page.specs.Pens.{has_pen}
use Rattle.plot_page.specs.declared.page.Page.{Page}
use Rattle.plot_page.specs.declared.dots.Dots.{Dots}
use Rattle.plot_page.specs.declared.pens.PenSet.{PenSet}
use Rattle.plot_page.specs.Resolutions.{columns_of, rows_of}
use Rattle.stroke_raster.specs.ShownShapes.{last_at, nobody, row_of_shapes, shown_at, shows_at, stroke_at}
use Rattle.picture_out.specs.Inks.{cell_colour, colour_bytes, paper}
use Rattle.smoothing.specs.Smoothings.{Colours, channel, mean, smoothed, total}
use Rattle.smoothing.proofs.Totals.{total_same}
use Rattle.rows.specs.Pictures.{Reach, colours_at, finer, inks_of, smoothed_pixels}

-- samples of a byte each, packed, are themselves
bytes_kept : (values : List ℕ) → packed_samples Eight (numbers_bytes Eight (length values)) values ≡ values
bytes_kept values =
    let all : numbers_bytes Eight (length values) ≡ length values = omega arith in
    ap (λ (n : ℕ). packed_samples Eight n values) all ∙ sym (packed_bytes (length values) values (omega arith)) ∙ take-length values

-- the channels of pixels that have no others
pub threes_are : (pixels : List (List ℕ)) → ((k : ℕ) → k < length pixels → three (get_or pixels k []) ≡ get_or pixels k []) → flat_map three pixels ≡ flat_map (λ pixel. pixel) pixels
threes_are [] whole = refl
threes_are (pixel ∷ pixels) whole =
    flat_map-cons three pixel pixels
    ∙ ap₂ (λ (a b : List ℕ). a ++ b) (whole 0 (omega arith)) (threes_are pixels (λ k lt. whole (suc k) (omega (arith, lt))))
    ∙ sym (flat_map-cons (λ (p : List ℕ). p) pixel pixels)

-- the bytes of pixels in a layout without a palette are their channels
pub rgb_bytes : (pixels : List (List ℕ)) → ((k : ℕ) → k < length pixels → three (get_or pixels k []) ≡ get_or pixels k []) → layout_bytes Rgb pixels ≡ flat_map (λ pixel. pixel) pixels
rgb_bytes pixels whole = bytes_kept (flat_map three pixels) ∙ threes_are pixels whole

-- shades of grey show their pixels
shades_are : (pixels : List (List ℕ)) → HasPixels Grey pixels → ((k : ℕ) → k < length pixels → three (get_or pixels k []) ≡ get_or pixels k [])
    → flat_map (λ shade. shade ∷ shade ∷ shade ∷ []) (map (λ pixel. get_or pixel 0 0) pixels) ≡ flat_map (λ pixel. pixel) pixels
shades_are [] grey whole = refl
shades_are (pixel ∷ pixels) grey whole =
    let shade = λ (pixel : List ℕ). get_or pixel 0 0 in
    let thrice = λ (s : ℕ). s ∷ s ∷ s ∷ [] in
    let h = grey 0 [] (omega arith) in
    let one : thrice (shade pixel) ≡ pixel = ap₂ (λ (g b : ℕ). shade pixel ∷ g ∷ b ∷ []) (sym h.0) (sym h.1) ∙ whole 0 (omega arith) in
    flat_map-cons thrice (shade pixel) (map shade pixels)
    ∙ ap₂ (λ (a b : List ℕ). a ++ b) one (shades_are pixels (λ k d lt. grey (suc k) d (omega (arith, lt))) (λ k lt. whole (suc k) (omega (arith, lt))))
    ∙ sym (flat_map-cons (λ (p : List ℕ). p) pixel pixels)

-- a colour that a palette has is at its number
place_named : (palette : List (List ℕ)) (colour : List ℕ) → list_any (bytes_eq colour) palette ≡ true → (place_of palette colour < length palette) × (get_or palette (place_of palette colour) [] ≡ colour)
unfolding place_of
place_named [] colour has = absurd (cc)
place_named (c ∷ palette) colour has =
    elim (bytes_eq colour c) as (λ b. bytes_eq colour c ≡ b → (b || list_any (bytes_eq colour) palette) ≡ true
    → (cond b 0 (suc (place_of palette colour)) < suc (length palette)) × (get_or (c ∷ palette) (cond b 0 (suc (place_of palette colour))) [] ≡ colour)) [
      | true ↦ λ is _. (omega arith, sym ((bytes_eq-Decides colour c).0 is))
      | false ↦ λ is there. (let h = place_named palette colour there in (omega (arith, h.0), h.1))
    ] refl has

number_named : (palette : List (List ℕ)) (colour : List ℕ) → list_any (bytes_eq colour) palette ≡ true → get_or palette (number_in palette colour) [] ≡ colour
number_named palette colour has =
    let h = place_named palette colour has in
    ap (λ (b : Bool). get_or palette (cond b (place_of palette colour) 0) []) (lt-ltb _ _ h.0) ∙ h.1

-- the colours of pixels by their numbers in a palette
entries_named : (palette pixels : List (List ℕ)) → 0 < length palette → All (λ pixel. list_any (bytes_eq pixel) palette ≡ true) pixels → ((k : ℕ) → k < length pixels → three (get_or pixels k []) ≡ get_or pixels k [])
    → flat_map (entry (flat_map three palette)) (map (number_in palette) pixels) ≡ flat_map (λ pixel. pixel) pixels
entries_named palette [] some has whole = refl
entries_named palette (pixel ∷ pixels) some has whole =
    let P = flat_map three palette in
    let one : entry P (number_in palette pixel) ≡ pixel =
    entry_is palette (number_in palette pixel) (number_within palette pixel some) ∙ ap three (number_named palette pixel (has 0 [] (omega arith))) ∙ whole 0 (omega arith) in
    flat_map-cons (entry P) (number_in palette pixel) (map (number_in palette) pixels)
    ∙ ap₂ (λ (a b : List ℕ). a ++ b) one (entries_named palette pixels some (λ k d lt. has (suc k) d (omega (arith, lt))) (λ k lt. whole (suc k) (omega (arith, lt))))
    ∙ sym (flat_map-cons (λ (p : List ℕ). p) pixel pixels)

-- what a header says, by its layout
abbrev head_as : Header → Layout → Head
head_as header l = record { columns = header.columns; rows = header.rows; depth = depth_of l; colour = colour_type l; per_metre = header.per_metre; palette = palette_of l }

row_indexed : (header : Header) (depth : Depth) (palette : Bor (List (List ℕ))) (pixels : List (List ℕ)) → header.columns ≡ length pixels → HasColours (Indexed depth palette) → HasPixels (Indexed depth palette) pixels
    → ((k : ℕ) → k < length pixels → three (get_or pixels k []) ≡ get_or pixels k [])
    → IsRowOf (head_as header (Indexed depth palette)) (layout_bytes (Indexed depth palette) pixels) (flat_map (λ pixel. pixel) pixels)
row_indexed header depth palette pixels wide colours has whole =
    let colours_list = palette.now in
    let bits = bits_of_depth depth in
    let P = flat_map three palette.now in
    let ns : List ℕ = map (number_in palette.now) pixels in
    let size : length ns ≡ length pixels = length-map pixels (number_in palette.now) in
    let columns : header.columns ≡ length ns = wide ∙ sym size in
    let bytes : List ℕ = layout_bytes (Indexed depth palette) pixels in
    let number_at : (k : ℕ) → k < length pixels → get_or ns k 0 ≡ number_in palette.now (get_or pixels k []) = λ k lt. number_of_pixel palette.now pixels k lt in
    let small : (k : ℕ) → get_or ns k 0 < 2 ^ bits = λ k. elim (cases_lt k (length pixels)) as (λ _. get_or ns k 0 < 2 ^ bits) [
      | inl lt ↦ rw (number_at k lt) (number_few depth _ (length palette.now) (number_within palette.now (get_or pixels k []) colours.0) colours.1)
      | inr le ↦ (let none : get_or ns k 0 ≡ 0 = get_or_past ns k 0 (omega (arith, le, size)) in rw none (depth_some depth))
    ] in
    let read : samples bits header.columns bytes ≡ ns = ap (λ (w : ℕ). samples bits w bytes) columns ∙ samples_are depth (length ns) ns refl small in
    let inside : list_all (is_entry P) (samples bits header.columns bytes) ≡ true = ap (list_all (is_entry P)) read
    ∙ all_entries P ns (λ k lt. (let lt' : k < length pixels = omega (arith, lt, size) in omega (arith, number_within palette.now (get_or pixels k []) colours.0, number_at k lt', palette_size palette.now))) in
    let shows : flat_map (entry P) (samples bits header.columns bytes) ≡ flat_map (λ pixel. pixel) pixels = ap (flat_map (entry P)) read ∙ entries_named palette.now pixels colours.0 has whole in
    record {
      size = packed_length depth (numbers_bytes depth (length ns)) ns ∙ sym (stride_is depth (length ns)) ∙ ap (λ (w : ℕ). (w * (1 * bits) + 7) / 8) (sym columns);
      shows = ap (λ (b : Bool). given b (Some (flat_map (entry P) (samples bits header.columns bytes)))) inside ∙ ap Some shows;
    }
  where
    number_of_pixel : (palette pixels : List (List ℕ)) (k : ℕ) → k < length pixels → get_or (map (number_in palette) pixels) k 0 ≡ number_in palette (get_or pixels k [])
    number_of_pixel palette (pixel ∷ pixels) zero lt = refl
    number_of_pixel palette (pixel ∷ pixels) (suc k) lt = number_of_pixel palette pixels k (omega (arith, lt))
    number_of_pixel palette [] k lt = absurd (omega (arith, lt))

row_grey : (header : Header) (pixels : List (List ℕ)) → header.columns ≡ length pixels → HasPixels Grey pixels → ((k : ℕ) → k < length pixels → three (get_or pixels k []) ≡ get_or pixels k [])
    → IsRowOf (head_as header Grey) (layout_bytes Grey pixels) (flat_map (λ pixel. pixel) pixels)
row_grey header pixels wide grey whole =
    let shades : List ℕ = map (λ (pixel : List ℕ). get_or pixel 0 0) pixels in
    let kept : layout_bytes Grey pixels ≡ shades = bytes_kept shades in
    let size : length shades ≡ length pixels = length-map pixels (λ (pixel : List ℕ). get_or pixel 0 0) in
    record {
      size = omega (arith, ap length kept, size, wide);
      shows = ap Some (ap (flat_map (λ (shade : ℕ). shade ∷ shade ∷ shade ∷ [])) kept ∙ shades_are pixels grey whole);
    }

row_rgb : (header : Header) (pixels : List (List ℕ)) → header.columns ≡ length pixels → ((k : ℕ) → k < length pixels → three (get_or pixels k []) ≡ get_or pixels k [])
    → IsRowOf (head_as header Rgb) (layout_bytes Rgb pixels) (flat_map (λ pixel. pixel) pixels)
row_rgb header pixels wide whole = record {
  size = omega (arith, ap length (bytes_kept (flat_map three pixels)), channels_size pixels, wide);
  shows = ap Some (rgb_bytes pixels whole);
}

row_as : (header : Header) (layout : Layout) (pixels : List (List ℕ)) → header.columns ≡ length pixels → HasColours layout → HasPixels layout pixels
    → ((k : ℕ) → k < length pixels → three (get_or pixels k []) ≡ get_or pixels k []) → IsRowOf (head_as header layout) (layout_bytes layout pixels) (flat_map (λ pixel. pixel) pixels)
row_as header (Indexed depth palette) pixels wide colours has whole = row_indexed header depth palette pixels wide colours has whole
row_as header Grey pixels wide colours has whole = row_grey header pixels wide has whole
row_as header Rgb pixels wide colours has whole = row_rgb header pixels wide whole

-- the bytes of a row of pixels show their colours
pub pixels_laid_out : (header : Header) (layout : Layout) (pixels : List (List ℕ)) → header.layout ≡ layout → header.columns ≡ length pixels → HasColours layout → HasPixels layout pixels
    → ((k : ℕ) → k < length pixels → three (get_or pixels k []) ≡ get_or pixels k []) → IsRowOf (head header) (layout_bytes layout pixels) (flat_map (λ pixel. pixel) pixels)
pixels_laid_out header layout pixels is wide colours has whole =
    subst (λ (l : Layout). IsRowOf (head_as header l) (layout_bytes layout pixels) (flat_map (λ pixel. pixel) pixels)) (sym is) (row_as header layout pixels wide colours has whole)

-- a palette has each of its colours after one more
kept_by : (palette : List (List ℕ)) (more colour : List ℕ) (b : Bool) → list_any (bytes_eq colour) palette ≡ true → list_any (bytes_eq colour) (cond b palette (palette ++ more ∷ [])) ≡ true
kept_by palette more colour true has = has
kept_by palette more colour false has = list_any-append (bytes_eq colour) palette (more ∷ []) ∙ ap (λ (b : Bool). b || list_any (bytes_eq colour) (more ∷ [])) has

-- what was in a palette stays in it
pub palette_keeps : (palette more : List (List ℕ)) (colour : List ℕ) → list_any (bytes_eq colour) palette ≡ true → list_any (bytes_eq colour) (fold with_colour palette more) ≡ true
palette_keeps palette [] colour has = has
palette_keeps palette (c ∷ more) colour has = palette_keeps (with_colour palette c) more colour (kept_by palette c colour (list_any (bytes_eq c) palette) has)

-- it has the colour that was put into it
or_true : (a b : Bool) → b ≡ true → (a || b) ≡ true
or_true true b is = refl
or_true false b is = is

put_in : (palette : List (List ℕ)) (colour : List ℕ) → list_any (bytes_eq colour) (with_colour palette colour) ≡ true
put_in palette colour =
    elim (list_any (bytes_eq colour) palette) as (λ b. list_any (bytes_eq colour) palette ≡ b → list_any (bytes_eq colour) (cond b palette (palette ++ colour ∷ [])) ≡ true) [
      | true ↦ λ has. has
      | false ↦ λ _. (let itself : list_any (bytes_eq colour) (colour ∷ []) ≡ true = ap (λ (b : Bool). b || false) ((bytes_eq-Decides colour colour).1 refl) in
          list_any-append (bytes_eq colour) palette (colour ∷ []) ∙ or_true (list_any (bytes_eq colour) palette) _ itself)
    ] refl

-- a palette has all colours that were put into it
pub palette_has : (palette more : List (List ℕ)) → All (λ colour. list_any (bytes_eq colour) (fold with_colour palette more) ≡ true) more
palette_has palette [] = λ k d lt. absurd (omega (arith, lt))
palette_has palette (c ∷ more) =
    All-cons (λ (colour : List ℕ). list_any (bytes_eq colour) (fold with_colour palette (c ∷ more)) ≡ true) c more
    (palette_keeps (with_colour palette c) more c (put_in palette c)) (palette_has (with_colour palette c) more)

-- a colour is a shade of grey
pub record IsGrey (colour : List ℕ) : Type 0 where
  pub green : get_or colour 1 0 ≡ get_or colour 0 0
  pub blue : get_or colour 2 0 ≡ get_or colour 0 0

white_grey : IsGrey (colour_bytes paper)
white_grey = record { green = refl; blue = refl }

-- the colour of a cell that shows a selected stroke or the paper
cell_grey : (pens : PenSet) (ss : List Segment) (test : ℕ → Bool) (cell : ℕ) → AreGrey pens ss → ((j : ℕ) → test j ≡ true → has_pen pens (stroke_at ss j).pen ≡ true) → last_at test (length ss) ≡ cell → IsGrey (cell_colour (inks_of ss) cell)
cell_grey pens ss test zero grey chosen is = white_grey
cell_grey pens ss test (suc k) grey chosen is =
    let h = last_passes test (length ss) k is in
    let shade = grey k nobody h.0 (is_chosen pens ss test k chosen h.1) in
    subst IsGrey (sym (colour_shown ss k nobody h.0)) (record { green = shade.0; blue = shade.1 })

-- the colour of each pixel of a picture of grey strokes
pixel_grey : (reaches : Reach) (pens : PenSet) (ss : ShapeList) (page : Page) (dots : Dots) (row column : ℕ) → AreGrey pens ss.strokes → IsGrey (colours_at reaches pens ss page dots row column)
pixel_grey reaches pens ss page dots row column grey =
    let columns = columns_of page dots in
    let cells : List ℕ = row_of_shapes reaches pens ss.strokes ss.areas page dots row in
    let size : length cells ≡ columns = length-map-range_with_len (λ (k : ℕ). shown_at (shows_at reaches pens ss.strokes ss.areas page dots) (length ss.strokes) row k) 0 columns in
    elim (nat_lt row (rows_of page dots)) as (λ b. IsGrey (cell_colour (inks_of ss.strokes) (cond b (get_or cells column 0) 0))) [
      | true ↦ elim (cases_lt column columns) as (λ _. IsGrey (cell_colour (inks_of ss.strokes) (get_or cells column 0))) [
        | inl lt ↦ cell_grey pens ss.strokes (λ (j : ℕ). shows_at reaches pens ss.strokes ss.areas page dots j row column) (get_or cells column 0) grey (λ s t. both _ _ t)
            (sym (get_or-map-range_with_len (λ (j : ℕ). shown_at (shows_at reaches pens ss.strokes ss.areas page dots) (length ss.strokes) row j) 0 columns column column 0 lt (omega arith)))
        | inr le ↦ (let none : get_or cells column 0 ≡ 0 = get_or_past cells column 0 (omega (arith, le, size)) in
            subst (λ (cell : ℕ). IsGrey (cell_colour (inks_of ss.strokes) cell)) (sym none) white_grey)
      ]
      | false ↦ white_grey
    ]

-- the sums of the channels of shades are equal
totals_same : (n : ℕ) (colours : Colours) (k row column : ℕ) → ((r c : ℕ) → channel colours k r c ≡ channel colours 0 r c)
    → total (λ r. total (channel colours k r) (n * column) n) (n * row) n ≡ total (λ r. total (channel colours 0 r) (n * column) n) (n * row) n
totals_same n colours k row column same =
    total_same (λ r. total (channel colours k r) (n * column) n) (λ r. total (channel colours 0 r) (n * column) n) (n * row) (n * row) n
    (λ i lt. total_same (channel colours k (n * row + i)) (channel colours 0 (n * row + i)) (n * column) (n * column) n (λ j lt'. same (n * row + i) (n * column + j)))

smoothed_grey : (n : ℕ) (colours : Colours) (row column : ℕ) → ((r c : ℕ) → IsGrey (colours r c)) → IsGrey (smoothed n colours row column)
smoothed_grey n colours row column grey = record {
  green = ap (mean n) (totals_same n colours 1 row column (λ r c. (grey r c).green));
  blue = ap (mean n) (totals_same n colours 2 row column (λ r c. (grey r c).blue));
}

-- the smoothed pixels of grey strokes are shades of grey
pub grey_pixels : (n : ℕ) (reaches : Reach) (pens : PenSet) (ss : ShapeList) (page : Page) (dots : Dots) (row : ℕ) → AreGrey pens ss.strokes → HasPixels Grey (smoothed_pixels n reaches pens ss page dots row)
grey_pixels n reaches pens ss page dots row grey = λ k d lt.
    let colours = colours_at reaches pens ss page (finer n dots) in
    let pixel = smoothed n colours row in
    let columns = columns_of page dots in
    let inside : k < columns = omega (arith, lt, length-map-range_with_len pixel 0 columns) in
    let here : get_or (map pixel (range_with_len 0 columns)) k d ≡ pixel k = get_or-map-range_with_len pixel 0 columns k k d inside (omega arith) in
    let h : IsGrey (get_or (map pixel (range_with_len 0 columns)) k d) = subst IsGrey (sym here) (smoothed_grey n colours row k (λ r c. pixel_grey reaches pens ss page (finer n dots) r c grey)) in
    (h.green, h.blue)
