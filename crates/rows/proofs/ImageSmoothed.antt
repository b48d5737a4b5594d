-- Smoothed rows of bands with images.
use Rattle.std.proofs.Common.{◌≡◌, ℕ, ◌+◌, ◌-◌, ◌*◌, ◌<◌, ◌≤◌, List, [], length, get_or, map, refl, sym, ap, ◌∙◌, arith}
use Rattle.std.specs.Prelude.{min}
use Rattle.std.specs.List.{range_with_len}
use Rattle.std.proofs.Math.Nat.{mul-le-mul_left}
use Rattle.std.proofs.lemmas.List.{ext_get_or}
use Rattle.std.proofs.lemmas.List.FromFn.{get_or-map-range_with_len, length-map-range_with_len}
use Rattle.plot_page.specs.Resolutions.{rows_of}
use Rattle.plot_page.specs.declared.dots.Dots.{Dots}
use Rattle.plot_page.specs.declared.page.Page.{Page}
use Rattle.plot_page.specs.declared.pens.PenSet.{PenSet}
use Rattle.areas.specs.Shapes.{ShapeList}
use Rattle.areas.specs.Views.{shapes_in}
use Rattle.page_images.specs.PageImages.{ImageShape}
use Rattle.picture_out.specs.declared.inks.Ink.{Ink}
use Rattle.picture_out.specs.Inks.{cell_colour}
use Rattle.stroke_raster.specs.Painting.{Painting, painted_rows, rows_next}
use Rattle.stroke_raster.specs.ShownShapes.{row_of_shapes}
use Rattle.smoothing.specs.Smoothings.{smoothed}
use Rattle.smoothing.specs.Cells.{colours_of_cells}
use Rattle.smoothing.specs.Rows.{times_of, width_of}
use Rattle.png.specs.declared.header.Layout.TheVariants.{Rgb}
use Rattle.rows.specs.ImageCells.{inks_with, with_images}
use Rattle.rows.specs.ImagePictures.{image_colours, image_pixels}
use Rattle.rows.specs.ImageSmoothing.{IsMadeOf, IsOver}
use Rattle.rows.specs.Inks.{image_inks_held}
use Rattle.rows.specs.PixelRows.{layout_bytes}
use Rattle.rows.specs.Pictures.{Reach}
use Rattle.rows.specs.Progress.{IsSmoothing, SmoothPainting, band_with_images, painting_shapes, smoothed_image_text}
use Rattle.rows.specs.declared.image_inks.ImageInks.{ImageInks}
use Rattle.rows.specs.declared.image_smoother.ImageSmoother.{ImageSmoother}
use Rattle.rows.specs.declared.image_smoother.Sheet.{Sheet}
use Rattle.rows.specs.declared.scene.Scene.{Scene}
use Rattle.page_images.specs.Views.{images_in}
use Rattle.rows.proofs.SmoothedRows.{cell_of_rows, smoothed_same}

-- the rows of a band are those that are painted, with images
pub band_rows_are : (images : List ImageShape) (page : Page) (dots : Dots) (pens : ℕ → List ℕ) (first n : ℕ)
    → band_with_images images page dots first (map pens (range_with_len first n)) ≡ map (λ r. with_images images page dots r (pens r)) (range_with_len first n)
band_rows_are images page dots pens first n =
    let rows = map pens (range_with_len first n) in
    let made : ℕ → List ℕ = λ r. with_images images page dots (first + r) (get_or rows r []) in
    let shows : ℕ → List ℕ = λ r. with_images images page dots r (pens r) in
    let size : length rows ≡ n = length-map-range_with_len pens first n in
    let all : length (map made (range_with_len 0 (length rows))) ≡ n = length-map-range_with_len made 0 (length rows) ∙ size in
    ext_get_or [] (map made (range_with_len 0 (length rows))) (map shows (range_with_len first n)) (all ∙ sym (length-map-range_with_len shows first n))
    (λ k lt.
    let inside : k < n = omega (arith, lt, all) in
    get_or-map-range_with_len made 0 (length rows) k k [] (omega (arith, inside, size)) (omega arith)
    ∙ ap (with_images images page dots (first + k)) (get_or-map-range_with_len pens first n k (first + k) [] inside (omega arith))
    ∙ sym (get_or-map-range_with_len shows first n k (first + k) [] inside (omega arith)))

-- the colours of a band are those of the picture, also past the picture's last row
image_band_colour : (reaches : Reach) (p : Painting) (images : List ImageShape) (r column : ℕ) → r < p.band_rows → p.end ≤ rows_of p.page p.dots → (p.end ≤ p.next + r → rows_of p.page p.dots ≤ p.next + r)
    → colours_of_cells (inks_with p.strokes) (band_with_images images p.page p.dots p.next (painted_rows reaches p p.next (rows_next p))) r column
    ≡ image_colours reaches p.pens (painting_shapes p) images p.page p.dots (p.next + r) column
image_band_colour reaches p images r column lt within after =
    let pens : ℕ → List ℕ = λ row. row_of_shapes reaches p.pens p.strokes p.areas p.page p.dots row in
    let shows : ℕ → List ℕ = λ row. with_images images p.page p.dots row (pens row) in
    ap (λ (rows : List (List ℕ)). cell_colour (inks_with p.strokes) (get_or (get_or rows r []) column 0)) (band_rows_are images p.page p.dots pens p.next (rows_next p))
    ∙ ap (cell_colour (inks_with p.strokes)) (cell_of_rows shows p.next (rows_next p) (rows_of p.page p.dots) r column
    (λ inside. omega (arith, inside, within)) (λ past. after (omega (arith, past, lt))))

-- a row of pixels of a band is that of the picture
pub image_band_pixels : (reaches : Reach) (p : Painting) (images : List ImageShape) (times rows at height k columns : ℕ) → IsSmoothing p times rows at height → at < rows → k < min height (rows - at)
    → map (smoothed times (colours_of_cells (inks_with p.strokes) (band_with_images images p.page p.dots p.next (painted_rows reaches p p.next (rows_next p)))) k) (range_with_len 0 columns)
    ≡ map (smoothed times (image_colours reaches p.pens (painting_shapes p) images p.page p.dots) (at + k)) (range_with_len 0 columns)
image_band_pixels reaches p images times rows at height k columns made left lt =
    let finer = colours_of_cells (inks_with p.strokes) (band_with_images images p.page p.dots p.next (painted_rows reaches p p.next (rows_next p))) in
    let all = image_colours reaches p.pens (painting_shapes p) images p.page p.dots in
    let low : k + 1 ≤ height = omega (arith, lt) in
    let most : times * (k + 1) ≤ times * height = mul-le-mul_left times low in
    let more : times * (k + 1) ≡ times * k + times = omega arith in
    let parts : times * (at + k) ≡ times * at + times * k = omega arith in
    let begins : p.next ≡ times * at = made.next left in
    let last : at + k + 1 ≤ rows = omega (arith, lt, left) in
    let needed : times * (at + k + 1) ≤ times * rows = mul-le-mul_left times last in
    let further : times * (at + k + 1) ≡ times * (at + k) + times = omega arith in
    let same : (j c : ℕ) → j < times → finer (times * k + j) c ≡ all (times * (at + k) + j) c = λ j c lt'.
    let inside : times * k + j < p.band_rows = omega (arith, lt', most, more, made.band) in
    let there : p.next + (times * k + j) ≡ times * (at + k) + j = omega (arith, begins, parts) in
    image_band_colour reaches p images (times * k + j) c inside made.on_page (λ past. omega (arith, past, there, lt', needed, further, made.enough)) ∙ ap (λ (r : ℕ). all r c) there in
    ext_get_or [] (map (smoothed times finer k) (range_with_len 0 columns)) (map (smoothed times all (at + k)) (range_with_len 0 columns))
    (length-map-range_with_len (smoothed times finer k) 0 columns ∙ sym (length-map-range_with_len (smoothed times all (at + k)) 0 columns))
    (λ i lt'.
    let inside : i < columns = omega (arith, lt', length-map-range_with_len (smoothed times finer k) 0 columns) in
    get_or-map-range_with_len (smoothed times finer k) 0 columns i i [] inside (omega arith)
    ∙ smoothed_same times finer all k (at + k) i same
    ∙ sym (get_or-map-range_with_len (smoothed times all (at + k)) 0 columns i i [] inside (omega arith)))

-- the bytes of smoothed pixels, by equal parts
pub image_pixels_same : (images : List ImageShape) (n n' : ℕ) (inks inks' : List Ink) (page page' : Page) (dots dots' : Dots) (first first' : ℕ) (rows rows' : List (List ℕ)) (width width' k : ℕ)
    → n ≡ n' → inks ≡ inks' → page ≡ page' → dots ≡ dots' → first ≡ first' → rows ≡ rows' → width ≡ width'
    → layout_bytes Rgb (map (smoothed n (colours_of_cells inks (band_with_images images page dots first rows)) k) (range_with_len 0 width))
    ≡ layout_bytes Rgb (map (smoothed n' (colours_of_cells inks' (band_with_images images page' dots' first' rows')) k) (range_with_len 0 width'))
image_pixels_same images n n' inks inks' page page' dots dots' first first' rows rows' width width' k en ei ep ed ef er ew =
    let F : ℕ → List Ink → Page → Dots → ℕ → List (List ℕ) → ℕ → List ℕ = λ n inks page dots first rows width.
    layout_bytes Rgb (map (smoothed n (colours_of_cells inks (band_with_images images page dots first rows)) k) (range_with_len 0 width)) in
    seven_same F n n' inks inks' page page' dots dots' first first' rows rows' width width' en ei ep ed ef er ew
  where
    seven_same : (F : ℕ → List Ink → Page → Dots → ℕ → List (List ℕ) → ℕ → List ℕ) (n n' : ℕ) (inks inks' : List Ink) (page page' : Page) (dots dots' : Dots) (first first' : ℕ) (rows rows' : List (List ℕ)) (width width' : ℕ)
        → n ≡ n' → inks ≡ inks' → page ≡ page' → dots ≡ dots' → first ≡ first' → rows ≡ rows' → width ≡ width' → F n inks page dots first rows width ≡ F n' inks' page' dots' first' rows' width'
    seven_same F n n' inks inks' page page' dots dots' first first' rows rows' width width' en ei ep ed ef er ew = cc

pub sheet_pixels_same : (sheet sheet' : Sheet) (n n' : ℕ) (inks inks' : ImageInks) (first : ℕ) (rows : List (List ℕ)) (width width' k : ℕ) → sheet ≡ sheet' → n ≡ n' → inks ≡ inks' → width ≡ width'
    → layout_bytes Rgb (map (smoothed n (colours_of_cells (image_inks_held inks) (band_with_images (images_in sheet.images) sheet.page sheet.dots first rows)) k) (range_with_len 0 width))
    ≡ layout_bytes Rgb (map (smoothed n' (colours_of_cells (image_inks_held inks') (band_with_images (images_in sheet'.images) sheet'.page sheet'.dots first rows)) k) (range_with_len 0 width'))
sheet_pixels_same sheet sheet' n n' inks inks' first rows width width' k es en ei ew =
    let F : Sheet → ℕ → ImageInks → ℕ → List ℕ = λ sheet n inks width.
    layout_bytes Rgb (map (smoothed n (colours_of_cells (image_inks_held inks) (band_with_images (images_in sheet.images) sheet.page sheet.dots first rows)) k) (range_with_len 0 width)) in
    four_same F sheet sheet' n n' inks inks' width width' es en ei ew
  where
    four_same : (F : Sheet → ℕ → ImageInks → ℕ → List ℕ) (sheet sheet' : Sheet) (n n' : ℕ) (inks inks' : ImageInks) (width width' : ℕ) → sheet ≡ sheet' → n ≡ n' → inks ≡ inks' → width ≡ width'
        → F sheet n inks width ≡ F sheet' n' inks' width'
    four_same F sheet sheet' n n' inks inks' width width' es en ei ew = cc

-- the bytes of the rows of equal parts
texts_same : {A : Type 0} (F : ℕ → ℕ → PenSet → ShapeList → List ImageShape → Page → Dots → A) (n n' c c' : ℕ) (l l' : PenSet) (ss ss' : ShapeList) (i i' : List ImageShape) (p p' : Page) (d d' : Dots)
    → n ≡ n' → c ≡ c' → l ≡ l' → ss ≡ ss' → i ≡ i' → p ≡ p' → d ≡ d' → F n c l ss i p d ≡ F n' c' l' ss' i' p' d'
texts_same F n n' c c' l l' ss ss' i i' p p' d d' en ec el es ei ep ed = cc

abbrev text_of : ℕ → ℕ → PenSet → ShapeList → List ImageShape → Page → Dots → Reach → ℕ → List ℕ
text_of n columns l ss i p d reaches row = layout_bytes Rgb (map (smoothed n (image_colours reaches l ss i p d) row) (range_with_len 0 columns))

-- of what is made of a scene
pub made_text : (b : SmoothPainting) (n : ℕ) (scene : Scene) (images images' : List ImageShape) → IsMadeOf b n scene → images ≡ images'
    → smoothed_image_text (record { smooth = b; images = images }) ≡ (λ reaches row. layout_bytes Rgb (image_pixels n reaches scene.pens (shapes_in scene.shapes) images' scene.page scene.dots row))
made_text b n scene images images' made is =
    texts_same {A = Reach → ℕ → List ℕ} text_of b.times n b.columns _ b.painting.pens scene.pens (painting_shapes b.painting) (shapes_in scene.shapes) images images' b.painting.page scene.page b.painting.dots _
    made.times made.columns made.pens made.shapes is made.page made.dots

-- after a band
pub moved_text : (images : List ImageShape) (b b' : SmoothPainting) → b'.painting.strokes ≡ b.painting.strokes → b'.painting.areas ≡ b.painting.areas → b'.painting.page ≡ b.painting.page → b'.painting.dots ≡ b.painting.dots → b'.painting.pens ≡ b.painting.pens
    → b'.times ≡ b.times → b'.columns ≡ b.columns → smoothed_image_text (record { smooth = b'; images = images }) ≡ smoothed_image_text (record { smooth = b; images = images })
moved_text images b b' es ea ep ed el en ec =
    let shapes : painting_shapes b'.painting ≡ painting_shapes b.painting = λ i. record { strokes = es i; areas = ea i } in
    texts_same {A = Reach → ℕ → List ℕ} text_of b'.times b.times b'.columns b.columns b'.painting.pens b.painting.pens (painting_shapes b'.painting) (painting_shapes b.painting) images images b'.painting.page b.painting.page b'.painting.dots b.painting.dots
    en ec el shapes refl ep ed

pub over_next : (b b' : SmoothPainting) (s s' : ImageSmoother) → IsOver b s → s'.sheet ≡ s.sheet → s'.inks ≡ s.inks → times_of s'.pixels ≡ times_of s.pixels → width_of s'.pixels ≡ width_of s.pixels
    → b'.painting.strokes ≡ b.painting.strokes → b'.painting.page ≡ b.painting.page → b'.painting.dots ≡ b.painting.dots → b'.times ≡ b.times → b'.columns ≡ b.columns → IsOver b' s'
over_next b b' s s' over sheet inks times width es ep ed en ec = record {
  inks = ap image_inks_held inks ∙ over.inks ∙ ap inks_with (sym es);
  times = times ∙ over.times ∙ sym en;
  width = width ∙ over.width ∙ sym ec;
  page = ap (λ (z : Sheet). z.page) sheet ∙ over.page ∙ sym ep;
  dots = ap (λ (z : Sheet). z.dots) sheet ∙ over.dots ∙ sym ed;
  few = omega (arith, over.few, ap length es);
}
