-- Pictures with images, and without.
use Rattle.std.proofs.Common.{◌≡◌, ℕ, ◌<◌, List, [], ◌∷◌, length, get_or, refl, sym, ap, ◌∙◌, Bool, true, false, cond, arith}
use Rattle.std.specs.List.{flat_map}
use Rattle.std.proofs.lemmas.List.FromFn.{get_or-map-range_with_len, length-map-range_with_len}
use Rattle.plot_page.specs.declared.dots.Dots.{Dots}
use Rattle.plot_page.specs.declared.page.Page.{Page}
use Rattle.plot_page.specs.declared.pens.PenSet.{PenSet}
use Rattle.areas.specs.Shapes.{ShapeList}
use Rattle.page_images.specs.PageImages.{ImageShape, all_counted, counted}
use Rattle.page_images.specs.Views.{images_in}
use Rattle.page_images.specs.declared.list.PageImages.{PageImages}
use Rattle.picture_out.specs.declared.form.Form.{Form}
use Rattle.std.proofs.lemmas.List.{length-map}
use Rattle.plot_page.specs.Resolutions.{columns_of}
use Rattle.stroke_raster.specs.Painting.{Painting}
use Rattle.smoothing.specs.Smoothings.{smoothed}
use Rattle.png.specs.Headers.{three}
use Rattle.png.specs.declared.header.Layout.TheVariants.{Rgb}
use Rattle.rows.specs.PixelRows.{layout_bytes}
use Rattle.rows.specs.Progress.{image_painting_row, painting_shapes}
use Rattle.rows.specs.Pictures.{Reach, finer, is_smoothed}
use Rattle.rows.proofs.Potentials.{list_is, shapes_same}
use Rattle.rows.proofs.PixelLayouts.{rgb_bytes}
use Rattle.rows.specs.ImagePictures.{image_colours, image_pixels, image_row, shown_row_with, smoothed_image_row}

none_counted : (first : ℕ) (images : List ImageShape) → length images ≡ 0 → all_counted first images ≡ []
none_counted first [] h = refl
none_counted first (image ∷ images) h = absurd (omega arith)

pub no_images : (images : PageImages) → length images.list.now ≡ 0 → images_in images ≡ []
no_images images h = none_counted images.first images.list.now h

pub some_images : (images : PageImages) → 0 < length images.list.now → 0 < length (images_in images)
some_images images h = omega (arith, h, length-map images.list.now (counted images.first))

-- with images the rows are those of the picture with images
pub row_with_some : (images : List ImageShape) (n : ℕ) (form : Form) (reaches : Reach) (pens : PenSet) (shapes : ShapeList) (page : Page) (dots : Dots) → 0 < length images
    → ◌≡◌ {A = ℕ → List ℕ} (λ row. smoothed_image_row n form reaches pens shapes images page dots row) (λ row. shown_row_with images n form reaches pens shapes page dots row)
row_with_some [] n form reaches pens shapes page dots h = absurd (omega (arith, h))
row_with_some (image ∷ images) n form reaches pens shapes page dots h = refl

-- without smoothing they are rows of cells in their form
pub unsmoothed_images : (n : ℕ) (form : Form) (reaches : Reach) (pens : PenSet) (ss : ShapeList) (images : List ImageShape) (page : Page) (dots : Dots) → is_smoothed n form ≡ false
    → ◌≡◌ {A = ℕ → List ℕ} (λ row. image_row form reaches pens ss images page dots row) (λ row. smoothed_image_row n form reaches pens ss images page dots row)
unsmoothed_images n form reaches pens ss images page dots none =
    ap {B = ℕ → List ℕ} (λ (b : Bool). λ (row : ℕ). cond b (flat_map (λ (pixel : List ℕ). pixel) (image_pixels n reaches pens ss images page dots row)) (image_row form reaches pens ss images page dots row)) (sym none)

-- with it their smoothed pixels
pub smoothed_images : (n : ℕ) (form : Form) (reaches : Reach) (pens : PenSet) (ss : ShapeList) (images : List ImageShape) (page : Page) (dots : Dots) → is_smoothed n form ≡ true
    → ◌≡◌ {A = ℕ → List ℕ} (λ row. flat_map (λ (pixel : List ℕ). pixel) (image_pixels n reaches pens ss images page dots row)) (λ row. smoothed_image_row n form reaches pens ss images page dots row)
smoothed_images n form reaches pens ss images page dots some =
    ap {B = ℕ → List ℕ} (λ (b : Bool). λ (row : ℕ). cond b (flat_map (λ (pixel : List ℕ). pixel) (image_pixels n reaches pens ss images page dots row)) (image_row form reaches pens ss images page dots row)) (sym some)

-- these have three channels
pub image_threes : (n : ℕ) (reaches : Reach) (pens : PenSet) (ss : ShapeList) (images : List ImageShape) (page : Page) (dots : Dots) (row k : ℕ) → k < length (image_pixels n reaches pens ss images page dots row)
    → three (get_or (image_pixels n reaches pens ss images page dots row) k []) ≡ get_or (image_pixels n reaches pens ss images page dots row) k []
image_threes n reaches pens ss images page dots row k lt =
    let pixel = smoothed n (image_colours reaches pens ss images page (finer n dots)) row in
    let columns = columns_of page dots in
    let here : get_or (image_pixels n reaches pens ss images page dots row) k [] ≡ pixel k = get_or-map-range_with_len pixel 0 columns k k [] (omega (arith, lt, length-map-range_with_len pixel 0 columns)) (omega arith) in
    ap three here ∙ sym here

-- in red, green and blue they are the bytes of a PPM
pub rgb_images : (n : ℕ) (reaches : Reach) (pens : PenSet) (ss : ShapeList) (images : List ImageShape) (page : Page) (dots : Dots)
    → ◌≡◌ {A = ℕ → List ℕ} (λ row. layout_bytes Rgb (image_pixels n reaches pens ss images page dots row)) (λ row. flat_map (λ (pixel : List ℕ). pixel) (image_pixels n reaches pens ss images page dots row))
rgb_images n reaches pens ss images page dots = λ i. λ row. rgb_bytes (image_pixels n reaches pens ss images page dots row) (image_threes n reaches pens ss images page dots row) i

-- the rows of a painting that stops before a row
pub stopped_image_rows : (form : Form) (images : List ImageShape) (q r : Painting) (end : ℕ) (l : PenSet) (ss : ShapeList) (p : Page) (d : Dots) → r ≡ record q { end = end } → q.strokes ≡ ss.strokes → q.areas ≡ ss.areas → q.page ≡ p → q.dots ≡ d → q.pens ≡ l
    → image_painting_row (record { painting = r; images = images; form = form }) ≡ (λ reaches row. image_row form reaches l ss images p d row)
stopped_image_rows form images q r end l ss p d is es ea ep ed el =
    let F : PenSet → ShapeList → Page → Dots → Reach → ℕ → List ℕ = λ l ss p d reaches row. image_row form reaches l ss images p d row in
    ap (λ (z : Painting). image_painting_row (record { painting = z; images = images; form = form })) is
    ∙ shapes_same F q.pens l (painting_shapes q) ss q.page p q.dots d el (list_is q ss es ea) ep ed
