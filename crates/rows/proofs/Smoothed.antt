-- Pictures that are smoothed, and pictures that are not.
use Rattle.std.proofs.Common.{◌≡◌, ℕ, ◌+◌, ◌*◌, ◌<◌, ◌≤◌, zero, suc, Bool, true, false, not, ◌&&◌, ◌||◌, cond, Option, List, [], get_or, length, ap, sym, refl, ◌∙◌, subst, arith}
use Rattle.std.specs.List.{flat_map}
use Rattle.std.proofs.lemmas.Bool.{leb-true}
use Rattle.std.proofs.lemmas.List.FromFn.{get_or-map-range_with_len, length-map-range_with_len}
use Rattle.smoothing.specs.Smoothings.{smoothed}
use Rattle.std.specs.Coded.{le_prop}
use Rattle.std.proofs.Math.Nat.{mul-le-mul_left, mul-le-mul_right}
use Rattle.plot_page.specs.Resolutions.{cell_count, columns_of, rows_of}
use Rattle.plot_page.specs.Segments.{Segment}
use Rattle.areas.specs.Shapes.{ShapeList}
use Rattle.plot_page.specs.declared.page.Page.{Page}
use Rattle.plot_page.specs.declared.dots.Dots.{Dots}
use Rattle.plot_page.specs.declared.pens.PenSet.{PenSet}
use Rattle.picture_out.specs.declared.form.Form.{Form}
use Rattle.picture_job.specs.declared.job.Job.{Job}
use Rattle.rows.specs.Boxes.{boxes_between, finer_between, strip_boxes}
use Rattle.png.specs.declared.header.Layout.TheVariants.{Rgb}
use Rattle.png.specs.Headers.{three}
use Rattle.rows.specs.PixelRows.{layout_bytes}
use Rattle.rows.proofs.PixelLayouts.{rgb_bytes}
use Rattle.rows.specs.Pictures.{Reach, colours_at, end_of, finer, has_resolution, is_fine, is_possible, is_smoothed, row_of_list, shown_row, smoothed_pixels}

-- without smoothing the rows of a form are shown
pub unsmoothed : (n : ℕ) (form : Form) (reaches : Reach) (pens : PenSet) (ss : ShapeList) (page : Page) (dots : Dots) → is_smoothed n form ≡ false
    → ◌≡◌ {A = ℕ → List ℕ} (row_of_list form reaches pens ss page dots) (shown_row n form reaches pens ss page dots)
unsmoothed n form reaches pens ss page dots none =
    ap {B = ℕ → List ℕ} (λ (b : Bool). λ (row : ℕ). cond b (flat_map (λ (pixel : List ℕ). pixel) (smoothed_pixels n reaches pens ss page dots row)) (row_of_list form reaches pens ss page dots row)) (sym none)

-- with it their smoothed pixels
pub smoothed_rows : (n : ℕ) (form : Form) (reaches : Reach) (pens : PenSet) (ss : ShapeList) (page : Page) (dots : Dots) → is_smoothed n form ≡ true
    → ◌≡◌ {A = ℕ → List ℕ} (λ row. flat_map (λ (pixel : List ℕ). pixel) (smoothed_pixels n reaches pens ss page dots row)) (shown_row n form reaches pens ss page dots)
smoothed_rows n form reaches pens ss page dots some =
    ap {B = ℕ → List ℕ} (λ (b : Bool). λ (row : ℕ). cond b (flat_map (λ (pixel : List ℕ). pixel) (smoothed_pixels n reaches pens ss page dots row)) (row_of_list form reaches pens ss page dots row)) (sym some)

-- and they take the tests of the form's pixels, or of the finer ones
module _ (n : ℕ) (most : Option ℕ) (job : Job) (ss : List Segment) where
  abbrev last : ℕ
  last = end_of most job.first_row (rows_of job.page job.dots)

  pub unsmoothed_boxes : is_smoothed n job.form ≡ false → boxes_between job.pens ss job.page job.dots job.first_row last ≡ strip_boxes n most job ss
  unsmoothed_boxes none = ap (λ (b : Bool). cond b (finer_between n job.pens ss job.page job.dots job.first_row last) (boxes_between job.pens ss job.page job.dots job.first_row last)) (sym none)

  pub smoothed_boxes : is_smoothed n job.form ≡ true → finer_between n job.pens ss job.page job.dots job.first_row last ≡ strip_boxes n most job ss
  smoothed_boxes some = ap (λ (b : Bool). cond b (finer_between n job.pens ss job.page job.dots job.first_row last) (boxes_between job.pens ss job.page job.dots job.first_row last)) (sym some)

fine_by : (a b c : Bool) → a ≡ true → ((not a || b) && c) ≡ true → b ≡ true
fine_by true true c some is = refl
fine_by true false c some is = absurd (cc)
fine_by false b c some is = absurd (cc)

-- a picture that is smoothed, and can be, is fine
pub fine_smoothed : (n : ℕ) (job : Job) → is_smoothed n job.form ≡ true → is_possible n job ≡ true → is_fine n job.dots ≡ true
fine_smoothed n job some possible = fine_by (is_smoothed n job.form) (is_fine n job.dots) (has_resolution job) some possible

-- resolutions of one number are one
dots_same : (a b : ℕ) → a ≡ b → (l : 1 ≤ a) (m : a ≤ 1200) (l' : 1 ≤ b) (m' : b ≤ 1200) → ◌≡◌ {A = Dots} (record { resolution = a; at_least = l; at_most = m }) (record { resolution = b; at_least = l'; at_most = m' })
dots_same a b e l m l' m' =
    subst (λ (k : ℕ). (x : 1 ≤ k) (y : k ≤ 1200) → ◌≡◌ {A = Dots} (record { resolution = a; at_least = l; at_most = m }) (record { resolution = k; at_least = x; at_most = y })) e
    (λ x y. λ i. record { resolution = a; at_least = le_prop l x i; at_most = le_prop m y i }) l' m'

finer_resolution : (n : ℕ) (dots : Dots) → 1 ≤ n → n * dots.resolution ≤ 1200 → (finer n dots).resolution ≡ n * dots.resolution
finer_resolution n dots some most =
    let least : 1 * dots.resolution ≤ n * dots.resolution = mul-le-mul_right dots.resolution some in
    omega (arith, most, least, dots.at_least)

pub finer_rows : (n : ℕ) (page : Page) (dots : Dots) → 1 ≤ n → n * dots.resolution ≤ 1200 → rows_of page (finer n dots) ≡ cell_count page.height (n * dots.resolution)
finer_rows n page dots some most = ap (cell_count page.height) (finer_resolution n dots some most)

-- a resolution that is so many times as fine
pub finer_is : (n : ℕ) (dots d : Dots) → d.resolution ≡ n * dots.resolution → 1 ≤ n → n * dots.resolution ≤ 1200 → d ≡ finer n dots
finer_is n dots d is some most =
    dots_same d.resolution _ (is ∙ sym (finer_resolution n dots some most)) d.at_least d.at_most _ _

-- a row after the first one lies on the page, and so does its finer one
later_row : (n units r row : ℕ) → 1 ≤ n → 1 ≤ row → row < cell_count units r → n * row < cell_count units (n * r)
later_row n units r row some later lt =
    let whole : row * 1016 + 508 ≤ units * r = omega (arith, lt) in
    let more : n * (row * 1016 + 508) ≤ n * (units * r) = mul-le-mul_left n whole in
    let turned : units * (n * r) ≡ n * (units * r) = grind arith in
    let parts : n * (row * 1016 + 508) ≡ (n * row) * 1016 + n * 508 = grind arith in
    omega (arith, more, turned, parts, some)

finer_row_by : (row n units r : ℕ) → 1 ≤ n → row < cell_count units r → n * row < cell_count units (n * r)
finer_row_by zero n units r some lt = omega arith
finer_row_by (suc row) n units r some lt = later_row n units r (suc row) some (omega arith) lt

-- each row has a finer one
pub finer_row : (n units r row : ℕ) → 1 ≤ n → row < cell_count units r → n * row < cell_count units (n * r)
finer_row n units r row some lt =
    finer_row_by row n units r some lt

-- smoothed pixels have three channels
pub smoothed_threes : (n : ℕ) (reaches : Reach) (pens : PenSet) (ss : ShapeList) (page : Page) (dots : Dots) (row k : ℕ) → k < length (smoothed_pixels n reaches pens ss page dots row)
    → three (get_or (smoothed_pixels n reaches pens ss page dots row) k []) ≡ get_or (smoothed_pixels n reaches pens ss page dots row) k []
smoothed_threes n reaches pens ss page dots row k lt =
    let pixel = smoothed n (colours_at reaches pens ss page (finer n dots)) row in
    let columns = columns_of page dots in
    let here : get_or (smoothed_pixels n reaches pens ss page dots row) k [] ≡ pixel k = get_or-map-range_with_len pixel 0 columns k k [] (omega (arith, lt, length-map-range_with_len pixel 0 columns)) (omega arith) in
    ap three here ∙ sym here

-- in red, green and blue they are the bytes of a PPM
pub rgb_rows : (n : ℕ) (reaches : Reach) (pens : PenSet) (ss : ShapeList) (page : Page) (dots : Dots)
    → ◌≡◌ {A = ℕ → List ℕ} (λ row. layout_bytes Rgb (smoothed_pixels n reaches pens ss page dots row)) (λ row. flat_map (λ (pixel : List ℕ). pixel) (smoothed_pixels n reaches pens ss page dots row))
rgb_rows n reaches pens ss page dots = λ i. λ row. rgb_bytes (smoothed_pixels n reaches pens ss page dots row) (smoothed_threes n reaches pens ss page dots row) i

-- a finer resolution is in range
pub fine_most : (n : ℕ) (dots : Dots) → is_fine n dots ≡ true → n * dots.resolution ≤ 1200
fine_most n dots fine = leb-true (n * dots.resolution) 1200 fine
