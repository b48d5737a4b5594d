-- The tests that the rows which are left take at most.
use Rattle.std.proofs.Common.{◌≡◌, ℕ, ◌+◌, ◌-◌, ◌≤◌, List, ap, ap₂, refl, ◌∙◌, arith}
use Rattle.plot_page.specs.Segments.{Segment}
use Rattle.areas.specs.Shapes.{ShapeList}
use Rattle.plot_page.specs.declared.page.Page.{Page}
use Rattle.plot_page.specs.declared.dots.Dots.{Dots}
use Rattle.plot_page.specs.declared.pens.PenSet.{PenSet}
use Rattle.plot_page.specs.Resolutions.{columns_of}
use Rattle.stroke_raster.specs.Boxes.{boxes, selected, in_box}
use Rattle.stroke_raster.specs.Painting.{Painting, Moves, boxed_pixels, rows_next}
use Rattle.stroke_raster.proofs.BoxCounts.{boxes_join}
use Rattle.rows.specs.Boxes.{boxes_between}
use Rattle.picture_out.specs.declared.form.Form.{Form}
use Rattle.rows.specs.Pictures.{Reach, row_of_list}
use Rattle.rows.specs.Progress.{painting_row, painting_shapes, tests_left}

-- what is made of equal parts is equal
pub parts_same : {A : Type 0} (F : PenSet → List Segment → Page → Dots → A) (l l' : PenSet) (ss ss' : List Segment) (p p' : Page) (d d' : Dots) → l ≡ l' → ss ≡ ss' → p ≡ p' → d ≡ d' → F l ss p d ≡ F l' ss' p' d'
parts_same F l l' ss ss' p p' d d' el es ep ed = cc

pub shapes_same : {A : Type 0} (F : PenSet → ShapeList → Page → Dots → A) (l l' : PenSet) (ss ss' : ShapeList) (p p' : Page) (d d' : Dots) → l ≡ l' → ss ≡ ss' → p ≡ p' → d ≡ d' → F l ss p d ≡ F l' ss' p' d'
shapes_same F l l' ss ss' p p' d d' el es ep ed = cc

-- the shapes of a painting of these parts
pub list_is : (q : Painting) (ss : ShapeList) → q.strokes ≡ ss.strokes → q.areas ≡ ss.areas → painting_shapes q ≡ ss
list_is q ss es ea = λ i. record { strokes = es i; areas = ea i }

-- the tests that a painting of these parts takes
pub tests_are : (q : Painting) (l : PenSet) (ss : List Segment) (p : Page) (d : Dots) (first end : ℕ) → q.strokes ≡ ss → q.page ≡ p → q.dots ≡ d → q.pens ≡ l → q.next ≡ first → q.end ≡ end
    → tests_left q ≡ boxes_between l ss p d first end
tests_are q l ss p d first end es ep ed el en ee =
    parts_same (λ l ss p d. boxes_between l ss p d q.next q.end) q.pens l q.strokes ss q.page p q.dots d el es ep ed ∙ ap₂ (boxes_between l ss p d) en ee

-- the same of a painting that stops before a row
pub stopped_tests : (p q : Painting) (l : PenSet) (ss : List Segment) (page : Page) (d : Dots) (first end : ℕ) → q ≡ record p { end = end } → p.strokes ≡ ss → p.page ≡ page → p.dots ≡ d → p.pens ≡ l → p.next ≡ first
    → tests_left q ≡ boxes_between l ss page d first end
stopped_tests p q l ss page d first end is es ep ed el en = ap tests_left is ∙ tests_are (record p { end = end }) l ss page d first end es ep ed el en refl

-- after a band there are as many tests fewer as its boxes have pixels
pub tests_after : (p q : Painting) (count count' : ℕ) → Moves p q → count' ≤ count + boxed_pixels p p.next (rows_next p) → count' + tests_left q ≤ count + tests_left p
tests_after p q count count' moved most =
    let inside = λ (s : Segment). in_box s p.page p.dots in
    let ss = selected p.pens p.strokes in
    let columns = columns_of p.page p.dots in
    let n = rows_next p in
    let left : p.end - p.next ≡ n + (p.end - (p.next + n)) = omega arith in
    let all : tests_left p ≡ boxes inside ss p.next n columns + boxes inside ss (p.next + n) (p.end - (p.next + n)) columns =
    ap (λ (k : ℕ). boxes inside ss p.next k columns) left ∙ boxes_join inside ss p.next n (p.end - (p.next + n)) columns in
    let after : tests_left q ≡ boxes inside ss (p.next + n) (p.end - (p.next + n)) columns =
    tests_are q p.pens p.strokes p.page p.dots (p.next + n) p.end moved.strokes moved.page moved.dots moved.pens moved.next moved.end in
    omega (arith, most, all, after)

-- the rows of a painting of these parts
pub rows_are : (form : Form) (q : Painting) (l : PenSet) (ss : ShapeList) (p : Page) (d : Dots) → q.strokes ≡ ss.strokes → q.areas ≡ ss.areas → q.page ≡ p → q.dots ≡ d → q.pens ≡ l → painting_row form q ≡ (λ reaches row. row_of_list form reaches l ss p d row)
rows_are form q l ss p d es ea ep ed el =
    let F : PenSet → ShapeList → Page → Dots → Reach → ℕ → List ℕ = λ l ss p d reaches row. row_of_list form reaches l ss p d row in
    shapes_same F q.pens l (painting_shapes q) ss q.page p q.dots d el (list_is q ss es ea) ep ed

-- the same of a painting that stops before a row
pub stopped_rows : (form : Form) (q r : Painting) (end : ℕ) (l : PenSet) (ss : ShapeList) (p : Page) (d : Dots) → r ≡ record q { end = end } → q.strokes ≡ ss.strokes → q.areas ≡ ss.areas → q.page ≡ p → q.dots ≡ d → q.pens ≡ l
    → painting_row form r ≡ (λ reaches row. row_of_list form reaches l ss p d row)
stopped_rows form q r end l ss p d is es ea ep ed el = ap (painting_row form) is ∙ rows_are form (record q { end = end }) l ss p d es ea ep ed el
