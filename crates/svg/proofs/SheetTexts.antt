-- The texts of sheets with images.
use Rattle.std.proofs.Common.{◌≡◌, ℕ, ◌+◌, ◌++◌, ◌∙◌, ◌≤◌, arith, refl, List, [], ◌∷◌, Bool, true, false, sym, ap, cond, drop, take, length}
use Rattle.std.proofs.lemmas.List.{drop-map, take-map}
use Rattle.labels.specs.Labels.{LabelShape}
use Rattle.labels.specs.Sheets.{count_to}
use Rattle.page_images.specs.PageImages.{ImageShape, all_counted, counted, images_between}
use Rattle.plot_page.specs.declared.page.Page.{Page}
use Rattle.plot_page.specs.declared.pens.PenSet.{PenSet}
use Rattle.stroke_runs.specs.Sheets.{between}
use Rattle.svg.specs.Sections.{Contents, end_among, images_until, is_bare, pictured_after, pictured_sheet, sections_text, sheets_with, shown_with}

-- the images of a sheet, counted
pub between_counted : (first from end : ℕ) (images : List ImageShape) → images_between from end (all_counted first images) ≡ all_counted first (images_between from end images)
between_counted first from end images =
    ap (λ (z : List ImageShape). drop from z) (take-map (counted first) end images) ∙ drop-map (counted first) from (take end images)

-- the text of a sheet and of those after it, by whether it is bare
abbrev by_bare : Bool → Page → PenSet → Contents → List ℕ → ℕ → ℕ → ℕ → ℕ → ℕ → List ℕ → List LabelShape → List ImageShape → List ℕ
by_bare bare page pens c image_ends k number at from stop ends labels images =
    cond bare (pictured_after page pens c image_ends (k + 1) number at from ends labels)
    (pictured_sheet page pens c (number + 1) at stop labels images
    ++ pictured_after page pens c image_ends (k + 1) (number + 1) stop (images_until c image_ends k) ends (drop (count_to stop labels) labels))

-- a sheet with strokes or images
pub next_pictured : (page : Page) (pens : PenSet) (c : Contents) (image_ends : List ℕ) (k number at from end stop until : ℕ) (left ends : List ℕ) (labels later : List LabelShape) (images : List ImageShape)
    → left ≡ end ∷ ends → stop ≡ end_among c end → until ≡ images_until c image_ends k → images ≡ images_between from until c.images → later ≡ drop (count_to stop labels) labels
    → is_bare (between c.strokes at stop) images ≡ false
    → pictured_after page pens c image_ends k number at from left labels
    ≡ pictured_sheet page pens c (number + 1) at stop labels images ++ pictured_after page pens c image_ends (k + 1) (number + 1) stop until ends later
next_pictured page pens c image_ends k number at from end stop until left ends labels later images next stops untils are others bare =
    let own : images_between from (images_until c image_ends k) c.images ≡ images = sym (are ∙ ap (λ (n : ℕ). images_between from n c.images) untils) in
    let s = sym stops in
    let u = sym untils in
    let o = sym others in
    ap (λ (es : List ℕ). pictured_after page pens c image_ends k number at from es labels) next
    ∙ (λ i. by_bare (is_bare (between c.strokes at (s i)) (own i)) page pens c image_ends k number at from (s i) ends labels (own i))
    ∙ ap (λ (b : Bool). by_bare b page pens c image_ends k number at from stop ends labels images) bare
    ∙ (λ i. pictured_sheet page pens c (number + 1) at stop labels images ++ pictured_after page pens c image_ends (k + 1) (number + 1) stop (u i) ends (o i))

-- a sheet with neither
pub passed_pictured : (page : Page) (pens : PenSet) (c : Contents) (image_ends : List ℕ) (k number at from end stop until : ℕ) (left ends : List ℕ) (labels : List LabelShape) (images : List ImageShape)
    → left ≡ end ∷ ends → stop ≡ end_among c end → until ≡ images_until c image_ends k → images ≡ images_between from until c.images
    → is_bare (between c.strokes at stop) images ≡ true
    → pictured_after page pens c image_ends k number at from left labels ≡ pictured_after page pens c image_ends (k + 1) number at from ends labels
passed_pictured page pens c image_ends k number at from end stop until left ends labels images next stops untils are bare =
    let own : images_between from (images_until c image_ends k) c.images ≡ images = sym (are ∙ ap (λ (n : ℕ). images_between from n c.images) untils) in
    let s = sym stops in
    ap (λ (es : List ℕ). pictured_after page pens c image_ends k number at from es labels) next
    ∙ (λ i. by_bare (is_bare (between c.strokes at (s i)) (own i)) page pens c image_ends k number at from (s i) ends labels (own i))
    ∙ ap (λ (b : Bool). by_bare b page pens c image_ends k number at from stop ends labels images) bare

-- documents without images, and with images
none_of : (images : List ImageShape) → length images ≡ 0 → images ≡ []
none_of [] h = refl
none_of (i ∷ images) h = absurd (omega (arith, h))

pub none_counted : (first : ℕ) (images : List ImageShape) → length images ≡ 0 → all_counted first images ≡ []
none_counted first images h = ap (λ (z : List ImageShape). all_counted first z) (none_of images h)

pub with_some : (page : Page) (pens : PenSet) (c : Contents) (first : ℕ) (images : List ImageShape) → 1 ≤ length images
    → sections_text page pens c 0 (length c.strokes) c.labels (all_counted first images) ≡ shown_with page pens c (all_counted first images)
with_some page pens c first [] h = absurd (omega (arith, h))
with_some page pens c first (i ∷ images) h = refl

pub sheets_with_some : (page : Page) (pens : PenSet) (c : Contents) (ends image_ends : List ℕ) (first : ℕ) (images : List ImageShape) → 1 ≤ length images
    → pictured_after page pens c image_ends 0 0 0 0 (ends ++ length c.strokes ∷ []) c.labels ≡ sheets_with page pens c ends image_ends (all_counted first images)
sheets_with_some page pens c ends image_ends first [] h = absurd (omega (arith, h))
sheets_with_some page pens c ends image_ends first (i ∷ images) h = refl
