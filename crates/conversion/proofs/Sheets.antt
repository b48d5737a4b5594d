-- The sheets of a drawing are what is drawn of each by itself.
use Rattle.std.proofs.Common.{◌≡◌, ◌-◌, ◌∙◌, ℕ, Bool, true, false, nat_eq, List, Option, None, [], ◌∷◌, length, take, drop, map, slice_index_or, refl, ap, subst, sym}
use Rattle.std.specs.Prelude.{if◌then◌else◌}
use Rattle.std.proofs.lemmas.List.{drop-map, length-map, take-map}
use Rattle.plot_page.specs.Segments.{Segment}
use Rattle.plot_page.specs.declared.page.Page.{Page}
use Rattle.plot_page.specs.declared.pens.PenSet.{PenSet}
use Rattle.carousel.specs.declared.carousel.Carousel.{Carousel}
use Rattle.character_sets.specs.declared.encoding.Encoding.{Encoding}
use Rattle.full_plot.specs.Drawings.{areas_of, areas_of_sheet, ends_in, image_ends_in, images_in, outcome_with, sheet_images, sheet_start, sheet_strokes, strokes_in}
use Rattle.image_places.specs.Moves.{moved_image, moved_images}
use Rattle.page_images.specs.PageImages.{ImageShape, all_counted, counted}
use Rattle.conversion.specs.Images.{images_of_sheet}
use Rattle.page_fit.specs.declared.around.Corner.{Corner}
use Rattle.page_fit.specs.Moves.{moved_if_selected}
use Rattle.picture_job.specs.declared.page_choice.PageChoice.{PageChoice}
use Rattle.picture_job.specs.declared.reading.Reading.TheVariants.{Full}
use Rattle.conversion.specs.Placements.{IsDrawnOn, IsPlaced, IsPlacedBy, Place, images_at, placed_rules, strokes_at}
use Rattle.conversion.specs.Rules.{rules_with}
use Rattle.conversion.specs.declared.placement.Placement.{Placement}
use Rattle.conversion.specs.declared.placement.Placement.TheVariants.{Given, Asked, Unasked, Fitted, Blank, TooLarge}

parts : (f : Segment → Segment) (xs : List Segment) (s e : ℕ) (b : Bool) → (if b then map f xs else drop s (take e (map f xs))) ≡ map f (if b then xs else drop s (take e xs))
parts f xs s e true = refl
parts f xs s e false = ap (drop s) (take-map f e xs) ∙ drop-map f s (take e xs)

-- the strokes of a sheet, each changed, are those of the sheet of the changed strokes
sheet_of_map : (f : Segment → Segment) (xs : List Segment) (ends : List ℕ) (sheet : ℕ) → sheet_strokes (map f xs) ends sheet ≡ map f (sheet_strokes xs ends sheet)
sheet_of_map f xs ends sheet =
    let n = length xs in
    rw (length-map xs f) (parts f xs (slice_index_or (0 ∷ ends) (sheet - 1) n) (slice_index_or ends (sheet - 1) n) (nat_eq sheet 0))

placed_sheets : (p : Placement) (pens : PenSet) (on : Page) (k : Corner) (page : Page) (xs : List Segment) (ends : List ℕ) (sheet : ℕ)
    → sheet_strokes (strokes_at p pens on k page xs) ends sheet ≡ strokes_at p pens on k page (sheet_strokes xs ends sheet)
placed_sheets Fitted pens on k page xs ends sheet = sheet_of_map (moved_if_selected pens on k page) xs ends sheet
placed_sheets Given pens on k page xs ends sheet = refl
placed_sheets Asked pens on k page xs ends sheet = refl
placed_sheets Unasked pens on k page xs ends sheet = refl
placed_sheets Blank pens on k page xs ends sheet = refl
placed_sheets TooLarge pens on k page xs ends sheet = refl

pub drawn_alike : (encoding : Encoding) (carousel : Carousel) (pens : PenSet) (place : Place) (plot : List ℕ) (sheet : ℕ)
    → sheet_strokes ((placed_rules (rules_with (Full 0 encoding) carousel) pens place).strokes place.page plot) ((placed_rules (rules_with (Full 0 encoding) carousel) pens place).ends place.page plot) sheet
    ≡ (placed_rules (rules_with (Full sheet encoding) carousel) pens place).strokes place.page plot
drawn_alike encoding carousel pens place plot sheet =
    let drawn = outcome_with encoding carousel place.drawn_on plot in
    placed_sheets place.placement pens place.drawn_on place.corner place.page (strokes_in drawn) (ends_in drawn) sheet

-- strokes that are moved are as many
as_many : (p : Placement) (pens : PenSet) (on : Page) (k : Corner) (page : Page) (xs : List Segment) → length (strokes_at p pens on k page xs) ≡ length xs
as_many Fitted pens on k page xs = length-map xs (moved_if_selected pens on k page)
as_many Given pens on k page xs = refl
as_many Asked pens on k page xs = refl
as_many Unasked pens on k page xs = refl
as_many Blank pens on k page xs = refl
as_many TooLarge pens on k page xs = refl

pub areas_alike : (encoding : Encoding) (carousel : Carousel) (pens : PenSet) (place : Place) (plot : List ℕ) (sheet : ℕ)
    → areas_of_sheet ((placed_rules (rules_with (Full 0 encoding) carousel) pens place).areas place.page plot) ((placed_rules (rules_with (Full 0 encoding) carousel) pens place).ends place.page plot)
    (length ((placed_rules (rules_with (Full 0 encoding) carousel) pens place).strokes place.page plot)) sheet
    ≡ (placed_rules (rules_with (Full sheet encoding) carousel) pens place).areas place.page plot
areas_alike encoding carousel pens place plot sheet =
    let drawn = outcome_with encoding carousel place.drawn_on plot in
    ap (λ (n : ℕ). areas_of_sheet (areas_of drawn) (ends_in drawn) n sheet) (as_many place.placement pens place.drawn_on place.corner place.page (strokes_in drawn))

-- images that are moved are moved on each sheet
of_moved : (f : ImageShape → ImageShape) (is : List ImageShape) (ends : List ℕ) (sheet : ℕ) → sheet_images (map f is) ends sheet ≡ map f (sheet_images is ends sheet)
of_moved f is ends sheet =
    let n = length is in
    let s = slice_index_or (0 ∷ ends) (sheet - 1) n in
    let e = slice_index_or ends (sheet - 1) n in
    rw (length-map is f) (elim (nat_eq sheet 0) as (λ b. (if b then map f is else drop s (take e (map f is))) ≡ map f (if b then is else drop s (take e is))) [
      | true ↦ refl
      | false ↦ ap (drop s) (take-map f e is) ∙ drop-map f s (take e is)
    ])

counted_moved : (on : Page) (k : Corner) (page : Page) (first : ℕ) (is : List ImageShape)
    → all_counted first (moved_images on k page is) ≡ moved_images on k page (all_counted first is)
counted_moved on k page first [] = refl
counted_moved on k page first (i ∷ is) = ap (λ (more : List ImageShape). counted first (moved_image on k page i) ∷ more) (counted_moved on k page first is)

moved_on_sheet : (on : Page) (k : Corner) (page : Page) (is : List ImageShape) (image_ends ends : List ℕ) (count sheet : ℕ)
    → images_of_sheet (moved_images on k page is) image_ends ends count sheet ≡ moved_images on k page (images_of_sheet is image_ends ends count sheet)
moved_on_sheet on k page is image_ends ends count sheet =
    let first = sheet_start ends count sheet in
    let here = sheet_images is image_ends sheet in
    let later : all_counted first (sheet_images (moved_images on k page is) image_ends sheet) ≡ moved_images on k page (all_counted first here) =
    ap (all_counted first) (of_moved (moved_image on k page) is image_ends sheet) ∙ counted_moved on k page first here in
    elim (nat_eq sheet 0) as (λ b. (if b then moved_images on k page is else all_counted first (sheet_images (moved_images on k page is) image_ends sheet))
    ≡ moved_images on k page (if b then is else all_counted first here)) [
      | true ↦ refl
      | false ↦ later
    ]

placed_images : (p : Placement) (on : Page) (k : Corner) (page : Page) (is : List ImageShape) (image_ends ends : List ℕ) (count sheet : ℕ)
    → images_of_sheet (images_at p on k page is) image_ends ends count sheet ≡ images_at p on k page (images_of_sheet is image_ends ends count sheet)
placed_images Fitted on k page is image_ends ends count sheet = moved_on_sheet on k page is image_ends ends count sheet
placed_images Given on k page is image_ends ends count sheet = refl
placed_images Asked on k page is image_ends ends count sheet = refl
placed_images Unasked on k page is image_ends ends count sheet = refl
placed_images Blank on k page is image_ends ends count sheet = refl
placed_images TooLarge on k page is image_ends ends count sheet = refl

pub images_alike : (encoding : Encoding) (carousel : Carousel) (pens : PenSet) (place : Place) (plot : List ℕ) (sheet : ℕ)
    → images_of_sheet ((placed_rules (rules_with (Full 0 encoding) carousel) pens place).images place.page plot)
    ((placed_rules (rules_with (Full 0 encoding) carousel) pens place).image_ends place.page plot) ((placed_rules (rules_with (Full 0 encoding) carousel) pens place).ends place.page plot)
    (length ((placed_rules (rules_with (Full 0 encoding) carousel) pens place).strokes place.page plot)) sheet
    ≡ (placed_rules (rules_with (Full sheet encoding) carousel) pens place).images place.page plot
images_alike encoding carousel pens place plot sheet =
    let drawn = outcome_with encoding carousel place.drawn_on plot in
    let moved = images_at place.placement place.drawn_on place.corner place.page (images_in drawn) in
    ap (λ (n : ℕ). images_of_sheet moved (image_ends_in drawn) (ends_in drawn) n sheet) (as_many place.placement pens place.drawn_on place.corner place.page (strokes_in drawn))
    ∙ placed_images place.placement place.drawn_on place.corner place.page (images_in drawn) (image_ends_in drawn) (ends_in drawn) (length (strokes_in drawn)) sheet

-- the page that a plot is drawn on is the same for each sheet
on_alike : (b : Bool) (encoding : Encoding) (carousel : Carousel) (given : Page) (plot : List ℕ) (sheet : ℕ) (p : Placement) (page : Page)
    → IsDrawnOn b (rules_with (Full 0 encoding) carousel) given plot p page → IsDrawnOn b (rules_with (Full sheet encoding) carousel) given plot p page
on_alike false encoding carousel given plot sheet p page h = h
on_alike true encoding carousel given plot sheet Asked page h = h
on_alike true encoding carousel given plot sheet Unasked page h = h
on_alike true encoding carousel given plot sheet Given page h = absurd h
on_alike true encoding carousel given plot sheet Fitted page h = absurd h
on_alike true encoding carousel given plot sheet Blank page h = absurd h
on_alike true encoding carousel given plot sheet TooLarge page h = absurd h

pub placed_alike : (c : PageChoice) (encoding : Encoding) (carousel : Carousel) (pens : PenSet) (given : Page) (plot : List ℕ) (place : Place) (sheet : ℕ) → c.margin ≡ None
    → IsPlaced c (rules_with (Full 0 encoding) carousel) pens given plot place → IsPlaced c (rules_with (Full sheet encoding) carousel) pens given plot place
placed_alike c encoding carousel pens given plot place sheet none placed =
    let by : IsPlacedBy None c (rules_with (Full 0 encoding) carousel) pens given plot place = subst (λ (m : Option ℕ). IsPlacedBy m c (rules_with (Full 0 encoding) carousel) pens given plot place) none placed in
    subst (λ (m : Option ℕ). IsPlacedBy m c (rules_with (Full sheet encoding) carousel) pens given plot place) (sym none)
    (on_alike c.asked encoding carousel given plot sheet place.placement place.drawn_on by.0, by.1, by.2)
