-- Which page a plot is drawn on, and which page its picture shows.
use Rattle.std.specs.Prelude.{◌≡◌, ◌&&◌, ℕ, Bool, true, false, List, Option, Some, None, pos, ◌-ℤ◌}
use Rattle.page_images.specs.PageImages.{ImageShape}
use Rattle.image_places.specs.Extents.{with_images}
use Rattle.image_places.specs.Moves.{are_images_movable, moved_images}
use Rattle.rows.specs.Contents.{ContentList}
use Rattle.labels.specs.Labels.{LabelShape}
use Rattle.labels.specs.Moves.{moved_labels}
use Rattle.plot_page.specs.Segments.{Segment}
use Rattle.plot_page.specs.declared.page.Page.{Page}
use Rattle.plot_page.specs.declared.pens.PenSet.{PenSet}
use Rattle.page_fit.specs.Around.{corner_around, sides_around, sides_of}
use Rattle.page_fit.specs.Shapes.{shapes_extent}
use Rattle.page_fit.specs.Moves.{are_movable, moved_strokes}
use Rattle.page_fit.specs.declared.around.Corner.{Corner}
use Rattle.page_fit.specs.declared.extent.Extent.{Extent}
use Rattle.plot_report.specs.Report.{report_page}
use Rattle.plot_report.specs.declared.report_page.ReportPage.{ReportPage}
use Rattle.picture_job.specs.declared.page_choice.PageChoice.{PageChoice}
use Rattle.conversion.specs.Rules.{Rules, contents_by}
use Rattle.conversion.specs.declared.lines.Lines.{Lines}
use Rattle.conversion.specs.declared.placement.Placement.{Placement}
use Rattle.conversion.specs.declared.placement.Placement.TheVariants.{Given, Asked, Unasked, Fitted, Blank, TooLarge}

-- a plot is drawn on the page that it asks for, or on the given one if it asks for none
abbrev pub IsAsked : Rules → Page → List ℕ → Placement → Page → Type 0
IsAsked rules given plot Asked page = rules.asked given plot ≡ Some (sides_of page)
IsAsked rules given plot Unasked page = (page ≡ given) × (rules.asked given plot ≡ None)
IsAsked rules given plot _ page = ⊥

-- the page that a plot is drawn on, and why, by whether it may ask for one
abbrev pub IsDrawnOn : Bool → Rules → Page → List ℕ → Placement → Page → Type 0
IsDrawnOn true rules given plot placement page = IsAsked rules given plot placement page
IsDrawnOn false rules given plot placement page = (placement ≡ Given) × (page ≡ given)

-- the page that a plot is drawn on
abbrev pub IsFirstPage : PageChoice → Rules → Page → List ℕ → Page → Type 0
IsFirstPage choice rules given plot page = (placement : Placement) × IsDrawnOn choice.asked rules given plot placement page

-- where a picture lies: why it lies there, the page that its plot is drawn on, the corner of the page that the picture shows,
-- in plotter units from that of the page that the plot is drawn on, and this page
pub record Place : Type 0 where
  pub placement : Placement
  pub drawn_on : Page
  pub corner : Corner
  pub page : Page

abbrev pub no_corner : Corner
no_corner = record { x = pos 0; y = pos 0 }

-- a picture that shows the page that its plot is drawn on
abbrev pub place_on : Placement → Page → Place
place_on placement page = record { placement = placement; drawn_on = page; corner = no_corner; page = page }

-- what is drawn in all
abbrev pub contents_of : Lines → ContentList
contents_of lines = record {
  shapes = record { strokes = lines.strokes.items; areas = lines.areas.items };
  images = lines.images.items;
}

-- all strokes of the selected pens, and all images, can be moved to a page with this corner
abbrev pub can_be_moved : PenSet → Corner → Lines → Bool
can_be_moved pens corner lines = are_movable pens corner lines.strokes.items && are_images_movable corner lines.images.items

-- shapes and images that are seen so far have a page around them whose sides are no longer than the longest, with this margin: its
-- corner, and the page. All of them can be moved to it
pub record IsAround (longest : ℕ) (pens : PenSet) (margin : ℕ) (contents : ContentList) (e : Extent) (corner : Corner)
    (page : Page) : Type 0 where
  pub corner_is : corner ≡ corner_around margin e
  pub sides : sides_around longest margin e ≡ Some (sides_of page)
  pub movable : are_movable pens corner contents.shapes.strokes ≡ true
  pub images_movable : are_images_movable corner contents.images ≡ true

-- they have none
abbrev pub HasNoPage : ℕ → PenSet → ℕ → ContentList → Extent → Type 0
HasNoPage longest pens margin contents e = (corner : Corner) (page : Page) → IsAround longest pens margin contents e corner page → ⊥

-- how far the shapes of the selected pens, and images, are seen; None if nothing is
abbrev pub contents_extent : PenSet → Page → ContentList → Option Extent
contents_extent pens page contents = with_images page (shapes_extent pens page contents.shapes) contents.images

-- a picture of what is drawn on a page shows the page around what the selected pens draw and the images, or, for one of two
-- reasons, the page that they are drawn on
abbrev pub IsFitted : ℕ → PenSet → ℕ → Page → ContentList → Placement → Corner → Page → Type 0
IsFitted longest pens margin drawn_on contents Fitted corner page =
    (e : Extent) × (contents_extent pens drawn_on contents ≡ Some e) × IsAround longest pens margin contents e corner page
IsFitted longest pens margin drawn_on contents Blank corner page =
    (corner ≡ no_corner) × (page ≡ drawn_on) × (contents_extent pens drawn_on contents ≡ None)
IsFitted longest pens margin drawn_on contents TooLarge corner page =
    (corner ≡ no_corner) × (page ≡ drawn_on)
    × ((e : Extent) × (contents_extent pens drawn_on contents ≡ Some e) × HasNoPage longest pens margin contents e)
IsFitted longest pens margin drawn_on contents _ corner page = ⊥

-- a picture lies there, by the margin if its page is to be fitted; else it shows the page that its plot is drawn on
abbrev pub IsPlacedBy : Option ℕ → PageChoice → Rules → PenSet → Page → List ℕ → Place → Type 0
IsPlacedBy (Some margin) choice rules pens given plot place =
    IsFirstPage choice rules given plot place.drawn_on
    × IsFitted rules.longest pens margin place.drawn_on (contents_by rules place.drawn_on plot) place.placement place.corner place.page
IsPlacedBy None choice rules pens given plot place =
    IsDrawnOn choice.asked rules given plot place.placement place.drawn_on
    × (place.corner ≡ no_corner) × (place.page ≡ place.drawn_on)

-- the picture of a plot that is accepted for the page that it is drawn on lies there
abbrev pub IsPlaced : PageChoice → Rules → PenSet → Page → List ℕ → Place → Type 0
IsPlaced choice rules pens given plot place = IsPlacedBy choice.margin choice rules pens given plot place

-- the strokes of a picture: moved, if it shows the page around them
abbrev pub strokes_at : Placement → PenSet → Page → Corner → Page → List Segment → List Segment
strokes_at Fitted pens drawn_on corner page strokes = moved_strokes pens drawn_on corner page strokes
strokes_at _ pens drawn_on corner page strokes = strokes

-- and its images
abbrev pub images_at : Placement → Page → Corner → Page → List ImageShape → List ImageShape
images_at Fitted drawn_on corner page images = moved_images drawn_on corner page images
images_at _ drawn_on corner page images = images

-- and its labels
abbrev pub labels_at : Placement → Corner → List LabelShape → List LabelShape
labels_at Fitted corner labels = moved_labels corner labels
labels_at _ corner labels = labels

-- the rules of a picture that lies there: the plot is drawn on its page, and its strokes, images and labels are moved
abbrev pub placed_rules : Rules → PenSet → Place → Rules
placed_rules rules pens place = record {
  strokes = λ page plot.
      strokes_at place.placement pens place.drawn_on place.corner page (rules.strokes place.drawn_on plot);
  areas = λ page plot. rules.areas place.drawn_on plot;
  refusal = λ page plot. rules.refusal place.drawn_on plot;
  told = λ page plot. rules.told place.drawn_on plot;
  notes = λ page plot. rules.notes place.drawn_on plot;
  sheets = λ page plot. rules.sheets place.drawn_on plot;
  ends = λ page plot. rules.ends place.drawn_on plot;
  image_ends = λ page plot. rules.image_ends place.drawn_on plot;
  asked = rules.asked;
  longest = rules.longest;
  images = λ page plot. images_at place.placement place.drawn_on place.corner page (rules.images place.drawn_on plot);
  labels = λ page plot. labels_at place.placement place.corner (rules.labels place.drawn_on plot);
}

-- the page that a report on a picture names: the corner of the page around strokes lies left of (0, 0) and below it as far as
-- that of the page that they are drawn on does, less what it lies right of that one and above it
abbrev pub reported_at : Placement → Page → Corner → Page → ReportPage
reported_at Fitted drawn_on corner page = record {
  width = page.width;
  height = page.height;
  left = pos drawn_on.left -ℤ corner.x;
  below = pos drawn_on.below -ℤ corner.y;
}
reported_at _ drawn_on corner page = report_page page

abbrev pub page_reported : Place → ReportPage
page_reported place = reported_at place.placement place.drawn_on place.corner place.page
