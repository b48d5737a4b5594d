-- Images on a page.
use Rattle.std.specs.Prelude.{ℕ, ◌-◌, List, drop, map, take}
use Rattle.directions.specs.declared.turn.Turn.{Turn}
use Rattle.directions.specs.declared.turn.Turn.TheVariants as turn
use Rattle.plot_page.specs.declared.page.Page.{Page}
use Rattle.plot_page.specs.Segments.{Segment}
use Rattle.raster_graphics.specs.declared.image.Image.{Image}
use Rattle.page_images.specs.Frames.{frame}

-- the dots of an image, where it lies, how it is turned about its first corner, and how many strokes are drawn before it
pub record ImageShape : Type 0 where
  pub image : Image
  pub frame : Segment
  pub turn : Turn
  pub before : ℕ

-- an image as it is drawn on a page
abbrev pub page_image : Page → Image → ℕ → ImageShape
page_image page image before = record { image = image; frame = frame page image; turn = turn.None; before = before }

-- with strokes counted from the first one of a sheet, before which there are so many
abbrev pub counted : ℕ → ImageShape → ImageShape
counted first i = record i { before = i.before - first }

abbrev pub all_counted : ℕ → List ImageShape → List ImageShape
all_counted first images = map (counted first) images

-- the images after the first `from`, up to number `end`
abbrev pub images_between : ℕ → ℕ → List ImageShape → List ImageShape
images_between from end images = drop from (take end images)
