-- A drawing after a turn of the page that it shows.
use Rattle.std.specs.Prelude.{◌≡◌, ◌&&◌, Bool}
use Rattle.directions.specs.declared.turn.Turn.{Turn}
use Rattle.plot_page.specs.declared.page.Page.{Page}
use Rattle.plot_page.specs.declared.pens.PenSet.{PenSet}
use Rattle.image_places.specs.Turns.{are_images_turnable, turned_images}
use Rattle.turning.specs.Turns.{are_turnable, turned_labels, turned_page, turned_strokes}
use Rattle.conversion.specs.declared.lines.Lines.{Lines}
use Rattle.conversion.specs.declared.place.Drawing.{Drawing}

-- lines after a turn of their page: the strokes of the selected pens are turned, the images, and the labels; areas have the same numbers
pub record AreTurned (pens : PenSet) (turn : Turn) (page : Page) (before after : Lines) : Type 0 where
  pub strokes_are : after.strokes.items ≡ turned_strokes pens turn page before.strokes.items
  pub labels_are : after.labels.items ≡ turned_labels turn page before.labels.items
  pub areas_are : after.areas.items ≡ before.areas.items
  pub images_are : after.images.items ≡ turned_images turn page before.images.items
  pub told_are : after.told.items ≡ before.told.items
  pub notes_are : after.notes ≡ before.notes
  pub sheets_are : after.sheets ≡ before.sheets
  pub ends_are : after.ends.items ≡ before.ends.items
  pub image_ends_are : after.image_ends.items ≡ before.image_ends.items
  pub labelled_are : after.labelled ≡ before.labelled

-- a drawing after the turn: it shows the turned page; what is said of the page that its plot is drawn on stays
pub record IsTurned (pens : PenSet) (turn : Turn) (before after : Drawing) : Type 0 where
  pub page_is : after.page ≡ turned_page turn before.page
  pub lines_are : AreTurned pens turn before.page before.lines after.lines
  pub placement_is : after.placement ≡ before.placement
  pub drawn_on_is : after.drawn_on ≡ before.drawn_on
  pub corner_is : after.corner ≡ before.corner
  pub named_is : after.named ≡ before.named
  pub counts_is : after.counts ≡ before.counts

-- all strokes of the selected pens, and all images, are in range after the turn
abbrev pub can_be_turned : PenSet → Turn → Drawing → Bool
can_be_turned pens turn drawing =
    are_turnable pens turn drawing.page drawing.lines.strokes.items && are_images_turnable turn drawing.page drawing.lines.images.items
