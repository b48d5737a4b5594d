-- What reading a plot and drawing it on the page that was chosen answers.
use Rattle.std.specs.Prelude.{◌≡◌, ℕ, ◌+◌, List, Result, Ok, Err, Option, None, Some, IfOk, ⊤}
use Rattle.std.specs.Io.KnownBytes.{Consumes}
use Rattle.hpgl_plot.specs.declared.fault.PlotFault.{PlotFault}
use Rattle.hpgl_plot.specs.declared.fault.PlotFault.TheVariants as plot
use Rattle.plot_page.specs.declared.page.Page.{Page}
use Rattle.conversion.specs.Rules.{Rules}
use Rattle.plot_page.specs.declared.pens.PenSet.{PenSet}
use Rattle.picture_job.specs.declared.page_choice.PageChoice.{PageChoice}
use Rattle.full_plot.specs.Labels.{labels_kept}
use Rattle.conversion.specs.Placements.{IsFirstPage, IsPlaced, Place, images_at, labels_at, page_reported, placed_rules, strokes_at}
use Rattle.conversion.specs.declared.lines.Lines.{Lines}
use Rattle.conversion.specs.declared.drawing.ReadPlot.{ReadPlot}
use Rattle.conversion.specs.declared.place.Drawing.{Drawing}
use Rattle.conversion.specs.Readings.{WasRead, WasTooLong}
use Rattle.devices.specs.Sources.{SourceState}
use Rattle.conversion.specs.declared.fault.Fault.{Fault}
use Rattle.conversion.specs.declared.fault.Fault.TheVariants.{TooLong, Memory, Plot, Read}

-- memory aside, the fault is the plot's refusal
abbrev pub IsReason : PlotFault → Option PlotFault → Type 0
IsReason plot.Memory refusal = ⊤
IsReason fault refusal = refusal ≡ Some fault

-- memory aside, the fault is the refusal of the plot for its first page
abbrev pub IsReasonOnFirst : PageChoice → Rules → Page → List ℕ → PlotFault → Type 0
IsReasonOnFirst choice rules given plot fault =
    (page : Page) × IsFirstPage choice rules given plot page × IsReason fault (rules.refusal page plot)

-- the plot is accepted for the page, and these are the strokes that it draws there, the areas and images among them, its labels,
-- if they are kept, and how many notes there are on it
pub record AreLinesOf (rules : Rules) (page : Page) (plot : List ℕ) (lines : Lines) : Type 0 where
  pub accepted : rules.refusal page plot ≡ None
  pub strokes_are : lines.strokes.items ≡ rules.strokes page plot
  pub areas_are : lines.areas.items ≡ rules.areas page plot
  pub images_are : lines.images.items ≡ rules.images page plot
  pub told_are : lines.told.items ≡ rules.told page plot
  pub notes_are : lines.notes ≡ rules.notes page plot
  pub sheets_are : lines.sheets ≡ rules.sheets page plot
  pub ends_are : lines.ends.items ≡ rules.ends page plot
  pub image_ends_are : lines.image_ends.items ≡ rules.image_ends page plot
  pub labels_are : lines.labels.items ≡ labels_kept lines.labelled (rules.labels page plot)

-- where its picture lies
abbrev pub place_of : Drawing → Place
place_of drawn = record {
  placement = drawn.placement;
  drawn_on = drawn.drawn_on;
  corner = drawn.corner;
  page = drawn.page;
}

-- lines whose strokes are those of a picture that lies there
pub record AreMoved (pens : PenSet) (lines : Lines) (place : Place) (moved : Lines) : Type 0 where
  pub strokes_are : moved.strokes.items
      ≡ strokes_at place.placement pens place.drawn_on place.corner place.page lines.strokes.items
  pub areas_are : moved.areas.items ≡ lines.areas.items
  pub images_are : moved.images.items
      ≡ images_at place.placement place.drawn_on place.corner place.page lines.images.items
  pub told_are : moved.told.items ≡ lines.told.items
  pub notes_are : moved.notes ≡ lines.notes
  pub sheets_are : moved.sheets ≡ lines.sheets
  pub ends_are : moved.ends.items ≡ lines.ends.items
  pub image_ends_are : moved.image_ends.items ≡ lines.image_ends.items
  pub labels_are : moved.labels.items ≡ labels_at place.placement place.corner lines.labels.items
  pub labelled_are : moved.labelled ≡ lines.labelled

-- the plot was read whole, and this is what it draws, where its picture lies
pub record IsDrawn (rules : Rules) (choice : PageChoice) (pens : PenSet) (given : Page) (input : List ℕ)
    (before after : SourceState) (drawn : Drawing) : Type 0 where
  pub read : WasRead input before after
  pub placed : IsPlaced choice rules pens given input (place_of drawn)
  pub lines : AreLinesOf (placed_rules rules pens (place_of drawn)) drawn.page input drawn.lines
  pub named : drawn.named ≡ page_reported (place_of drawn)

-- the plot was read whole and is refused for the page
pub record IsNotDrawn (rules : Rules) (page : Page) (input : List ℕ) (before after : SourceState)
    (fault : PlotFault) : Type 0 where
  pub read : WasRead input before after
  pub refused : rules.refusal page input ≡ Some fault

-- what each answer says of what was read; want of memory says only that the source did not fail
abbrev pub Draws : Rules → PageChoice → PenSet → Page → List ℕ → SourceState → SourceState → Result Drawing Fault → Type 0
Draws rules choice pens given input before after (Ok drawn) = IsDrawn rules choice pens given input before after drawn
Draws rules choice pens given input before after (Err TooLong) = WasTooLong input before after
Draws rules choice pens given input before after (Err Read) = after.faults ≡ before.faults + 1
Draws rules choice pens given input before after (Err Memory) = after.faults ≡ before.faults
Draws rules choice pens given input before after (Err (Plot fault)) =
    (page : Page) × IsFirstPage choice rules given input page × IsNotDrawn rules page input before after fault
Draws rules choice pens given input before after (Err _) = ⊥

-- a drawing: what it took from the source, and its answer
pub record HasDrawn (rules : Rules) (choice : PageChoice) (pens : PenSet) (given : Page) (before after : SourceState)
    (answer : Result Drawing Fault) : Type 0 where
  pub input : List ℕ
  pub taken : Consumes before.left after.left input
  pub draws : Draws rules choice pens given input before after answer

-- the same of a plot whose text is kept
abbrev pub drawing_of : Result ReadPlot Fault → Result Drawing Fault
drawing_of (Ok read) = Ok read.drawing
drawing_of (Err fault) = Err fault

pub record HasReadAndDrawn (rules : Rules) (choice : PageChoice) (pens : PenSet) (given : Page) (before after : SourceState)
    (answer : Result ReadPlot Fault) : Type 0 where
  pub drawn : HasDrawn rules choice pens given before after (drawing_of answer)
  pub text : IfOk answer (λ read. read.text.items ≡ drawn.input)
