-- A drawing as contracts see it, and what a refusal says.
use Rattle.std.specs.Prelude.{◌≡◌, List, Option, Some, ⊤}
use Rattle.carousel.specs.declared.carousel.Carousel.{Carousel}
use Rattle.hpgl_text.specs.Shapes.{ItemShape}
use Rattle.plot_page.specs.declared.page.Page.{Page}
use Rattle.plot_page.specs.Segments.{Segment}
use Rattle.hpgl_plot.specs.declared.fault.PlotFault.{PlotFault}
use Rattle.hpgl_plot.specs.declared.fault.PlotFault.TheVariants.{Memory, OffRange, TooManyStrokes}
use Rattle.hpgl_plot.specs.declared.note.Note.{Note}
use Rattle.hpgl_plot.specs.Strokes.{refusal, refusal_with}

-- what a plot draws: its strokes in drawing order, and the notes on it
pub record Drawing : Type 0 where
  pub strokes : List Segment
  pub notes : List Note

-- memory aside, the fault is the plot's refusal
abbrev pub IsRefusal : PlotFault → Option PlotFault → Type 0
IsRefusal Memory refused = ⊤
IsRefusal (OffRange at) refused = refused ≡ Some (OffRange at)
IsRefusal (TooManyStrokes at) refused = refused ≡ Some (TooManyStrokes at)

abbrev pub Explains : PlotFault → Page → List ItemShape → Type 0
Explains fault page items = IsRefusal fault (refusal page items)

-- the same with the pens of a carousel
abbrev pub ExplainsWith : Carousel → PlotFault → Page → List ItemShape → Type 0
ExplainsWith carousel fault page items = IsRefusal fault (refusal_with carousel page items)
