-- What a drawing has of the areas of its plot: none goes on where a sheet ends, or where a label begins or ends, and the edges of each
-- are alike, and lead round closed polygons.
use Rattle.std.proofs.Common.{◌≡◌, ℕ, ap, refl, subst, sym, true, List, [], Result, Ok, Err, length}
use Rattle.areas.specs.Shapes.{AreApart}
use Rattle.areas.specs.declared.area.Area.{Area}
use Rattle.carousel.specs.declared.carousel.Carousel.{Carousel}
use Rattle.character_sets.specs.declared.encoding.Encoding.{Encoding}
use Rattle.devices.specs.Sources.{SourceState}
use Rattle.directions.specs.declared.turn.Turn.{Turn}
use Rattle.directions.specs.declared.turn.Turn.TheVariants.{None, Quarter, Half, ThreeQuarters}
use Rattle.hpgl_plot.specs.declared.fault.PlotFault.{PlotFault}
use Rattle.full_text.specs.Cut.{full_cut}
use Rattle.labels.specs.Labels.{LabelShape}
use Rattle.labels.specs.Moves.{moved_label}
use Rattle.page_fit.specs.Moves.{moved, moved_stroke}
use Rattle.page_fit.specs.declared.around.Corner.{Corner}
use Rattle.picture_job.specs.declared.page_choice.PageChoice.{PageChoice}
use Rattle.picture_job.specs.declared.picture.Picture.{Picture}
use Rattle.picture_job.specs.declared.reading.Reading.{Reading}
use Rattle.picture_job.specs.declared.reading.Reading.TheVariants.{Core, Full}
use Rattle.plot_page.specs.Segments.{Segment}
use Rattle.plot_page.specs.declared.page.Page.{Page}
use Rattle.plot_page.specs.declared.pens.PenSet.{PenSet}
use Rattle.turning.specs.Turns.{spot, turned_label, turned_place, turned_segment}
use Rattle.full_plot.specs.Drawings.{areas_of, ends_in, finished, full_at_start_with, full_runs, outcome_with, strokes_in}
use Rattle.full_plot.specs.Labels.{labels_of}
use Rattle.full_plot.specs.Worlds.{FullWorld}
use Rattle.full_plot.proofs.BesideLabels.{labels_beside}
use Rattle.full_plot.proofs.Later.{areas_alike, areas_apart, areas_within, no_area_at_ends}
use Rattle.full_plot.proofs.Finished.{finishes}
use Rattle.full_plot.proofs.RoundAreas.{areas_round}
use Rattle.conversion.specs.Drawings.{IsDrawn, place_of}
use Rattle.conversion.specs.Kinds.{HasDrawnTurned, HasTurned, pens_of}
use Rattle.conversion.specs.Placements.{Place, labels_at, strokes_at}
use Rattle.conversion.specs.Rules.{rules_with}
use Rattle.conversion.specs.Sheets.{AreWholeOn}
use Rattle.conversion.specs.Turned.{AreTurned}
use Rattle.conversion.specs.declared.lines.Lines.{Lines}
use Rattle.conversion.specs.declared.place.Drawing.{Drawing}
use Rattle.conversion.specs.declared.placement.Placement.{Placement}
use Rattle.conversion.specs.declared.placement.Placement.TheVariants.{Given, Asked, Unasked, Fitted, Blank, TooLarge}
use Rattle.conversion.proofs.MovedEdges.{at}
use Rattle.conversion.proofs.WholeAreas.{AreSolid, IsMove, labels_moved, solid_as, solid_changed, solid_kept, solid_on_sheet, without_areas}

-- what a plot draws, which is nothing if it is refused
record AreOfPlot (strokes : List Segment) (areas : List Area) (ends : List ℕ) (ls : List LabelShape) : Type 0 where
  apart : AreApart 0 areas
  solid : AreSolid strokes areas ends ls

-- of the items of a plot, before the image that is open closes
of_items : (encoding : Encoding) (carousel : Carousel) (page : Page) (plot : List ℕ) (w : FullWorld)
    → full_runs (full_at_start_with encoding carousel page) (full_cut plot) ≡ Ok w
    → AreOfPlot w.core.kept w.areas w.ends (labels_of encoding carousel page plot)
of_items encoding carousel page plot w is =
    let items = full_cut plot in
    record {
      apart = areas_apart encoding carousel page items w is;
      solid = record {
        ends_beside = no_area_at_ends encoding carousel page items w is;
        labels_beside = labels_beside true encoding carousel page plot w is;
        within = areas_within encoding carousel page items w is;
        solid = λ n d inside. (
          areas_round encoding carousel page items w is n d inside,
          areas_alike encoding carousel page items w is n d inside,
        );
      };
    }

finished_so : (encoding : Encoding) (carousel : Carousel) (page : Page) (plot : List ℕ) (q : Result FullWorld PlotFault) (v : FullWorld)
    → full_runs (full_at_start_with encoding carousel page) (full_cut plot) ≡ q → finished (length plot) q ≡ Ok v
    → AreOfPlot v.core.kept v.areas v.ends (labels_of encoding carousel page plot)
finished_so encoding carousel page plot (Err e) v is end = absurd (let wrong : finished (length plot) (Err e) ≡ Err e = refl in cc)
finished_so encoding carousel page plot (Ok w) v is end =
    subst (λ (u : FullWorld). AreOfPlot u.core.kept u.areas u.ends (labels_of encoding carousel page plot)) (sym (finishes w v (length plot) end))
    (of_items encoding carousel page plot w is)

of_plot : (encoding : Encoding) (carousel : Carousel) (page : Page) (plot : List ℕ) (r : Result FullWorld PlotFault)
    → outcome_with encoding carousel page plot ≡ r → AreOfPlot (strokes_in r) (areas_of r) (ends_in r) (labels_of encoding carousel page plot)
of_plot encoding carousel page plot (Err e) is = record {
  apart = tt;
  solid = without_areas [] [] (labels_of encoding carousel page plot);
}
of_plot encoding carousel page plot (Ok v) is =
    finished_so encoding carousel page plot (full_runs (full_at_start_with encoding carousel page) (full_cut plot)) v refl is

-- what is drawn of it that is read so
by_rules : (reading : Reading) (carousel : Carousel) (page : Page) (plot : List ℕ)
    → AreSolid ((rules_with reading carousel).strokes page plot) ((rules_with reading carousel).areas page plot)
    ((rules_with reading carousel).ends page plot) ((rules_with reading carousel).labels page plot)
by_rules Core carousel page plot = without_areas _ [] []
by_rules (Full sheet encoding) carousel page plot =
    let r = outcome_with encoding carousel page plot in
    let all = of_plot encoding carousel page plot r refl in
    solid_on_sheet (strokes_in r) (areas_of r) (ends_in r) (labels_of encoding carousel page plot) sheet all.apart all.solid

-- a stroke with the ends of another
abbrev with_ends : Segment → Segment → Segment
with_ends s t = record s { ax = t.ax; ay = t.ay; bx = t.bx; by = t.by }

-- where its picture lies
moved_so : (on : Page) (corner : Corner) (page : Page) → IsMove (moved_stroke on corner page)
moved_so on corner page = record {
  takes = record { to = λ x y. at (moved corner.x x) (moved corner.y y); first = λ s. refl; last = λ s. refl };
  width = λ s. refl;
  looks = λ s t h. ap (λ (u : Segment). with_ends (moved_stroke on corner page u) (moved_stroke on corner page t)) h;
}

placed : (p : Placement) (pens : PenSet) (on : Page) (corner : Corner) (page : Page) (strokes : List Segment) (areas : List Area) (ends : List ℕ)
    (ls : List LabelShape) → AreSolid strokes areas ends ls → AreSolid (strokes_at p pens on corner page strokes) areas ends (labels_at p corner ls)
placed Fitted pens on corner page strokes areas ends ls h =
    labels_moved (moved_label corner) (strokes_at Fitted pens on corner page strokes) areas ends ls (λ l beside. beside)
    (solid_changed pens (moved_stroke on corner page) (moved_so on corner page) strokes areas ends ls h)
placed Given pens on corner page strokes areas ends ls h = h
placed Asked pens on corner page strokes areas ends ls h = h
placed Unasked pens on corner page strokes areas ends ls h = h
placed Blank pens on corner page strokes areas ends ls h = h
placed TooLarge pens on corner page strokes areas ends ls h = h

abbrev pub OfLines : Lines → Type 0
OfLines lines = AreSolid lines.strokes.items lines.areas.items lines.ends.items lines.labels.items

of_drawn : (reading : Reading) (carousel : Carousel) (choice : PageChoice) (pens : PenSet) (given : Page) (input : List ℕ) (before after : SourceState)
    (drawn : Drawing) → IsDrawn (rules_with reading carousel) choice pens given input before after drawn → OfLines drawn.lines
of_drawn reading carousel choice pens given input before after drawn h =
    let place : Place = place_of drawn in
    let lines = h.lines in
    solid_as lines.strokes_are lines.areas_are lines.ends_are lines.labels_are
    (solid_kept drawn.lines.labelled _ _ _ _
    (placed place.placement pens place.drawn_on place.corner drawn.page _ _ _ _ (by_rules reading carousel place.drawn_on input)))

-- after a turn
turned_so : (turn : Turn) (page : Page) → IsMove (turned_segment turn page)
turned_so turn page = record {
  takes = record { to = λ x y. turned_place turn page (spot x y); first = λ s. refl; last = λ s. refl };
  width = λ s. refl;
  looks = λ s t h. ap (λ (u : Segment). with_ends (turned_segment turn page u) (turned_segment turn page t)) h;
}

of_turned : (pens : PenSet) (turn : Turn) (page : Page) (was is : Lines) → AreTurned pens turn page was is → OfLines was → OfLines is
of_turned pens turn page was is h solid =
    solid_as h.strokes_are h.areas_are h.ends_are h.labels_are
    (labels_moved (turned_label turn page) _ was.areas.items was.ends.items was.labels.items (λ l beside. beside)
    (solid_changed pens (turned_segment turn page) (turned_so turn page) was.strokes.items was.areas.items was.ends.items was.labels.items solid))

module _ (reading : Reading) (carousel : Carousel) (choice : PageChoice) (picture : Picture) (before after : SourceState) where
  by_turn : (turn : Turn) (drawing : Drawing) → HasTurned turn (rules_with reading carousel) choice picture before after (Ok drawing) → OfLines drawing.lines
  by_turn turn drawing h =
      let was : Drawing = h.0 in
      of_turned (pens_of picture) turn was.page was.lines drawing.lines h.2.lines_are
      (of_drawn reading carousel choice _ _ h.1.draws.input before after was h.1.draws.draws)

  pub of_drawing : (turn : Turn) (drawing : Drawing) → HasDrawnTurned turn (rules_with reading carousel) choice picture before after (Ok drawing)
      → OfLines drawing.lines
  of_drawing None drawing h = of_drawn reading carousel choice _ _ h.draws.input before after drawing h.draws.draws
  of_drawing Quarter drawing h = by_turn Quarter drawing h
  of_drawing Half drawing h = by_turn Half drawing h
  of_drawing ThreeQuarters drawing h = by_turn ThreeQuarters drawing h

-- what is drawn of each sheet
pub of_sheets : (drawing : Drawing) → OfLines drawing.lines → (sheet : ℕ) → AreWholeOn drawing sheet
of_sheets drawing h sheet =
    let lines : Lines = drawing.lines in
    let one = solid_on_sheet lines.strokes.items lines.areas.items lines.ends.items lines.labels.items sheet lines.apart h in
    record {
      ends_beside = one.ends_beside;
      labels_beside = one.labels_beside;
      round = λ n d within. (one.solid n d within).0;
      alike = λ n d within. (one.solid n d within).1;
    }
