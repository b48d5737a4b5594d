-- Items of core have the same effect in both profiles; the sheets make up the plot; polygon mode draws nothing.
use Rattle.std.specs.Prelude.{◌≡◌, ℕ, ℤ, ◌^◌, ◌<◌, nat_lt, Bool, true, false, IsTrue, not, ◌&&◌, List, [], ◌∷◌, length}
use Rattle.std.specs.Prelude.{Option, Some, None, Result, Ok, Err}
use Rattle.std.specs.List.{All, list_all, flat_map, range_with_len}
use Rattle.character_sets.specs.Ascii.{reads_ascii}
use Rattle.character_sets.specs.declared.encoding.Encoding.{Encoding}
use Rattle.lettering.specs.CoreTexts.{is_core_byte}
use Rattle.carousel.specs.Carousels.{empty}
use Rattle.carousel.specs.declared.carousel.Carousel.{Carousel}
use Rattle.labels.specs.Labels.{AreInOrder}
use Rattle.plot_page.specs.Segments.{Segment}
use Rattle.plot_page.specs.declared.page.Page.{Page}
use Rattle.plot_page.specs.declared.stroke.TheConstants.{FARTHEST_END, FARTHEST_PLACE}
use Rattle.hpgl_text.specs.Shapes.{ItemShape, BodyShape, Params, Further, DamagedMoves, DamagedCurves, Escape, FormFeed, Label, Terminator, Kept, Symbol, Known}
use Rattle.hpgl_text.specs.declared.further.Further.TheVariants.{BeginPlot, BezierAbsolute, BezierRelative, UserCharacter}
use Rattle.hpgl_text.specs.declared.instruction.Instruction.TheVariants.{Initialize, PenUp, PenDown, PlotAbsolute, PlotRelative}
use Rattle.plot_settings.specs.Meanings.{Load, Step}
use Rattle.plot_settings.specs.Slants.{is_off_axis}
use Rattle.hpgl_plot.specs.declared.note.NoteKind.TheVariants.{Bad}
use Rattle.hpgl_plot.specs.declared.fault.PlotFault.{PlotFault}
use Rattle.hpgl_plot.specs.Machine as core
use Rattle.hpgl_plot.specs.Strokes.{strokes, strokes_with, refusal_after}
use Rattle.hpgl_plot.specs.Notes as noting
use Rattle.full_settings.specs.Characters.{usual_characters}
use Rattle.full_plot.specs.Drawings.{finished, full_at_start, full_at_start_with, full_runs, outcome_with, refusal_in}
use Rattle.full_plot.specs.Drawings.{strokes_in, ends_in, areas_of, images_in, image_ends_in, of_sheet, sheet_count}
use Rattle.full_plot.specs.Worlds.{FullWorld}
use Rattle.full_notes.specs.Notes.{body_noted, context_after, notes_told}
use Rattle.full_plot.specs.Items.{taken}
use Rattle.full_plot.specs.Labels.{labels_of}

-- what only the profile full reads is not of core, nor is a DI along no axis, or a terminator that is printed; nor is a
-- label with a small letter, a byte over 127, BS, HT, SO or SI; nor one of more than 2^26 bytes, which only the profile
-- full refuses: no plot has one, since it has at most so many bytes itself
abbrev pub is_core_label : List ℕ → Bool
is_core_label text = not (nat_lt (2 ^ 26) (length text)) && list_all is_core_byte text

abbrev pub is_core_body : BodyShape → Bool
is_core_body (Params instruction ns) = not (is_off_axis instruction ns)
is_core_body (Further f ns) = false
is_core_body (Label text) = is_core_label text
is_core_body (Terminator terminator) = not terminator.is_printed
is_core_body (DamagedMoves moves ns) = false
is_core_body (DamagedCurves relative ns) = false
is_core_body (Escape bytes) = false
is_core_body FormFeed = false
is_core_body (Kept bytes) = false
is_core_body (Symbol byte) = false
is_core_body Known = false
is_core_body _ = true

abbrev pub IsCoreItem : ItemShape → Type 0
IsCoreItem i = is_core_body i.body ≡ true

-- what core has of a plot in the profile full
abbrev pub core_part : Result FullWorld PlotFault → Result core.World PlotFault
core_part (Ok w) = Ok w.core
core_part (Err fault) = Err fault

-- one item after another
abbrev pub CoreRunsAsInCore : Type 0
CoreRunsAsInCore = (page : Page) (items : List ItemShape) → All IsCoreItem items
    → core_part (full_runs (full_at_start page) items) ≡ core.runs (core.far_start empty page) items

-- the whole of a plot: it has this refusal, or else these strokes, on one sheet; no areas, and no images
abbrev pub Draws : Result FullWorld PlotFault → Option PlotFault → List Segment → Type 0
Draws r refused drawn =
    (refusal_in r ≡ refused) × (refused ≡ None → strokes_in r ≡ drawn) × (ends_in r ≡ []) × (areas_of r ≡ []) × (images_in r ≡ [])

-- the refusal of a plot of items of core where places lie as far as a number leads
abbrev pub far_refusal_with : Carousel → Page → List ItemShape → Option PlotFault
far_refusal_with carousel page items = refusal_after FARTHEST_END page (Load carousel ∷ []) 0 items

abbrev pub far_refusal : Page → List ItemShape → Option PlotFault
far_refusal page items = refusal_after FARTHEST_END page [] 0 items

-- what core accepts, with or without pens that are loaded before, has none
abbrev pub CoreAcceptsNoMore : Type 0
CoreAcceptsNoMore = (page : Page) (before : List Step) (items : List ItemShape)
    → refusal_after FARTHEST_PLACE page before 0 items ≡ None → refusal_after FARTHEST_END page before 0 items ≡ None

abbrev pub CoreDrawsAsInCore : Type 0
CoreDrawsAsInCore = (page : Page) (items : List ItemShape) (end : ℕ) → All IsCoreItem items
    → Draws (finished end (full_runs (full_at_start page) items)) (far_refusal page items) (strokes page items)

-- the same with the same pens in both, if texts are read by a set that has ASCII, or as UTF-8
abbrev pub CoreDrawsAsInCoreWith : Type 0
CoreDrawsAsInCoreWith =
    (encoding : Encoding) (carousel : Carousel) (page : Page) (items : List ItemShape) (end : ℕ)
    → IsTrue (reads_ascii encoding usual_characters.sets) → All IsCoreItem items
    → Draws (finished end (full_runs (full_at_start_with encoding carousel page) items))
    (far_refusal_with carousel page items) (strokes_with carousel page items)

-- what is noted on them
abbrev pub CoreNotedAsInCore : Type 0
CoreNotedAsInCore = (items : List ItemShape) → All IsCoreItem items → notes_told [] items ≡ noting.notes items

-- what is drawn before a wrong number: moves to the pairs of coordinates before an unpaired one or a wrong byte, and curves
-- before the numbers that make none or such a byte; the moves of UC before a number alone; the other commands of an escape
-- are obeyed
abbrev pub draws_in_part : BodyShape → Bool
draws_in_part (Params PenUp ns) = true
draws_in_part (Params PenDown ns) = true
draws_in_part (Params PlotAbsolute ns) = true
draws_in_part (Params PlotRelative ns) = true
draws_in_part (Further BezierAbsolute ns) = true
draws_in_part (Further BezierRelative ns) = true
draws_in_part (Further UserCharacter ns) = true
draws_in_part (DamagedMoves moves ns) = true
draws_in_part (DamagedCurves relative ns) = true
draws_in_part (Escape bytes) = true
draws_in_part _ = false

-- any other item that is noted as bad does nothing
abbrev pub BadItemsDoNothing : Type 0
BadItemsDoNothing = (w : FullWorld) (i : ItemShape) → body_noted w.context i.body ≡ Some Bad → draws_in_part i.body ≡ false
    → taken w i.body ≡ Some w

-- in polygon mode no item makes a stroke
abbrev pub PolygonModeDrawsNothing : Type 0
PolygonModeDrawsNothing = (w v : FullWorld) (i : ItemShape) → w.context.in_polygon ≡ true → taken w i.body ≡ Some v
    → v.core.kept ≡ w.core.kept

-- as at the start, but for the page, the carousel, the strokes, the ends of sheets, the areas, the work that counts and what
-- escapes make; and for the widths in percent, which have no effect before widths are in percent again
abbrev pub started_again : FullWorld → FullWorld
started_again w = record (full_at_start w.core.page) {
  core = record w.core { state = (core.at_start_with w.core.state.carousel w.core.page).state };
  percents = w.percents;
  encoding = w.encoding;
  extra = w.extra;
  ends = w.ends;
  areas = w.areas;
  graphics = w.graphics;
}

-- IN and BP
abbrev pub InitializeRestarts : Type 0
InitializeRestarts = (w : FullWorld) (ns : List ℤ)
    → (taken w (Params Initialize ns) ≡ Some (started_again w)) × (taken w (Further BeginPlot ns) ≡ Some (started_again w))

-- the steps of an item leave the context that notes have after it
abbrev pub NotesAreTold : Type 0
NotesAreTold = (w v : FullWorld) (i : ItemShape) → full_runs w (i ∷ []) ≡ Ok v
    → v.context ≡ context_after w.context i.body

-- the parts that so many sheets have of a list are all of it, and no later sheet has one
pub record AreSheets {A : Type 0} (list : List A) (ends : List ℕ) (sheets : ℕ) : Type 0 where
  pub joined : flat_map (of_sheet list ends) (range_with_len 1 sheets) ≡ list
  pub later : (sheet : ℕ) → sheets < sheet → of_sheet list ends sheet ≡ []

-- the number of sheets of a plot
abbrev pub sheets_in : Result FullWorld PlotFault → ℕ
sheets_in r = sheet_count (ends_in r) (length (strokes_in r)) (image_ends_in r) (length (images_in r))

-- the strokes of the sheets of a plot, in order, are its strokes, and the images of its sheets are its images
pub record SheetsJoinIn (r : Result FullWorld PlotFault) : Type 0 where
  pub strokes : AreSheets (strokes_in r) (ends_in r) (sheets_in r)
  pub images : AreSheets (images_in r) (image_ends_in r) (sheets_in r)

abbrev pub SheetsJoin : Type 0
SheetsJoin = (encoding : Encoding) (carousel : Carousel) (page : Page) (plot : List ℕ)
    → SheetsJoinIn (outcome_with encoding carousel page plot)

-- each label of a plot begins after the one before it has ended
abbrev pub LabelsAreInOrder : Type 0
LabelsAreInOrder = (encoding : Encoding) (carousel : Carousel) (page : Page) (plot : List ℕ)
    → AreInOrder 0 (labels_of encoding carousel page plot)
