-- What a plot draws in the profile full.
use Rattle.std.specs.Prelude.{◌≡◌, ℕ, ◌+◌, ◌-◌, ◌≤◌, map, List, [], ◌∷◌, length, take, drop, nat_eq, nat_lt, slice_index_or}
use Rattle.std.specs.Prelude.{Bool, ◌||◌, if◌then◌else◌, Option, Some, None, Result, Ok, Err, ⊤}
use Rattle.std.specs.List.{All}
use Rattle.areas.specs.Shapes.{all_counted, areas_between}
use Rattle.areas.specs.declared.area.Area.{Area}
use Rattle.carousel.specs.Carousels.{empty}
use Rattle.carousel.specs.declared.carousel.Carousel.{Carousel}
use Rattle.character_sets.specs.declared.encoding.Encoding.{Encoding}
use Rattle.character_sets.specs.declared.encoding.Encoding.TheVariants.{ByPlot}
use Rattle.plot_page.specs.declared.page.Page.{Page}
use Rattle.plot_page.specs.Segments.{Segment}
use Rattle.plot_page.specs.declared.stroke.TheConstants.{MOST_STROKES}
use Rattle.full_text.specs.Cut.{full_cut}
use Rattle.hpgl_text.specs.Shapes.{ItemShape}
use Rattle.hpgl_plot.specs.declared.fault.PlotFault.{PlotFault}
use Rattle.hpgl_plot.specs.declared.fault.PlotFault.TheVariants as fault
use Rattle.hpgl_plot.specs.Machine as core
pub use Rattle.hpgl_plot.specs.Machine.{CarriesOut}
use Rattle.full_plot.specs.Items.{taken}
use Rattle.full_settings.specs.Characters.{usual_characters}
use Rattle.full_settings.specs.LineStyles.{usual_style}
use Rattle.full_settings.specs.Widths.{all_percents}
use Rattle.full_notes.specs.Contexts.{first_context}
use Rattle.full_plot.specs.Worlds.{FullWorld, no_graphics, usual_filling, usual_writing}
use Rattle.page_images.specs.PageImages.{ImageShape}
use Rattle.polygons.specs.Buffers.{empty_buffer}
use Rattle.raster_graphics.specs.declared.fault.Fault.{Fault}
use Rattle.raster_graphics.specs.declared.machine.Machine.{Machine}
use Rattle.raster_graphics.specs.Machines.{closed}
use Rattle.full_plot.specs.Commands.{gathered, with_machine}
use Rattle.full_plot.specs.Sheets.{ends_with, has_more}

-- before the first item, if texts are read by the sets that the plot chooses
abbrev pub full_at_start : Page → FullWorld
full_at_start page = record {
  core = core.far_start empty page;
  context = first_context;
  style = usual_style;
  run = None;
  percents = all_percents None;
  encoding = ByPlot;
  characters = usual_characters;
  writing = usual_writing;
  margin = (core.at_start page).state.place;
  filling = usual_filling;
  buffer = empty_buffer;
  extra = 0;
  ends = [];
  areas = [];
  graphics = no_graphics;
}

-- with texts read as the user says, and the pens of a carousel
abbrev pub full_at_start_with : Encoding → Carousel → Page → FullWorld
full_at_start_with encoding carousel page =
    record (full_at_start page) { core = core.far_start carousel page; encoding = encoding }

-- there were more strokes than may be kept, or those that are kept are too many with the work that counts besides, or
-- the buffer has as many places
abbrev pub is_too_much : FullWorld → Bool
is_too_much w =
    w.core.full || (nat_lt MOST_STROKES (length w.core.kept + w.extra) || nat_lt MOST_STROKES w.buffer.places)

-- the items, one after another, up to the first refusal: a place out of range, or else a stroke too many
abbrev pub full_ended : Option FullWorld → ℕ → (FullWorld → Result FullWorld PlotFault) → Result FullWorld PlotFault
full_ended None at go = Err (fault.OffRange at)
full_ended (Some w) at go = if is_too_much w then Err (fault.TooManyStrokes at) else go w

abbrev pub full_runs : FullWorld → List ItemShape → Result FullWorld PlotFault
full_runs w [] = Ok w
full_runs w (i ∷ more) = full_ended (taken w i.body) i.at (λ (v : FullWorld). full_runs v more)

-- the image that is open when the items end closes at the plot's end, if its place is in range
abbrev pub image_closed : FullWorld → ℕ → Result Machine Fault → Result FullWorld PlotFault
image_closed w at (Ok m) = Ok (gathered (with_machine w m))
image_closed w at (Err e) = Err (fault.OffRange at)

abbrev pub finished : ℕ → Result FullWorld PlotFault → Result FullWorld PlotFault
finished at (Ok w) = image_closed w at (closed w.graphics.machine)
finished at (Err e) = Err e

-- a plot, and one with texts read as the user says, and the pens of a carousel
abbrev pub outcome : Page → List ℕ → Result FullWorld PlotFault
outcome page plot = finished (length plot) (full_runs (full_at_start page) (full_cut plot))

abbrev pub outcome_with : Encoding → Carousel → Page → List ℕ → Result FullWorld PlotFault
outcome_with encoding carousel page plot =
    finished (length plot) (full_runs (full_at_start_with encoding carousel page) (full_cut plot))

-- the refusal of a plot, or None if it is accepted
abbrev pub refusal_in : Result FullWorld PlotFault → Option PlotFault
refusal_in (Ok w) = None
refusal_in (Err fault) = Some fault

-- memory aside, the fault is the plot's refusal
abbrev pub Explains : PlotFault → Result FullWorld PlotFault → Type 0
Explains fault.Memory o = ⊤
Explains (fault.OffRange at) o = refusal_in o ≡ Some (fault.OffRange at)
Explains (fault.TooManyStrokes at) o = refusal_in o ≡ Some (fault.TooManyStrokes at)

-- the strokes of all sheets
abbrev pub strokes_in : Result FullWorld PlotFault → List Segment
strokes_in (Ok w) = w.core.kept
strokes_in (Err fault) = []

-- where sheets end
abbrev pub ends_in : Result FullWorld PlotFault → List ℕ
ends_in (Ok w) = w.ends
ends_in (Err fault) = []

-- the areas of all sheets
abbrev pub areas_of : Result FullWorld PlotFault → List Area
areas_of (Ok w) = w.areas
areas_of (Err fault) = []

-- the images of all sheets, and how many of them there were when each sheet ended
abbrev pub images_in : Result FullWorld PlotFault → List ImageShape
images_in (Ok w) = w.graphics.images
images_in (Err fault) = []

abbrev pub image_ends_in : Result FullWorld PlotFault → List ℕ
image_ends_in (Ok w) = w.graphics.ends
image_ends_in (Err fault) = []

-- how many strokes are drawn before each image
abbrev pub befores : List ImageShape → List ℕ
befores images = map (λ (i : ImageShape). i.before) images

-- numbers that ascend, from one to another
abbrev pub Ascend : ℕ → List ℕ → ℕ → Type 0
Ascend start [] most = start ≤ most
Ascend start (n ∷ more) most = (start ≤ n) × Ascend n more most

-- a stroke with the pen, the colour, the width and the window of another
abbrev pub LooksAs : Segment → Segment → Type 0
LooksAs s t = record s { ax = t.ax; ay = t.ay; bx = t.bx; by = t.by } ≡ t

-- strokes of width 0 that are alike, as the edges of an area are
abbrev pub AreAlike : List Segment → Type 0
AreAlike strokes = All (λ s. (s.width ≡ 0) × All (LooksAs s) strokes) strokes

-- the greatest number of a sheet that has a stroke or an image: the end of the plot ends a sheet, too
abbrev pub sheet_count : List ℕ → ℕ → List ℕ → ℕ → ℕ
sheet_count ends count image_ends images = length (ends_with (has_more ends count image_ends images) ends count)

-- how many strokes there were when a sheet began, which counts from 1, and when it ended; those of all sheets for 0
abbrev pub sheet_start : List ℕ → ℕ → ℕ → ℕ
sheet_start ends count sheet = if nat_eq sheet 0 then 0 else slice_index_or (0 ∷ ends) (sheet - 1) count

abbrev pub sheet_end : List ℕ → ℕ → ℕ → ℕ
sheet_end ends count sheet = if nat_eq sheet 0 then count else slice_index_or ends (sheet - 1) count

-- what a list has for a sheet, which counts from 1, by where sheets end in the list; all of it for 0
abbrev pub of_sheet : {A : Type 0} → List A → List ℕ → ℕ → List A
of_sheet list ends sheet =
    if nat_eq sheet 0 then list else
    drop (slice_index_or (0 ∷ ends) (sheet - 1) (length list)) (take (slice_index_or ends (sheet - 1) (length list)) list)

-- the strokes of a sheet, and its images
abbrev pub sheet_strokes : List Segment → List ℕ → ℕ → List Segment
sheet_strokes strokes ends sheet = of_sheet strokes ends sheet

abbrev pub sheet_images : List ImageShape → List ℕ → ℕ → List ImageShape
sheet_images images image_ends sheet = of_sheet images image_ends sheet

-- the areas of a sheet, by the strokes of the sheet; those of all sheets for 0
abbrev pub areas_of_sheet : List Area → List ℕ → ℕ → ℕ → List Area
areas_of_sheet areas ends count sheet =
    let at = sheet_start ends count sheet in
    if nat_eq sheet 0 then areas else all_counted at (areas_between at (sheet_end ends count sheet) areas)
