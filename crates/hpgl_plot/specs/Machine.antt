-- The same, one step at a time, as the code does it: `proofs/Bridge.antt` shows that it is equivalent to the
-- definitions.
use Rattle.std.specs.Prelude.{◌≡◌, ℕ, Bool, true, false, List, [], ◌∷◌, ◌++◌, length, set, nat_lt, if◌then◌else◌}
use Rattle.std.specs.Prelude.{Option, Some, None, Result, Ok, Err, ⊤}
use Rattle.std.specs.List.{list_all}
use Rattle.carousel.specs.Carousels.{empty}
use Rattle.carousel.specs.declared.carousel.Carousel.{Carousel}
use Rattle.plot_frame.specs.declared.pair.Pair.{Pair}
use Rattle.plot_frame.specs.declared.scaling.Ends.{Ends}
use Rattle.plot_frame.specs.declared.scaling.Scaling.TheVariants.{Off}
use Rattle.hpgl_text.specs.Shapes.{ItemShape}
use Rattle.hpgl_plot.specs.declared.fault.PlotFault.{PlotFault}
use Rattle.hpgl_plot.specs.declared.fault.PlotFault.TheVariants as fault
use Rattle.plot_page.specs.declared.stroke.TheConstants.{FARTHEST_END, FARTHEST_PLACE, MOST_STROKES}
use Rattle.plot_page.specs.declared.page.Page.{Page}
use Rattle.hpgl_plot.specs.declared.plotter.Plotter.{Plotter}
use Rattle.hpgl_plot.specs.declared.plotter.Stop.{Stop}
use Rattle.hpgl_plot.specs.declared.plotter.Stop.TheVariants.{Memory, OffRange}
use Rattle.plot_settings.specs.declared.setting.Rotation.TheVariants as rotation
use Rattle.plot_settings.specs.declared.setting.Setting.{Setting}
use Rattle.plot_settings.specs.declared.setting.Setting.TheVariants.{Start, Defaults, PageCorners, FirstPoint}
use Rattle.plot_settings.specs.declared.setting.Setting.TheVariants.{BothPoints, Scale, Rotate}
use Rattle.plot_settings.specs.declared.setting.Setting.TheVariants.{PageWindow, CornerWindow, Pen, Width, WidthOfAll}
use Rattle.plot_settings.specs.declared.setting.Setting.TheVariants.{PenColour, DefaultColours}
use Rattle.plot_settings.specs.declared.setting.Setting.TheVariants.{Size, Direction}
use Rattle.hpgl_plot.specs.declared.state.Frame.{Frame}
use Rattle.hpgl_plot.specs.declared.state.Position.{Position}
use Rattle.exact.specs.declared.spot.Spot.{Spot}
use Rattle.hpgl_plot.specs.declared.state.State.{State}
use Rattle.plot_settings.specs.Colours.{default_colours}
use Rattle.plot_settings.specs.Parameters.{usual_size, moved_points}
use Rattle.plot_page.specs.Segments.{Segment}
use Rattle.plot_settings.specs.Settings.{all_pens}
use Rattle.plot_settings.specs.Meanings.{Step, Set, Lower, Relate, Load, steps_of}
use Rattle.hpgl_plot.specs.Frames.{back, corner_window, place}
use Rattle.hpgl_plot.specs.Paths.{path}
use Rattle.hpgl_plot.specs.States.{origin}
use Rattle.hpgl_plot.specs.OnPage.{corners, page_window}
use Rattle.hpgl_plot.specs.Strokes.{are_in_range, joined, path_strokes}

-- at the start, and after IN, with the pens of a carousel: P1 and P2 are corners of the page, and the pen is up, at the
-- coordinates (0, 0)
abbrev pub start_frame : Page → Frame
start_frame page = record { points = corners page rotation.None; scaling = Off; rotation = rotation.None }

abbrev pub start_state : Carousel → Page → State
start_state carousel page = record {
  frame = start_frame page;
  window = page_window page;
  widths = all_pens 224;
  colours = default_colours;
  carousel = carousel;
  size = usual_size;
  direction = rotation.None;
  pen = 1;
  is_down = false;
  is_relative = false;
  screen = None;
  hides_white = false;
  place = place page (start_frame page) origin;
  coordinates = origin;
}

-- another frame: the coordinates are recomputed
abbrev pub framed : Page → State → Frame → State
framed page s f = record s { frame = f; coordinates = back page f s.place }

abbrev pub pointed : Page → State → Pair Ends → State
pointed page s p = framed page s (record s.frame { points = p })

abbrev pub set_to : Page → State → Setting → State
set_to page s Start = start_state s.carousel page
set_to page s Defaults =
    record (framed page s (record s.frame { scaling = Off })) {
      is_relative = false;
      screen = None;
      hides_white = false;
      window = page_window page;
      size = usual_size;
      direction = rotation.None;
    }
set_to page s PageCorners = pointed page s (corners page s.frame.rotation)
set_to page s (FirstPoint x y) = pointed page s (moved_points s.frame.points x y)
set_to page s (BothPoints p) = pointed page s p
set_to page s (Scale c) = framed page s (record s.frame { scaling = c })
set_to page s (Rotate r) = framed page s (record s.frame { rotation = r })
set_to page s PageWindow = record s { window = page_window page }
set_to page s (CornerWindow c) = record s { window = corner_window page s.frame c }
set_to page s (Pen n) = record s { pen = n }
set_to page s (Width p w) = record s { widths = set s.widths p w }
set_to page s (WidthOfAll w) = record s { widths = all_pens w }
set_to page s (PenColour p c) = record s { colours = set s.colours p c }
set_to page s DefaultColours = record s { colours = default_colours }
set_to page s (Size c) = record s { size = c }
set_to page s (Direction r) = record s { direction = r }

-- the pen is at another position
abbrev pub moved : State → Position → State
moved s p = record s { place = p.place; coordinates = p.coordinates }

abbrev pub after : Page → State → Step → State
after page s (Set setting) = set_to page s setting
after page s (Lower b) = record s { is_down = b }
after page s (Relate b) = record s { is_relative = b }
after page s (Load c) = record s { carousel = c }
after page s t = moved s (path page s t).ends

-- the page, the range of places in grains, the state, the strokes that are kept, and whether there were more than may be
-- kept
pub record World : Type 0 where
  pub page : Page
  pub range : ℕ
  pub state : State
  pub kept : List Segment
  pub full : Bool

-- strokes appended to those that are kept, while there is room
abbrev pub kept_with : List Segment → Bool → List Segment → List Segment
kept_with kept full [] = kept
kept_with kept full (s ∷ ss) =
    if nat_lt (length kept) MOST_STROKES then kept_with (kept ++ (s ∷ [])) full ss else kept_with kept true ss

abbrev pub full_with : List Segment → Bool → List Segment → Bool
full_with kept full [] = full
full_with kept full (s ∷ ss) =
    if nat_lt (length kept) MOST_STROKES then full_with (kept ++ (s ∷ [])) full ss else full_with kept true ss

abbrev pub with_strokes : World → State → List Segment → World
with_strokes w s ss =
    record { page = w.page; range = w.range; state = s; kept = kept_with w.kept w.full ss; full = full_with w.kept w.full ss }

-- what a line over these places leaves: None if one of them is out of range
abbrev pub travelled : World → Bool → List Spot → Option World
travelled w draws places =
    if are_in_range w.range places then Some (with_strokes w w.state (if draws then joined w.state places else [])) else None

abbrev pub followed : Option World → (World → Option World) → Option World
followed None f = None
followed (Some w) f = f w

-- and what several lines leave
abbrev pub travelled_all : World → Bool → List (List Spot) → Option World
travelled_all w draws [] = Some w
travelled_all w draws (l ∷ ls) = followed (travelled w draws l) (λ (v : World). travelled_all v draws ls)

-- with another state
abbrev pub ends_in : State → Option World → Option World
ends_in s None = None
ends_in s (Some w) = Some (record w { state = s })

-- the pen is put somewhere
abbrev pub put_at : World → Position → Option World
put_at w p = ends_in (moved w.state p) (travelled w true (p.place ∷ []))

-- None if a place is out of range
unfoldable pub step : World → Step → Option World
step w s =
    let p = path w.page w.state s in
    let new = with_strokes w (after w.page w.state s) (path_strokes w.state p) in
    if list_all (are_in_range w.range) p.lines then Some new else None

abbrev pub run : World → List Step → Option World
run w [] = Some w
run w (s ∷ ss) = followed (step w s) (λ (v : World). run v ss)

-- what a call answers that was to make this of a world
abbrev pub Runs : {W U : Type 0} → Option W → W → Result U Stop → Type 0
Runs ran new (Ok _) = ran ≡ Some new
Runs ran new (Err Memory) = ⊤
Runs ran new (Err OffRange) = ran ≡ None

-- the items, one after another
abbrev pub ended : Option World → ℕ → (World → Result World PlotFault) → Result World PlotFault
ended None at go = Err (fault.OffRange at)
ended (Some w) at go = if w.full then Err (fault.TooManyStrokes at) else go w

abbrev pub runs : World → List ItemShape → Result World PlotFault
runs w [] = Ok w
runs w (i ∷ more) = ended (run w (steps_of i)) i.at (λ (v : World). runs v more)

-- a plotter as the definitions see it
abbrev pub seen : Plotter → World
seen p = record { page = p.page; range = p.range; state = p.state; kept = p.strokes.items; full = p.is_full }

-- before the first item
abbrev pub at_start : Page → World
at_start page =
    record { page = page; range = FARTHEST_PLACE; state = start_state empty page; kept = []; full = false }

-- with the pens of a carousel
abbrev pub at_start_with : Carousel → Page → World
at_start_with carousel page = record (at_start page) { state = start_state carousel page }

-- where places lie as far as a number of a plot leads
abbrev pub far_start : Carousel → Page → World
far_start carousel page = record (at_start_with carousel page) { range = FARTHEST_END }

-- how an item is refused, by what items make of a world
abbrev pub Refused : {W : Type 0} → (W → List ItemShape → Result W PlotFault) → W → ItemShape → PlotFault → Type 0
Refused made w i fault.Memory = ⊤
Refused made w i (fault.OffRange at) = (more : List ItemShape) → made w (i ∷ more) ≡ Err (fault.OffRange at)
Refused made w i (fault.TooManyStrokes at) = (more : List ItemShape) → made w (i ∷ more) ≡ Err (fault.TooManyStrokes at)

-- what a call answers that carries out an item: the items after it go on from the new world, or all of them are refused
abbrev pub CarriesOut : {W U : Type 0} → (W → List ItemShape → Result W PlotFault) → W → ItemShape → W
    → Result U PlotFault → Type 0
CarriesOut made w i v (Ok _) = (more : List ItemShape) → made w (i ∷ more) ≡ made v more
CarriesOut made w i v (Err e) = Refused made w i e
