-- Moves and figures: the lines along their places are drawn in the line type.
use Rattle.std.specs.Prelude.{Bool, List, [], ◌∷◌, if◌then◌else◌, Option, Some, None}
use Rattle.exact.specs.declared.spot.Spot.{Spot}
use Rattle.plot_page.specs.Segments.{Segment}
use Rattle.line_types.specs.LineTypes.{LineShape}
use Rattle.plot_settings.specs.Meanings.{Step}
use Rattle.hpgl_plot.specs.declared.state.State.{State}
use Rattle.hpgl_plot.specs.Inks.{draws_nothing}
use Rattle.hpgl_plot.specs.Paths.{Path, path}
use Rattle.hpgl_plot.specs.Strokes.{are_in_range, by_a_pen, joined}
use Rattle.hpgl_plot.specs.Machine as core
use Rattle.full_settings.specs.LineStyles.{shape_of}
use Rattle.full_plot.specs.Dashing.{dashed, run_through}
use Rattle.full_plot.specs.Worlds.{FullWorld}

-- the line type, with P1 and P2 as they are now
abbrev pub shape_in : FullWorld → LineShape
shape_in w = shape_of w.style w.core.state.frame.points

-- the lines from each place to the next, whatever pen is selected
abbrev pub lines_along : State → Bool → List Spot → List Segment
lines_along s draws places = if draws then joined (by_a_pen s) places else []

-- a pen that draws nothing makes no stroke
abbrev pub inked : State → List Segment → List Segment
inked s strokes = if draws_nothing s then [] else strokes

-- these lines, in the line type
abbrev pub drawn_in_type : FullWorld → List Segment → FullWorld
drawn_in_type w lines = record w {
  core = core.with_strokes w.core w.core.state (inked w.core.state (dashed (shape_in w) w.run lines));
  run = run_through (shape_in w) w.run lines;
}

-- the lines along these places, in the line type: None if a place is out of range
abbrev pub drawn_along : FullWorld → Bool → List Spot → Option FullWorld
drawn_along w draws places =
    if are_in_range w.core.range places then Some (drawn_in_type w (lines_along w.core.state draws places)) else None

abbrev pub with_state : FullWorld → State → FullWorld
with_state w s = record w { core = record w.core { state = s } }

abbrev pub ended_in : State → Option FullWorld → Option FullWorld
ended_in s None = None
ended_in s (Some w) = Some (with_state w s)

-- the path of a move or a figure is one line
abbrev pub first_line : List (List Spot) → List Spot
first_line [] = []
first_line (l ∷ ls) = l

abbrev pub step_path : FullWorld → Step → Path
step_path w t = path w.core.page w.core.state t

-- the places that a step passes
abbrev pub places_of : FullWorld → Step → List Spot
places_of w t = first_line (step_path w t).lines

abbrev pub state_after : FullWorld → Step → State
state_after w t = core.after w.core.page w.core.state t

-- a step whose line is drawn in the line type
unfoldable pub line_step : FullWorld → Step → Option FullWorld
line_step w t = ended_in (state_after w t) (drawn_along w (step_path w t).draws (places_of w t))
