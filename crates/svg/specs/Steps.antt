-- What is written for each stroke, as the strokes are taken one at a time.
use Rattle.std.specs.Prelude.{ℕ, pos, max, List, [], ◌∷◌, ◌++◌, Option, Some, None, if◌then◌else◌}
use Rattle.plot_page.specs.Segments.{Segment}
use Rattle.plot_page.specs.declared.page.Page.{Page}
use Rattle.plot_page.specs.declared.pens.PenSet.{PenSet}
use Rattle.polygons.specs.declared.lines.Rule.{Rule}
use Rattle.stroke_runs.specs.declared.role.Role.{Role}
use Rattle.stroke_runs.specs.declared.roles.Roles.{Roles}
use Rattle.stroke_runs.specs.declared.runs.Link.{Link}
use Rattle.stroke_runs.specs.declared.runs.Link.TheVariants.{Begins, Apart, Joined}
use Rattle.stroke_runs.specs.declared.runs.Runs.{Runs}
use Rattle.stroke_runs.specs.Links.{has_begun, link_as, runs_as}
use Rattle.stroke_runs.specs.Roles.{role_of, roles_after}
use Rattle.stroke_runs.specs.declared.shown.TheConstants.{LEAST_WIDTH}
use Rattle.svg.specs.declared.places.Place.{Place}
use Rattle.svg.specs.Commands.{MoveTo, command_text, move}
use Rattle.svg.specs.Paths.{clip_of, end_text, line_of, start_text}
use Rattle.svg.specs.Places.{end_of, start_of}

-- the end of the path that has begun, if there is one
abbrev pub open_end : Runs → List ℕ
open_end runs = if has_begun runs then end_text else []

-- where the last stroke ended, or the corner of the page before the first one
abbrev pub last_place : Page → Option Segment → Place
last_place page None = record { x = pos 0; y = pos 0 }
last_place page (Some s) = end_of page s

-- a stroke that begins a path, which is filled if it is an area
abbrev pub begun_text : Page → Option Rule → Segment → List ℕ
begun_text page rule s =
    start_text s.pen s.colour (max LEAST_WIDTH s.width) rule (clip_of page s.window)
    ++ command_text (MoveTo (start_of page s)) ++ command_text (line_of page s)

-- one that goes on a path at another place than this one
abbrev pub apart_text : Page → Place → Segment → List ℕ
apart_text page from s = command_text (move from (start_of page s)) ++ command_text (line_of page s)

-- what is written for a stroke that is drawn, by how it follows the one before it, and by the rule of a run that it begins
abbrev pub link_text : Page → Runs → Option Rule → Link → Segment → List ℕ
link_text page runs rule Begins s = open_end runs ++ begun_text page rule s
link_text page runs rule Apart s = apart_text page (last_place page runs.last) s
link_text page runs rule Joined s = command_text (line_of page s)

abbrev pub member_text : Page → Runs → Segment → Role → List ℕ
member_text page runs s role = link_text page runs (runs_as runs s role).rule (link_as runs s role) s

-- what is written for a stroke, which may not be drawn
abbrev pub text_if : Page → Runs → Segment → Option Role → List ℕ
text_if page runs s None = []
text_if page runs s (Some role) = member_text page runs s role

abbrev pub step_text : Page → PenSet → Roles → Runs → Segment → List ℕ
step_text page pens roles runs s = text_if page runs s (role_of pens roles s)

abbrev pub runs_if : Runs → Segment → Option Role → Runs
runs_if runs s None = runs
runs_if runs s (Some role) = runs_as runs s role

abbrev pub after_step : PenSet → Roles → Runs → Segment → Runs
after_step pens roles runs s = runs_if runs s (role_of pens roles s)

-- what is still to be written for these strokes, up to the end of the last path
abbrev pub steps_text : Page → PenSet → Roles → Runs → List Segment → List ℕ
steps_text page pens roles runs [] = open_end runs
steps_text page pens roles runs (s ∷ ss) =
    step_text page pens roles runs s ++ steps_text page pens (roles_after pens roles s) (after_step pens roles runs s) ss
