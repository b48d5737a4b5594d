-- How each stroke follows the one before it, as they are taken one at a time.
use Rattle.std.specs.Prelude.{ℕ, ◌-◌, Bool, Option, Some, None, is_some, if◌then◌else◌}
use Rattle.plot_page.specs.Segments.{Segment}
use Rattle.polygons.specs.declared.lines.Rule.{Rule}
use Rattle.stroke_runs.specs.declared.role.Role.{Role}
use Rattle.stroke_runs.specs.declared.role.Role.TheVariants.{Stroke, FirstEdge, NextEdge}
use Rattle.stroke_runs.specs.declared.runs.Link.{Link}
use Rattle.stroke_runs.specs.declared.runs.Link.TheVariants.{Begins, Apart, Joined}
use Rattle.stroke_runs.specs.declared.runs.Runs.{Runs}
use Rattle.stroke_runs.specs.declared.runs.TheConstants.{MOST_IN_RUN}
use Rattle.stroke_runs.specs.Drawn.{is_joined}
use Rattle.stroke_runs.specs.Runs.{goes_on}

-- before the first stroke
abbrev pub at_start : Runs
at_start = record { last = None; room = 0; rule = None }

-- after this stroke, when so many more fit into its run
abbrev pub after_stroke : Segment → ℕ → Runs
after_stroke s room = record { last = Some s; room = room; rule = None }

-- after the first edge of an area, into whose run no other shape fits
abbrev pub after_edge : Segment → Rule → Runs
after_edge s rule = record { last = Some s; room = 0; rule = Some rule }

-- a run has begun
abbrev pub has_begun : Runs → Bool
has_begun r = is_some r.last

-- how a stroke follows the last one in its run
abbrev pub link_in_run : Segment → Segment → Link
link_in_run last next = if is_joined last next then Joined else Apart

-- how a stroke follows the last one
abbrev pub link_after : Segment → ℕ → Segment → Link
link_after last room next = if goes_on last room next then link_in_run last next else Begins

abbrev pub link_of_last : Option Segment → ℕ → Segment → Link
link_of_last None room next = Begins
link_of_last (Some last) room next = link_after last room next

abbrev pub link_of : Runs → Segment → Link
link_of r next = link_of_last r.last r.room next

-- how many more strokes fit into the run
abbrev pub room_after : Link → ℕ → ℕ
room_after Begins room = MOST_IN_RUN - 1
room_after Apart room = room - 1
room_after Joined room = room - 1

abbrev pub runs_after : Runs → Segment → Runs
runs_after r next = after_stroke next (room_after (link_of r next) r.room)

-- how another edge of an area follows the last one
abbrev pub link_of_edge : Option Segment → Segment → Link
link_of_edge None next = Begins
link_of_edge (Some last) next = link_in_run last next

-- how a stroke follows the last one, by what it is
abbrev pub link_as : Runs → Segment → Role → Link
link_as r next Stroke = link_of r next
link_as r next (FirstEdge rule) = Begins
link_as r next NextEdge = link_of_edge r.last next

abbrev pub runs_as : Runs → Segment → Role → Runs
runs_as r next Stroke = runs_after r next
runs_as r next (FirstEdge rule) = after_edge next rule
runs_as r next NextEdge = record r { last = Some next }
