-- Lines that are drawn in a line type: each gives its dashes, and the pattern goes on from line to line.
use Rattle.std.specs.Prelude.{List, [], ◌∷◌, ◌++◌, map, Option}
use Rattle.exact.specs.declared.spot.Spot.{Spot}
use Rattle.plot_page.specs.Segments.{Segment}
use Rattle.hpgl_plot.specs.Machine as core
use Rattle.hpgl_plot.specs.Bounds.{IsInRange}
use Rattle.plot_page.specs.declared.stroke.TheConstants.{FARTHEST_END}
use Rattle.line_types.specs.declared.run.Run.{Run}
use Rattle.line_types.specs.LineTypes.{LineShape, dashes_of, run_after}

-- the ends of a stroke
abbrev pub from_of : Segment → Spot
from_of s = record { x = s.ax; y = s.ay }

abbrev pub to_of : Segment → Spot
to_of s = record { x = s.bx; y = s.by }

-- a dash of a line, with the line's pen, colour, width and window
abbrev pub dash_of : Segment → Spot × Spot → Segment
dash_of s d = record s { ax = d.0.x; ay = d.0.y; bx = d.1.x; by = d.1.y }

abbrev pub dash_segments : LineShape → Option Run → Segment → List Segment
dash_segments shape run s = map (dash_of s) (dashes_of shape run (from_of s) (to_of s))

abbrev pub run_past : LineShape → Option Run → Segment → Option Run
run_past shape run s = run_after shape run (from_of s) (to_of s)

-- the dashes of lines, one line after another
abbrev pub dashed : LineShape → Option Run → List Segment → List Segment
dashed shape run [] = []
dashed shape run (s ∷ rest) = dash_segments shape run s ++ dashed shape (run_past shape run s) rest

-- the run that these lines leave
abbrev pub run_through : LineShape → Option Run → List Segment → Option Run
run_through shape run [] = run
run_through shape run (s ∷ rest) = run_through shape (run_past shape run s) rest

-- both ends of a dash are those of a stroke
abbrev pub IsDash : Spot × Spot → Type 0
IsDash d = IsInRange FARTHEST_END d.0 × IsInRange FARTHEST_END d.1

-- a stroke more
abbrev pub with_one_more : core.World → Segment → core.World
with_one_more w s = record w { kept = w.kept ++ s ∷ [] }
