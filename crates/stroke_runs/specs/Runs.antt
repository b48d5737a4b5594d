-- Runs: the longest lists of at most 1,000 strokes that follow one another and are drawn in one way. An area is a run, too.
use Rattle.std.specs.Prelude.{ℕ, ◌-◌, nat_le, ◌&&◌, Bool, List, [], ◌∷◌, ◌++◌, map, None, is_some, if◌then◌else◌}
use Rattle.areas.specs.Shapes.{Shape}
use Rattle.plot_page.specs.Segments.{Segment}
use Rattle.plot_page.specs.declared.pens.PenSet.{PenSet}
use Rattle.stroke_runs.specs.declared.runs.TheConstants.{MOST_IN_RUN}
use Rattle.stroke_runs.specs.Drawn.{drawn, drawn_shapes, is_alike}

-- what follows a stroke: the rest of its run, and the runs after it
pub record Following : Type 0 where
  pub rest : List Segment
  pub runs : List (List Segment)

-- with a stroke before them that goes on the run, or that begins another
abbrev pub going_on : Segment → Following → Following
going_on s f = record { rest = s ∷ f.rest; runs = f.runs }

abbrev pub beginning : Segment → Following → Following
beginning s f = record { rest = []; runs = (s ∷ f.rest) ∷ f.runs }

-- the next stroke goes on the run of the last one, after which so many more fit into it
abbrev pub goes_on : Segment → ℕ → Segment → Bool
goes_on last room next = nat_le 1 room && is_alike last next

-- what follows the last stroke, after which so many more fit into its run
abbrev pub following : Segment → ℕ → List Segment → Following
following last room [] = record { rest = []; runs = [] }
following last room (s ∷ ss) =
    if goes_on last room s then going_on s (following s (room - 1) ss) else
    beginning s (following s (MOST_IN_RUN - 1) ss)

-- the runs of strokes
abbrev pub runs_of : List Segment → List (List Segment)
runs_of [] = []
runs_of (s ∷ ss) = (beginning s (following s (MOST_IN_RUN - 1) ss)).runs

-- the runs of the strokes that are drawn
abbrev pub runs : PenSet → List Segment → List (List Segment)
runs pens strokes = runs_of (drawn pens strokes)

-- strokes that are one run
abbrev pub stroke_run : List Segment → Shape
stroke_run strokes = record { strokes = strokes; rule = None }

-- the runs of shapes after these strokes: the strokes up to the next area are cut into runs, and the area is one
abbrev pub shape_runs_after : List Segment → List Shape → List Shape
shape_runs_after strokes [] = map stroke_run (runs_of strokes)
shape_runs_after strokes (shape ∷ shapes) =
    if is_some shape.rule then map stroke_run (runs_of strokes) ++ shape ∷ shape_runs_after [] shapes else
    shape_runs_after (strokes ++ shape.strokes) shapes

-- the runs of the shapes that are drawn, each with its strokes, and with its rule if it is an area
abbrev pub shape_runs : PenSet → List Shape → List Shape
shape_runs pens shapes = shape_runs_after [] (drawn_shapes pens shapes)
