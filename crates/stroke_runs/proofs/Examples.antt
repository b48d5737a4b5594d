-- Some strokes, and their runs.
use Rattle.std.proofs.Common.{◌≡◌, ℕ, ℤ, pos, negsuc, [], ◌∷◌, Some, refl, replicate, set, true, false, List, map}
use Rattle.areas.specs.Shapes.{Shape, shapes, stroke_shape}
use Rattle.areas.specs.declared.area.Area.{Area}
use Rattle.plot_page.specs.Segments.{Segment}
use Rattle.plot_page.specs.declared.colour.Colour.{Colour}
use Rattle.plot_page.specs.declared.pens.PenSet.{PenSet}
use Rattle.plot_page.specs.declared.window.Window.{Window}
use Rattle.polygons.specs.declared.lines.Rule.TheVariants.{OddCounts, Winding}
use Rattle.stroke_runs.specs.declared.runs.Link.TheVariants.{Begins, Apart, Joined}
use Rattle.stroke_runs.specs.Drawn.{is_drawn, is_alike, is_joined}
use Rattle.stroke_runs.specs.declared.role.Role.TheVariants.{Stroke, FirstEdge, NextEdge}
use Rattle.stroke_runs.specs.Runs.{following, runs_of, runs, shape_runs, stroke_run}
use Rattle.stroke_runs.specs.Links.{after_edge, at_start, link_after, link_as}
use Rattle.stroke_runs.specs.Roles.{member, members_of}
use Rattle.stroke_runs.specs.Sheets.{shapes_between, sheet_areas, sheets_of}

-- a table of examples: each value agrees with the one beside it
abbrev Agree : {X : Type 0} → List (X × X) → Type 0
Agree rows = map (λ it. it.0) rows ≡ map (λ it. it.1) rows

abbrev black : Colour
black = record { red = 0; green = 0; blue = 0 }

abbrev blue : Colour
blue = record { red = 0; green = 0; blue = 255 }

abbrev page : Window
page = record { x0 = pos 0; y0 = pos 0; x1 = pos 1024; y1 = pos 1024 }

abbrev corner : Window
corner = record { x0 = pos 0; y0 = pos 0; x1 = pos 16; y1 = pos 16 }

-- one place
abbrev point : Window
point = record { x0 = pos 5; y0 = pos 5; x1 = pos 5; y1 = pos 5 }

abbrev nowhere : Window
nowhere = record { x0 = pos 6; y0 = pos 0; x1 = pos 5; y1 = pos 9 }

abbrev low : Window
low = record { x0 = pos 0; y0 = pos 6; x1 = pos 5; y1 = pos 5 }

-- from (x, y), 100 grains to the right
abbrev stroke : ℕ → Colour → ℕ → Window → ℤ → ℤ → Segment
stroke pen colour width window x y =
    record { pen = pen; colour = colour; width = width; window = window; ax = x; ay = y; bx = pos 100; by = y }

abbrev first : Segment
first = stroke 1 black 56 page (pos 0) (pos 7)

-- it begins where the first one ends
abbrev next : Segment
next = stroke 1 black 56 page (pos 100) (pos 7)

abbrev other_pen : Segment
other_pen = stroke 2 black 56 page (pos 100) (pos 7)

abbrev other_colour : Segment
other_colour = stroke 1 blue 56 page (pos 100) (pos 7)

abbrev other_width : Segment
other_width = stroke 1 black 57 page (pos 100) (pos 7)

abbrev other_window : Segment
other_window = stroke 1 black 56 corner (pos 100) (pos 7)

abbrev all_pens : PenSet
all_pens = record { chosen = replicate 256 true }

abbrev pen_1 : PenSet
pen_1 = record { chosen = set (replicate 256 false) 1 true }

-- which strokes are drawn, are alike and follow one another
answers : Agree (
    (is_drawn pen_1 first, true)  -- a pen that is selected
    ∷ (is_drawn pen_1 other_pen, false)  -- a pen that is not
    ∷ (is_drawn all_pens (stroke 1 black 56 point (pos 0) (pos 0)), true)  -- a window of one place
    ∷ (is_drawn all_pens (stroke 1 black 56 nowhere (pos 0) (pos 0)), false)  -- an empty window
    ∷ (is_drawn all_pens (stroke 1 black 56 low (pos 0) (pos 0)), false)  -- one that is empty upright
    ∷ (is_alike first next, true)  -- places do not matter
    ∷ (is_joined first next, true)  -- it begins where the first one ends
    ∷ (is_joined next first, false)  -- does not follow
    ∷ (is_joined first (stroke 1 black 56 page (pos 100) (negsuc 6)), false)  -- follows below
    ∷ [])
answers = refl

-- runs of strokes, and the strokes of sheets
runs_of_strokes : Agree (
    (runs all_pens [], [])  -- no runs
    ∷ (runs all_pens (first ∷ next ∷ first ∷ []), (first ∷ next ∷ first ∷ []) ∷ [])  -- one run
    ∷ (runs_of (first ∷ other_pen ∷ first ∷ []), (first ∷ []) ∷ (other_pen ∷ []) ∷ (first ∷ []) ∷ [])  -- another pen
    ∷ (runs_of (first ∷ other_colour ∷ other_colour ∷ []), (first ∷ []) ∷ (other_colour ∷ other_colour ∷ []) ∷ [])  -- another colour
    ∷ (runs_of (first ∷ next ∷ other_width ∷ []), (first ∷ next ∷ []) ∷ (other_width ∷ []) ∷ [])  -- another width
    ∷ (runs_of (first ∷ other_window ∷ []), (first ∷ []) ∷ (other_window ∷ []) ∷ [])  -- another window
    ∷ (runs pen_1 (first ∷ other_pen ∷ next ∷ []), (first ∷ next ∷ []) ∷ [])  -- a stroke that is not drawn breaks nothing
    ∷ (sheets_of (first ∷ next ∷ first ∷ []) (1 ∷ []), (first ∷ []) ∷ (next ∷ first ∷ []) ∷ [])  -- the end of the plot ends a sheet, too
    ∷ (sheets_of (first ∷ next ∷ first ∷ []) (1 ∷ 3 ∷ []), (first ∷ []) ∷ (next ∷ first ∷ []) ∷ [])  -- no stroke follows the last end
    ∷ (sheets_of (first ∷ next ∷ []) (0 ∷ 1 ∷ 1 ∷ []), (first ∷ []) ∷ (next ∷ []) ∷ [])  -- sheets without strokes do not count
    ∷ (sheets_of [] [], [])  -- no sheets
    ∷ [])
runs_of_strokes = refl

-- if two more fit, the third begins another run
full : following first 2 (next ∷ next ∷ next ∷ []) ≡ record { rest = next ∷ next ∷ []; runs = (next ∷ []) ∷ [] }
full = refl

-- how a stroke goes on after another
links : Agree (
    (link_after first 999 next, Joined)  -- it goes on there
    ∷ (link_after first 1 first, Apart)  -- it goes on elsewhere
    ∷ (link_after first 0 next, Begins)  -- no more strokes fit
    ∷ [])
links = refl

-- the area of the strokes after so many, up to and including this one
abbrev area : ℕ → ℕ → Area
area at end = record { first = at; end = end; rule = OddCounts }

abbrev filled : List Segment → Shape
filled edges = record { strokes = edges; rule = Some OddCounts }

-- runs of shapes
runs_of_shapes : Agree (
    (shape_runs all_pens [], [])  -- no runs
    ∷ (shape_runs all_pens (shapes (first ∷ next ∷ []) []), stroke_run (first ∷ next ∷ []) ∷ [])  -- no areas
    ∷ (shape_runs all_pens (shapes (first ∷ next ∷ []) (area 0 2 ∷ [])), filled (first ∷ next ∷ []) ∷ [])  -- an area
    ∷ (
      shape_runs all_pens (shapes (first ∷ next ∷ first ∷ next ∷ []) (area 1 3 ∷ [])),
      stroke_run (first ∷ []) ∷ filled (next ∷ first ∷ []) ∷ stroke_run (next ∷ []) ∷ [],
    )  -- an area does not go on a run, and no stroke goes on an area
    ∷ (
      shape_runs all_pens (shapes (first ∷ next ∷ first ∷ []) (area 0 1 ∷ area 1 3 ∷ [])),
      filled (first ∷ []) ∷ filled (next ∷ first ∷ []) ∷ [],
    )  -- two areas drawn in one way
    ∷ (
      shape_runs pen_1 (shapes (first ∷ other_pen ∷ other_pen ∷ next ∷ []) (area 1 3 ∷ [])),
      stroke_run (first ∷ next ∷ []) ∷ [],
    )  -- an area that is not drawn breaks nothing
    ∷ (
      shapes_between (first ∷ next ∷ first ∷ next ∷ []) (area 2 4 ∷ []) 1 4,
      stroke_shape next ∷ filled (first ∷ next ∷ []) ∷ [],
    )  -- the shapes between two strokes
    ∷ [])
runs_of_shapes = refl

-- the areas of a sheet, and what the strokes of shapes are
areas_on_sheets : sheet_areas 3 (area 1 2 ∷ area 3 5 ∷ area 7 9 ∷ []) ≡ area 0 2 ∷ area 4 6 ∷ []
areas_on_sheets = refl

members : members_of (stroke_shape first ∷ filled (next ∷ first ∷ next ∷ []) ∷ [])
    ≡ member Stroke first ∷ member (FirstEdge OddCounts) next ∷ member NextEdge first ∷ member NextEdge next ∷ []
members = refl

-- how an edge follows another stroke, and a stroke an edge
links_of_edges : Agree (
    (link_as at_start first (FirstEdge Winding), Begins)  -- an area begins
    ∷ (link_as (after_edge first Winding) next NextEdge, Joined)  -- it goes on there
    ∷ (link_as (after_edge next Winding) first NextEdge, Apart)  -- it goes on elsewhere
    ∷ (link_as (after_edge first Winding) next (FirstEdge Winding), Begins)  -- another area
    ∷ (link_as (after_edge first Winding) next Stroke, Begins)  -- a stroke does not go on an area
    ∷ [])
links_of_edges = refl
