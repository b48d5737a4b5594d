-- Shapes: what a plot draws, in order. A shape is a stroke, or an area, whose edges are strokes that follow one another in the
-- list of strokes.
use Rattle.std.specs.Prelude.{ℕ, ◌+◌, ◌-◌, ◌≤◌, ◌<◌, nat_eq, nat_le, nat_lt, if◌then◌else◌, List, [], ◌∷◌, ◌++◌, filter, length, map, take, drop, Option, Some, None}
use Rattle.std.specs.List.{All}
use Rattle.plot_page.specs.Segments.{Segment}
use Rattle.polygons.specs.declared.lines.Rule.{Rule}
use Rattle.areas.specs.declared.area.Area.{Area}

-- its strokes, and the rule by which it is filled if these are edges
pub record Shape : Type 0 where
  pub strokes : List Segment
  pub rule : Option Rule

abbrev pub stroke_shape : Segment → Shape
stroke_shape s = record { strokes = s ∷ []; rule = None }

-- the strokes of a list that are the edges of an area
abbrev pub edges_of : List Segment → Area → List Segment
edges_of strokes a = drop a.first (take a.end strokes)

abbrev pub area_shape : List Segment → Area → Shape
area_shape strokes a = record { strokes = edges_of strokes a; rule = Some a.rule }

-- the shapes after the first `at` strokes
abbrev pub shapes_after : ℕ → List Segment → List Area → List Shape
shapes_after at strokes [] = map stroke_shape (drop at strokes)
shapes_after at strokes (a ∷ more) =
    map stroke_shape (drop at (take a.first strokes)) ++ area_shape strokes a ∷ shapes_after a.end strokes more

-- the shapes of strokes, some of which are the edges of these areas
abbrev pub shapes : List Segment → List Area → List Shape
shapes strokes areas = shapes_after 0 strokes areas

-- strokes, and the areas among them
pub record ShapeList : Type 0 where
  pub strokes : List Segment
  pub areas : List Area

-- how many edges areas have together
abbrev pub edge_count : List Area → ℕ
edge_count [] = 0
edge_count (a ∷ more) = a.end - a.first + edge_count more

-- how many of the strokes are no edges
abbrev pub stroke_count : ShapeList → ℕ
stroke_count shapes = length shapes.strokes - edge_count shapes.areas

-- strokes of which none is the edge of an area
abbrev pub plain : List Segment → ShapeList
plain strokes = record { strokes = strokes; areas = [] }

-- each area has an edge, and begins after the one before it has ended, the first one after the first `at` strokes
abbrev pub AreApart : ℕ → List Area → Type 0
AreApart at [] = Unit {0}
AreApart at (a ∷ more) = (at ≤ a.first) × (a.first < a.end) × AreApart a.end more

-- no area has edges both among the first `at` strokes and after them
abbrev pub NoneGoesOn : ℕ → List Area → Type 0
NoneGoesOn at areas = All (λ a. a.first < at → a.end ≤ at) areas

-- the first area of which a number is this one
abbrev pub first_with : (Area → ℕ) → ℕ → List Area → Option Area
first_with number n [] = None
first_with number n (a ∷ more) = if nat_eq (number a) n then Some a else first_with number n more

-- the area whose last edge is stroke number `end`, and the one whose first edge comes after so many strokes
abbrev pub ending_at : ℕ → List Area → Option Area
ending_at end areas = first_with (λ a. a.end) end areas

abbrev pub beginning_at : ℕ → List Area → Option Area
beginning_at first areas = first_with (λ a. a.first) first areas

-- the areas that begin after the first `at` strokes
abbrev pub areas_from : ℕ → List Area → List Area
areas_from at areas = filter (λ a. nat_le at a.first) areas

-- those of them that begin before there are `end` strokes
abbrev pub areas_between : ℕ → ℕ → List Area → List Area
areas_between at end areas = filter (λ a. nat_lt a.first end) (areas_from at areas)

-- an area of strokes of which so many come before a sheet, by the strokes of the sheet
abbrev pub counted : ℕ → Area → Area
counted before a = record { first = a.first - before; end = a.end - before; rule = a.rule }

abbrev pub all_counted : ℕ → List Area → List Area
all_counted before areas = map (counted before) areas
