-- The path of a step: the places that it passes, whether it draws, and where the pen is after it. PA (Plot Absolute),
-- PR (Plot Relative), EA (Edge Rectangle Absolute), ER (Edge Rectangle Relative), CI (Circle), AA (Arc Absolute), AR
-- (Arc Relative), LB (Label). The end of each chord is turned from a curve's first point, so roundings do not add up.
-- That a label is turned by quarters only, and that the pen is left where the next character would begin, with its
-- coordinates recomputed, is our choice.
use Rattle.std.specs.Prelude.{ℕ, pos, ◌+ℤ◌, List, map, [], ◌∷◌, ℤ, Bool, true, false, not, ◌++◌, if◌then◌else◌}
use Rattle.std.specs.List.{range_with_len}
use Rattle.exact.specs.declared.spot.Spot.{Spot}
use Rattle.plot_arc.specs.Arcs.{chord_point_of, chords_of, turn_after}
use Rattle.plot_page.specs.declared.page.Page.{Page}
use Rattle.plot_settings.specs.declared.figure.Arc.{Arc}
use Rattle.plot_settings.specs.declared.figure.Circle.{Circle}
use Rattle.hpgl_plot.specs.declared.curve.Curve.{Curve}
use Rattle.hpgl_plot.specs.declared.state.Frame.{Frame}
use Rattle.hpgl_plot.specs.Frames.{place, back}
use Rattle.stick_font.specs.declared.label.LabelStroke.{LabelStroke}
use Rattle.stick_font.specs.Labels.{offset, label_strokes, label_end}
use Rattle.hpgl_plot.specs.declared.state.Position.{Position}
use Rattle.hpgl_plot.specs.declared.state.State.{State}
use Rattle.hpgl_plot.specs.OnPage.{turned_vector}
use Rattle.plot_settings.specs.Meanings.{Step, Touch, Move, Go, Edge, DrawCircle, DrawArc, Write}

-- a point so far on the right of another
abbrev pub right_of : Spot → ℤ → Spot
right_of u n = record { x = u.x +ℤ n; y = u.y }

-- about the pen, from the point on its right all the way round
abbrev pub circle_curve : Spot → Circle → Curve
circle_curve pen c = record {
  centre = pen;
  from = right_of pen c.radius;
  sweep = pos 360000;
  chord = c.chord;
}

-- from the pen about a centre
abbrev pub arc_curve : Spot → Spot → Arc → Curve
arc_curve pen centre a = record { centre = centre; from = pen; sweep = a.sweep; chord = a.chord }

abbrev pub chord_count : Curve → ℕ
chord_count c = chords_of c.chord c.sweep

-- where the k-th chord ends; not opened in proofs, where the table of sines would be written out
unfoldable pub curve_point : Curve → ℕ → Spot
curve_point c k = chord_point_of c.centre c.from (turn_after c.chord c.sweep k)

-- the places of the ends of its chords
abbrev pub curve_places : Page → Frame → Curve → List Spot
curve_places page f c = map (λ (k : ℕ). place page f (curve_point c k)) (range_with_len 1 (chord_count c))

-- a point of a label, which begins at the pen's place: turned by DI, and by RO
abbrev pub label_place : State → Spot → Spot
label_place s p =
    let o = turned_vector s.frame.rotation (turned_vector s.direction (offset s.size p)) in
    record { x = s.place.x +ℤ o.x; y = s.place.y +ℤ o.y }

-- the two places of a stroke of a label
abbrev pub stroke_places : State → LabelStroke → List Spot
stroke_places s t = label_place s t.from ∷ (label_place s t.to ∷ [])

-- the pen at a place, with its coordinates recomputed
abbrev pub pen_placed : Page → Frame → Spot → Position
pen_placed page f q = record { place = q; coordinates = back page f q }

-- the pen at a point of a label
abbrev pub pen_at_point : Page → State → Spot → Position
pen_at_point page s p = pen_placed page s.frame (label_place s p)

-- where the pen is
abbrev pub position : State → Position
position s = record { place = s.place; coordinates = s.coordinates }

abbrev pub pen_at : Page → Frame → Spot → Position
pen_at page f u = record { place = place page f u; coordinates = u }

-- where a move ends, in coordinates
abbrev pub target : Bool → Spot → ℤ → ℤ → Spot
target relative u x y = record {
  x = if relative then u.x +ℤ x else x;
  y = if relative then u.y +ℤ y else y;
}

-- its lines, each a list of places, one after another; whether strokes join each place of a line to the next; and where
-- the pen ends
pub record Path : Type 0 where
  pub lines : List (List Spot)
  pub draws : Bool
  pub ends : Position

-- a path of one line
abbrev pub along : List Spot → Bool → Position → Path
along places draws ends = record { lines = places ∷ []; draws = draws; ends = ends }

-- from the pen to these coordinates, drawn if the pen is down
abbrev pub move_path : Page → State → Spot → Path
move_path page s u =
    let p = pen_at page s.frame u in
    along (s.place ∷ (p.place ∷ [])) s.is_down p

-- from the pen over the corners of a rectangle and back, drawn whether the pen is down or not
abbrev pub edge_path : Page → State → Spot → Path
edge_path page s u =
    let beside = place page s.frame (record { x = u.x; y = s.coordinates.y }) in
    let above = place page s.frame (record { x = s.coordinates.x; y = u.y }) in
    along (s.place ∷ (beside ∷ (place page s.frame u ∷ (above ∷ (s.place ∷ []))))) true (position s)

-- over the ends of a circle's chords, from its first point on, drawn whether the pen is down or not
abbrev pub circle_path : Page → State → Curve → Path
circle_path page s c = along (place page s.frame c.from ∷ curve_places page s.frame c) true (position s)

-- from the pen over the ends of an arc's chords to the last one, drawn if the pen is down
abbrev pub arc_path : Page → State → Curve → Path
arc_path page s c =
    let end = pen_at page s.frame (curve_point c (chord_count c)) in
    along (s.place ∷ curve_places page s.frame c) s.is_down end

-- from the pen to where it is: a dot, if the pen is up
abbrev pub touch_path : State → Path
touch_path s = along (s.place ∷ (s.place ∷ [])) (not s.is_down) (position s)

-- each stroke of a label, drawn whether the pen is down or not, and the place of its end, where the pen is put
abbrev pub write_path : Page → State → List ℕ → Path
write_path page s bytes =
    let end = pen_at_point page s (label_end bytes) in
    record { lines = map (stroke_places s) (label_strokes bytes) ++ ((end.place ∷ []) ∷ []); draws = true; ends = end }

-- from the pen nowhere
abbrev pub no_path : State → Path
no_path s = record { lines = []; draws = false; ends = position s }

abbrev pub path : Page → State → Step → Path
path page s Touch = touch_path s
path page s (Move x y) = move_path page s (target s.is_relative s.coordinates x y)
path page s (Go relative x y) = move_path page s (target relative s.coordinates x y)
path page s (Edge relative x y) = edge_path page s (target relative s.coordinates x y)
path page s (DrawCircle c) = circle_path page s (circle_curve s.coordinates c)
path page s (DrawArc relative a) = arc_path page s (arc_curve s.coordinates (target relative s.coordinates a.x a.y) a)
path page s (Write bytes) = write_path page s bytes
path page s _ = no_path s
