-- Arcs through three places and Bezier curves (HP-GL/2 guide: AT, RT, BZ and BR). The pen goes from place to place, in
-- the line type if it is down.
use Rattle.std.specs.Prelude.{Bool, true, false, List, ℕ, [], ◌∷◌, Option, Some, None, if◌then◌else◌}
use Rattle.exact.specs.declared.spot.Spot.{Spot}
use Rattle.curves.specs.Arcs.{arc_places}
use Rattle.curves.specs.Beziers.{bezier_places}
use Rattle.polygons.specs.Buffers.{begun_at}
use Rattle.hpgl_plot.specs.declared.state.Position.{Position}
use Rattle.hpgl_plot.specs.Paths.{pen_at, target}
use Rattle.hpgl_plot.specs.Strokes.{are_in_range}
use Rattle.hpgl_plot.specs.Machine as core
use Rattle.full_settings.specs.declared.points.ArcPoints.{ArcPoints}
use Rattle.full_settings.specs.declared.points.CurvePoints.{CurvePoints}
use Rattle.full_settings.specs.declared.points.Point.{Point}
use Rattle.full_plot.specs.Lines.{drawn_along, with_state}
use Rattle.full_plot.specs.Polygons.{reached}
use Rattle.full_plot.specs.Texts.{at_margin}
use Rattle.full_plot.specs.Worlds.{FullWorld, full_followed}

-- the pen at a point of a curve
abbrev pub curve_pen : FullWorld → Bool → Point → Position
curve_pen w relative p =
    let s = w.core.state in pen_at w.core.page s.frame (target relative s.coordinates p.x p.y)

-- the lines from the pen over places, in the line type if it is down: None if a place is out of range
abbrev pub drawn_over : FullWorld → List Spot → Option FullWorld
drawn_over w places = let s = w.core.state in drawn_along w s.is_down (s.place ∷ places)

-- in polygon mode they are points of the polygon, which follow the pen's place
abbrev pub traced_over : FullWorld → List Spot → Option FullWorld
traced_over w places = reached (record w { buffer = begun_at w.buffer w.core.state.place }) places

abbrev pub lined_in : Bool → FullWorld → List Spot → Option FullWorld
lined_in true w places = traced_over w places
lined_in false w places = drawn_over w places

abbrev pub lined : FullWorld → List Spot → Option FullWorld
lined w places = lined_in w.context.in_polygon w places

-- the pen, and the left margin, at a position
abbrev pub arrived : Position → FullWorld → FullWorld
arrived end w = at_margin (with_state w (core.moved w.core.state end))

-- the pen goes over places to the last one, which is that of the end
abbrev pub gone_over : FullWorld → List Spot → Position → Option FullWorld
gone_over w places end = full_followed (lined w places) (λ (v : FullWorld). Some (arrived end v))

-- the points of a curve have to be in range, too, even if the pen does not come to them
abbrev pub if_in_range : ℕ → List Spot → Option FullWorld → Option FullWorld
if_in_range range places o = if are_in_range range places then o else None

-- whether a point of a curve is in range: the pen stays where it is
abbrev pub point_tested : FullWorld → Bool → Point → Option FullWorld
point_tested w relative p = if_in_range w.core.range ((curve_pen w relative p).place ∷ []) (Some w)

abbrev pub arc_step : FullWorld → Bool → ArcPoints → Option FullWorld
arc_step w relative a =
    let through = (curve_pen w relative a.through).place in
    let end = curve_pen w relative a.to in
    if_in_range w.core.range (through ∷ (end.place ∷ []))
    (gone_over w (arc_places w.core.state.place through end.place) end)

abbrev pub curve_step : FullWorld → Bool → CurvePoints → Option FullWorld
curve_step w relative c =
    let first = (curve_pen w relative c.first).place in
    let second = (curve_pen w relative c.second).place in
    let end = curve_pen w relative c.to in
    if_in_range w.core.range (first ∷ (second ∷ (end.place ∷ [])))
    (gone_over w (bezier_places w.core.state.place first second end.place) end)
