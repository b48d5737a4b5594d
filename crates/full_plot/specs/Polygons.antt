-- Polygon mode (HP-GL/2 guide: PM): the places that the pen comes to are points of a polygon, and nothing is drawn. EA,
-- ER, RA, RR, EW and WG put their figure into the buffer.
use Rattle.std.specs.Prelude.{Bool, true, false, List, [], ◌∷◌, map, filter, Option, Some, None, if◌then◌else◌}
use Rattle.exact.specs.declared.spot.Spot.{Spot}
use Rattle.plot_page.specs.Segments.{Segment}
use Rattle.plot_settings.specs.Meanings.{Step, DrawCircle, DrawArc}
use Rattle.polygons.specs.Buffers.{Contents, begun_at, reached_at, closed, empty_buffer}
use Rattle.polygons.specs.declared.edge.Edge.{Edge}
use Rattle.hpgl_plot.specs.declared.state.State.{State}
use Rattle.hpgl_plot.specs.Strokes.{are_in_range, by_a_pen, stroke}
use Rattle.full_settings.specs.declared.polygon_setting.PolygonStep.{PolygonStep}
use Rattle.full_settings.specs.declared.polygon_setting.PolygonStep.TheVariants.{Begin, Close, End}
use Rattle.full_plot.specs.Lines.{drawn_in_type, with_state, line_step, places_of, state_after}
use Rattle.full_plot.specs.Worlds.{FullWorld}

-- further places of a polygon
abbrev pub reached_all : Bool → Contents → List Spot → Contents
reached_all is_drawn b [] = b
reached_all is_drawn b (q ∷ qs) = reached_all is_drawn (reached_at b q is_drawn) qs

-- the places to which the pen comes: None if one is out of range
abbrev pub reached : FullWorld → List Spot → Option FullWorld
reached w places =
    let s = w.core.state in
    if are_in_range w.core.range (s.place ∷ places)
    then Some (record w { buffer = reached_all s.is_down w.buffer places })
    else None

-- the places after the first one
abbrev pub reached_past : Bool → Contents → List Spot → Contents
reached_past is_drawn b [] = b
reached_past is_drawn b (q ∷ qs) = reached_all is_drawn b qs

-- places that are a polygon of its own, whose edges are drawn
abbrev pub figure_in : Contents → List Spot → Contents
figure_in b [] = b
figure_in b (q ∷ qs) = closed (reached_all true (begun_at b q) qs) true

abbrev pub only_figure : List Spot → Contents
only_figure places = figure_in empty_buffer places

-- it is the only polygon in the buffer: None if a place is out of range
abbrev pub figure_kept : FullWorld → List Spot → Option FullWorld
figure_kept w places = if are_in_range w.core.range places then Some (record w { buffer = only_figure places }) else None

abbrev pub with_buffer : Contents → Option FullWorld → Option FullWorld
with_buffer b None = None
with_buffer b (Some w) = Some (record w { buffer = b })

-- the buffer after a step that passes these places, whether the pen is down or not: a circle is a polygon of its own;
-- the points of an arc follow the pen's place
abbrev pub traced : FullWorld → Step → List Spot → Contents
traced w (DrawCircle c) places = figure_in (closed w.buffer w.core.state.is_down) places
traced w (DrawArc relative a) places =
    let s = w.core.state in reached_past s.is_down (begun_at w.buffer s.place) places
traced w t places = reached_past w.core.state.is_down w.buffer places

-- a step in polygon mode: None if a place is out of range
unfoldable pub trace_step : FullWorld → Step → Option FullWorld
trace_step w t =
    let places = places_of w t in
    if are_in_range w.core.range places then Some (record (with_state w (state_after w t)) { buffer = traced w t places }) else None

-- a step with lines, in polygon mode or out of it
abbrev pub lined_by : Bool → FullWorld → Step → Option FullWorld
lined_by true w t = trace_step w t
lined_by false w t = line_step w t

abbrev pub lined_step : FullWorld → Step → Option FullWorld
lined_step w t = lined_by w.context.in_polygon w t

-- the edge of a rectangle, which is the only polygon in the buffer then
abbrev pub edge_step : FullWorld → Step → Option FullWorld
edge_step w t = with_buffer (only_figure (places_of w t)) (line_step w t)

-- a filled one is only put into the buffer
abbrev pub kept_step : FullWorld → Step → Option FullWorld
kept_step w t = figure_kept w (places_of w t)

-- PM: polygon mode begins with an empty buffer and the pen's place, or a polygon is closed
abbrev pub polygon_set : PolygonStep → FullWorld → FullWorld
polygon_set Begin w = record w { buffer = begun_at empty_buffer w.core.state.place }
polygon_set Close w = record w { buffer = closed w.buffer w.core.state.is_down }
polygon_set End w = record w { buffer = closed w.buffer w.core.state.is_down }

-- the edges of the buffer as lines, whatever pen is selected
abbrev pub edge_line : State → Edge → Segment
edge_line s e = stroke (by_a_pen s) e.from e.to

abbrev pub drawn_edges : List Edge → List Edge
drawn_edges edges = filter (λ e. e.is_drawn) edges

-- EP: the edges that are drawn, in the line type
abbrev pub edges_drawn : FullWorld → FullWorld
edges_drawn w = drawn_in_type w (map (edge_line w.core.state) (drawn_edges w.buffer.edges))
