-- Wedges (HP-GL/2 guide: EW and WG), about the pen.
use Rattle.std.specs.Prelude.{ℕ, ◌+◌, pos, ◌+ℤ◌, nat_abs, nat_eq, true, List, [], ◌∷◌, ◌++◌, map, Option, if◌then◌else◌}
use Rattle.std.specs.List.{range_with_len}
use Rattle.exact.specs.declared.spot.Spot.{Spot}
use Rattle.plot_arc.specs.Arcs.{chord_point_of, chords_of, turn_after}
use Rattle.plot_page.specs.declared.page.Page.{Page}
use Rattle.hpgl_plot.specs.declared.state.State.{State}
use Rattle.hpgl_plot.specs.Frames.{place}
use Rattle.hpgl_plot.specs.Paths.{right_of}
use Rattle.full_settings.specs.declared.polygon_setting.Wedge.{Wedge}
use Rattle.full_plot.specs.Lines.{drawn_along}
use Rattle.full_plot.specs.Polygons.{figure_kept, only_figure, with_buffer}
use Rattle.full_plot.specs.Worlds.{FullWorld}

-- the end of its k-th chord, and its first point, the 0th: the point on the right of the pen, turned
abbrev pub wedge_place : Page → State → Wedge → ℕ → Spot
wedge_place page s w k =
    place page s.frame
    (chord_point_of s.coordinates (right_of s.coordinates w.radius) (pos w.start +ℤ turn_after w.chord w.sweep k))

abbrev pub round_places : Page → State → Wedge → List Spot
round_places page s w = map (wedge_place page s w) (range_with_len 0 (1 + chords_of w.chord w.sweep))

-- a whole turn is without the pen's place
abbrev pub wedge_places : Page → State → Wedge → List Spot
wedge_places page s w =
    if nat_eq (nat_abs w.sweep) 360000 then round_places page s w
    else s.place ∷ (round_places page s w ++ s.place ∷ [])

-- the wedge is the only polygon in the buffer: None if a place is out of range
abbrev pub wedge_kept : FullWorld → Wedge → Option FullWorld
wedge_kept w wedge = figure_kept w (wedge_places w.core.page w.core.state wedge)

-- EW: its edge is drawn, too
abbrev pub wedge_edged : FullWorld → Wedge → Option FullWorld
wedge_edged w wedge =
    let places = wedge_places w.core.page w.core.state wedge in
    with_buffer (only_figure places) (drawn_along w true places)
