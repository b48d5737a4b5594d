-- Fills (HP-GL/2 guide: FP, RA, RR and WG, by FT and AC): lines at equal distances, where they are inside of the
-- polygons in the buffer; or, for a solid fill, one area, whose edges are those of the polygons.
use Rattle.std.specs.Prelude.{ℕ, ◌*◌, ◌^◌, ℤ, pos, ◌+ℤ◌, nat_abs, nat_eq, Bool, true, false, List, [], ◌∷◌, ◌++◌}
use Rattle.std.specs.Prelude.{length, map, nat_lt, if◌then◌else◌}
use Rattle.std.specs.Int.{int_max, int_min}
use Rattle.areas.specs.declared.area.Area.{Area}
use Rattle.exact.specs.Fraction.{quotient, round}
use Rattle.exact.specs.declared.spot.Spot.{Spot}
use Rattle.line_types.specs.Patterns.{length_by_percent}
use Rattle.plot_frame.specs.declared.axis.Axis.{Axis}
use Rattle.plot_frame.specs.declared.pair.AxisName.TheVariants.{X}
use Rattle.plot_page.specs.Segments.{Segment}
use Rattle.plot_settings.specs.declared.setting.Rotation.{Rotation}
use Rattle.plot_settings.specs.declared.setting.Rotation.TheVariants as rotation
use Rattle.polygons.specs.Fills.{spans}
use Rattle.polygons.specs.declared.edge.Edge.{Edge}
use Rattle.polygons.specs.declared.lines.Lines.{Lines}
use Rattle.polygons.specs.declared.lines.Rule.{Rule}
use Rattle.polygons.specs.declared.lines.Rule.TheVariants.{OddCounts, Winding}
use Rattle.polygons.specs.declared.span.Span.{Span}
use Rattle.hpgl_plot.specs.declared.state.State.{State}
use Rattle.hpgl_plot.specs.Bounds.{line_in}
use Rattle.hpgl_plot.specs.Inks.{unscreened}
use Rattle.hpgl_plot.specs.Strokes.{by_a_pen, pen_width, stroke}
use Rattle.hpgl_plot.specs.Machine as core
use Rattle.full_settings.specs.declared.fill_setting.FillKind.{FillKind}
use Rattle.full_settings.specs.declared.fill_setting.FillKind.TheVariants.{Solid, Hatched, CrossHatched, Shaded}
use Rattle.full_settings.specs.LineStyles.{diagonal}
use Rattle.full_plot.specs.declared.fills.Ink.{Ink}
use Rattle.full_plot.specs.declared.fills.Ink.TheVariants.{Width, Line}
use Rattle.full_plot.specs.Inks.{fills_nothing}
use Rattle.full_plot.specs.Lines.{drawn_in_type}
use Rattle.full_plot.specs.Work.{worked}
use Rattle.full_plot.specs.Worlds.{FullWorld, page_origin}

abbrev pub rule_by : Bool → Rule
rule_by by_winding = if by_winding then Winding else OddCounts

-- lines at this angle, so many ticks of 1/256 grain apart, one of them through a place
abbrev pub lines_at : ℤ → ℕ → Spot → Lines
lines_at angle apart anchor = record { angle = angle; apart = apart; anchor = anchor }

-- lines are a plotter unit apart at least, and 2^40 ticks at most
abbrev pub cut_distance : ℤ → ℕ
cut_distance n = nat_abs (int_min (int_max n (pos 4096)) (pos (2 ^ 40)))

-- shading at 45 degrees: lines of 0.35 mm (224 grains) that cover as much as the level says
abbrev pub shading_distance : ℕ → ℕ
shading_distance level = cut_distance (round (quotient (pos (100 * (224 * (256 * 10 ^ 6)))) (pos level)))

abbrev pub shading_lines : ℕ → Lines
shading_lines level = lines_at (pos 45000) (shading_distance level) page_origin

-- a spacing along an axis, in ticks
abbrev pub spacing_on : Axis → ℕ → ℤ
spacing_on a spacing = round (quotient (pos (256 * (nat_abs a.slope * spacing))) a.under)

-- the spacing of FT, along x, or by spacing 0 one percent of the distance from P1 to P2
abbrev pub spacing_in : FullWorld → ℤ
spacing_in w =
    let s = w.core.state in
    if nat_eq w.filling.fill.spacing 0 then pos (length_by_percent (diagonal s.frame.points) 1000000)
    else spacing_on (line_in w.core.page s.frame X) w.filling.fill.spacing

-- the distance of lines of hatching: the spacing, but lines are no denser than half the pen's width
abbrev pub hatching_distance : FullWorld → ℕ
hatching_distance w =
    let s = w.core.state in cut_distance (int_max (spacing_in w) (pos (128 * pen_width s)))

-- RO turns hatching
abbrev pub hatching_turn : Rotation → ℤ
hatching_turn rotation.None = pos 0
hatching_turn rotation.Quarter = pos 90000
hatching_turn rotation.Half = pos 180000
hatching_turn rotation.ThreeQuarters = pos 270000

abbrev pub hatching_lines : FullWorld → ℤ → Lines
hatching_lines w more =
    lines_at (pos w.filling.fill.angle +ℤ hatching_turn w.core.state.frame.rotation +ℤ more) (hatching_distance w) w.filling.anchor

-- the line of a span, whatever pen is selected
abbrev pub span_stroke : State → Span → Segment
span_stroke s p = stroke (by_a_pen s) p.from p.to

abbrev pub with_stroke : FullWorld → Segment → FullWorld
with_stroke w l = record w { core = core.with_strokes w.core w.core.state (l ∷ []) }

-- a span of a fill as a stroke of this width, which is not screened
abbrev pub inked_span : ℕ → FullWorld → Span → FullWorld
inked_span width w p = with_stroke w (record (span_stroke (unscreened w.core.state) p) { width = width })

-- a line that gives no stroke counts as work
abbrev pub counted : FullWorld → FullWorld → FullWorld
counted before after = if nat_eq (length after.core.kept) (length before.core.kept) then worked 1 after else after

-- a span of a fill as a line in the line type
abbrev pub lined_span : FullWorld → Span → FullWorld
lined_span w p = counted w (drawn_in_type w (span_stroke w.core.state p ∷ []))

-- spans one after another; nothing more is drawn when there is too much
abbrev pub unless : Bool → FullWorld → FullWorld → FullWorld
unless true w v = w
unless false w v = v

abbrev pub with_span : Ink → FullWorld → Span → FullWorld
with_span (Width width) w p = inked_span width w p
with_span Line w p = lined_span w p

abbrev pub over_spans : Ink → FullWorld → List Span → FullWorld
over_spans ink w [] = w
over_spans ink w (p ∷ ps) = unless w.core.full w (over_spans ink (with_span ink w p) ps)

abbrev pub over_lines : Ink → FullWorld → Rule → Lines → FullWorld
over_lines ink w rule lines = over_spans ink w (spans lines rule w.buffer.edges)

-- the edges of the buffer as spans
abbrev pub edge_span : Edge → Span
edge_span e = record { from = e.from; to = e.to }

-- as strokes of width 0
abbrev pub edges_inked : FullWorld → FullWorld
edges_inked w = over_spans (Width 0) w (map edge_span w.buffer.edges)

-- an area of the strokes after the first `first`, if there are any
abbrev pub area_of : ℕ → ℕ → Rule → List Area
area_of first end rule = if nat_lt first end then record { first = first; end = end; rule = rule } ∷ [] else []

-- what was drawn after so many strokes are the edges of an area
abbrev pub with_area : ℕ → Rule → FullWorld → FullWorld
with_area first rule w = record w { areas = w.areas ++ area_of first (length w.core.kept) rule }

-- solid: one area, whose edges are those of the buffer
abbrev pub solid_filled : Rule → FullWorld → FullWorld
solid_filled rule w = with_area (length w.core.kept) rule (edges_inked w)

abbrev pub shaded : Rule → FullWorld → FullWorld
shaded rule w =
    let level = w.filling.fill.level in
    if nat_eq level 0 then w else
    if nat_eq level 100000000 then solid_filled rule w else
    over_lines (Width 224) w rule (shading_lines level)

abbrev pub hatched : Rule → ℤ → FullWorld → FullWorld
hatched rule more w = over_lines Line w rule (hatching_lines w more)

abbrev pub filled_by : FillKind → Rule → FullWorld → FullWorld
filled_by Solid rule w = solid_filled rule w
filled_by Hatched rule w = hatched rule (pos 0) w
filled_by CrossHatched rule w = hatched rule (pos 90000) (hatched rule (pos 0) w)
filled_by Shaded rule w = shaded rule w

-- FP: the places in the buffer count as work
abbrev pub buffer_filled : Bool → FullWorld → FullWorld
buffer_filled by_winding w =
    let v = worked w.buffer.places w in
    if fills_nothing v.filling.fill.kind v.core.state then v else
    filled_by v.filling.fill.kind (rule_by by_winding) v
