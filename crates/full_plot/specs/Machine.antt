-- A plot in the profile full, one step at a time: the steps of core, with lines in the line type and labels in the
-- style that is set, and further steps.
use Rattle.std.specs.Prelude.{ℕ, Bool, true, false, List, [], ◌∷◌, length}
use Rattle.std.specs.Prelude.{Option, Some, None}
use Rattle.plot_page.specs.declared.page.Page.{Page}
use Rattle.exact.specs.declared.spot.Spot.{Spot}
use Rattle.polygons.specs.Buffers.{empty_buffer}
use Rattle.plot_settings.specs.Meanings.{Step, Set, Touch, Move, Go, Edge, DrawCircle, DrawArc, Write}
use Rattle.plot_settings.specs.declared.figure.Corner.{Corner}
use Rattle.plot_settings.specs.declared.setting.Rotation.{Rotation}
use Rattle.plot_settings.specs.declared.setting.Rotation.TheVariants.{Quarter, ThreeQuarters}
use Rattle.plot_settings.specs.declared.setting.Setting.{Setting}
use Rattle.hpgl_plot.specs.declared.state.State.{State}
use Rattle.hpgl_plot.specs.Machine as core
pub use Rattle.hpgl_plot.specs.Machine.{Runs}
use Rattle.full_settings.specs.declared.character_moves.CharacterMove.{CharacterMove}
use Rattle.full_settings.specs.declared.character_setting.CharacterSetting.{CharacterSetting}
use Rattle.full_settings.specs.declared.ink_setting.InkSetting.{InkSetting}
use Rattle.full_settings.specs.declared.letter_setting.LetterSetting.{LetterSetting}
use Rattle.full_settings.specs.declared.line_setting.LineSetting.{LineSetting}
use Rattle.full_settings.specs.declared.page_points.RelativePoints.{RelativePoints}
use Rattle.full_settings.specs.declared.points.ArcPoints.{ArcPoints}
use Rattle.full_settings.specs.declared.points.CurvePoints.{CurvePoints}
use Rattle.full_settings.specs.declared.fill_setting.FillSetting.{FillSetting}
use Rattle.full_settings.specs.declared.polygon_setting.Anchor.{Anchor}
use Rattle.full_settings.specs.declared.polygon_setting.Anchor.TheVariants.{PageOrigin, At}
use Rattle.full_settings.specs.declared.polygon_setting.PolygonStep.{PolygonStep}
use Rattle.full_settings.specs.declared.polygon_setting.Wedge.{Wedge}
use Rattle.full_settings.specs.declared.tick_length.TickLength.{TickLength}
use Rattle.full_settings.specs.declared.user_moves.UserMove.{UserMove}
use Rattle.full_settings.specs.declared.width_setting.WidthSetting.{WidthSetting}
use Rattle.full_settings.specs.Characters.{characters_with, usual_characters}
use Rattle.full_settings.specs.FillParameters.{fill_with}
use Rattle.full_settings.specs.LineStyles.{style_with, usual_style, diagonal}
use Rattle.full_settings.specs.RelativePoints.{setting_of}
use Rattle.full_settings.specs.Widths.{widths_by, percents_with, grains_with}
use Rattle.full_plot.specs.declared.plotter.FullPlotter.{FullPlotter}
use Rattle.full_plot.specs.Commands.{Asked, obeyed_all}
use Rattle.full_plot.specs.Curves.{arc_step, curve_step, if_in_range, curve_pen}
use Rattle.full_plot.specs.Fills.{buffer_filled}
use Rattle.full_plot.specs.Inks.{ink_set}
use Rattle.full_plot.specs.Polygons.{edge_step, edges_drawn, kept_step, lined_step, polygon_set}
use Rattle.full_plot.specs.Sheets.{sheet_ended}
use Rattle.full_plot.specs.Texts.{at_margin, lettered, marked_by, moved_by_characters, ticked, written}
use Rattle.full_plot.specs.UserCharacters.{user_ended, user_moved}
use Rattle.full_plot.specs.Wedges.{wedge_edged, wedge_kept}
use Rattle.full_plot.specs.Work.{worked, then_worked}
use Rattle.full_plot.specs.Worlds.{FullWorld, page_origin, usual_filling, usual_writing, with_core, full_followed}

-- the symbol of SM at the pen, unless in polygon mode
abbrev pub marked_in : Bool → FullWorld → Option FullWorld
marked_in true w = Some w
marked_in false w = marked_by w.writing.symbol w

abbrev pub marked : FullWorld → Option FullWorld
marked w = marked_in w.context.in_polygon w

-- a move: then the left margin is where the pen is, and the symbol is drawn there
abbrev pub full_moved : FullWorld → Step → Option FullWorld
full_moved w t = full_followed (lined_step w t) (λ (v : FullWorld). marked (at_margin v))

-- a dot, unless in polygon mode
abbrev pub touched_in : Bool → FullWorld → Option FullWorld
touched_in true w = Some w
touched_in false w = with_core w (core.step w.core Touch)

abbrev pub touched : FullWorld → Option FullWorld
touched w = touched_in w.context.in_polygon w

-- a step of core: moves, rectangles, circles and arcs are drawn in the line type, or are points of a polygon in polygon
-- mode; after an arc, too, the left margin is where the pen is; labels are in the style that is set; otherwise a step
-- is as in core
abbrev pub core_step : FullWorld → Step → Option FullWorld
core_step w Touch = touched w
core_step w (Move x y) = full_moved w (Move x y)
core_step w (Go relative x y) = full_moved w (Go relative x y)
core_step w (DrawArc relative a) = full_followed (lined_step w (DrawArc relative a)) (λ (v : FullWorld). Some (at_margin v))
core_step w (Edge relative x y) = edge_step w (Edge relative x y)
core_step w (DrawCircle c) = lined_step w (DrawCircle c)
core_step w (Write bytes) = written w bytes
core_step w t = with_core w (core.step w.core t)

-- widths in grains, as core has them: those in percent are taken of P1 and P2 as they are now
abbrev pub widths_in : Bool → List (Option ℕ) → State → List ℕ
widths_in false percents s = s.widths
widths_in true percents s = widths_by (diagonal s.frame.points) percents s.widths

abbrev pub with_widths : FullWorld → List ℕ → FullWorld
with_widths w widths = record w { core = record w.core { state = record w.core.state { widths = widths } } }

abbrev pub rewidened : FullWorld → FullWorld
rewidened w = with_widths w (widths_in w.context.in_percent w.percents w.core.state)

-- after a WU, a PT or a PW in percent
abbrev pub widths_set : WidthSetting → FullWorld → FullWorld
widths_set s w =
    let selected = w.core.state.pen in
    let set_in_grains = with_widths w (grains_with s selected w.core.state.widths) in
    record set_in_grains { percents = percents_with s selected w.percents }

abbrev pub widened : WidthSetting → FullWorld → FullWorld
widened s w = rewidened (widths_set s w)

-- the width and the height of the page as RO turns it
abbrev pub page_width : Page → Rotation → ℕ
page_width page Quarter = page.height
page_width page ThreeQuarters = page.height
page_width page _ = page.width

abbrev pub page_height : Page → Rotation → ℕ
page_height page Quarter = page.width
page_height page ThreeQuarters = page.width
page_height page _ = page.height

-- P1 and P2 in percent of it
abbrev pub points_set : FullWorld → RelativePoints → Setting
points_set w p =
    let page = w.core.page in
    let r = w.core.state.frame.rotation in
    setting_of p (page_width page r) (page_height page r) page.left page.below

-- after IP and IR, widths in percent are taken of the new P1 and P2
abbrev pub then_rewidened : Option FullWorld → Option FullWorld
then_rewidened None = None
then_rewidened (Some w) = Some (rewidened w)

-- DF, besides what it does in core: the line style, the sets and fonts, what is set for labels and how polygons are
-- filled are those of the start, and the buffer is empty
abbrev pub restyled : FullWorld → FullWorld
restyled w =
    record w {
      style = usual_style;
      run = None;
      characters = usual_characters;
      writing = usual_writing;
      filling = usual_filling;
      buffer = empty_buffer;
    }

-- IN and BP, besides: the left margin is where the pen is
abbrev pub restarted : FullWorld → FullWorld
restarted w = at_margin (restyled w)

-- after a TR or an SV
abbrev pub inked_by : InkSetting → FullWorld → FullWorld
inked_by s w = record w { core = record w.core { state = ink_set s w.core.state } }

-- a PB, whose bytes are work
abbrev pub printed : FullWorld → Option FullWorld
printed w = then_worked (length w.writing.text) (written w w.writing.text)

-- a line of hatching goes through this place
abbrev pub with_anchor : FullWorld → Spot → FullWorld
with_anchor w q = record w { filling = record w.filling { anchor = q } }

-- AC: the place of these coordinates, which must be in range
abbrev pub anchored : FullWorld → Anchor → Option FullWorld
anchored w PageOrigin = Some (with_anchor w page_origin)
anchored w (At p) = let q = (curve_pen w false p).place in if_in_range w.core.range (q ∷ []) (Some (with_anchor w q))

-- RA, RR and WG fill what is in the buffer then, by odd counts
abbrev pub then_filled : Option FullWorld → Option FullWorld
then_filled None = None
then_filled (Some w) = Some (buffer_filled false w)

-- a step of core; what LT or UL sets; what DF and what IN do besides; what WU, PT or a PW in percent sets; widths by
-- other P1 and P2; P1 and P2 by IR; how strokes show; how letters are written; what CS, CA, SS, SA, SD or AD sets; the symbol of SM; the
-- text of BL, and PB; a CP; what TL sets, and XT or YT; an AT or an RT, and a curve of BZ or BR; a PM; EP, and FP by
-- winding or not; what FT and AC set; an RA or an RR; an EW, and a WG; a move of UC, and its
-- end; the end of a sheet; what commands of HP RTL ask
pub data FullStep : Type 0 where
  Core : Step → FullStep
  Style : LineSetting → FullStep
  Restyle : FullStep
  Restart : FullStep
  Widen : WidthSetting → FullStep
  Rewiden : FullStep
  PointsBy : RelativePoints → FullStep
  InkBy : InkSetting → FullStep
  Letter : LetterSetting → FullStep
  CharactersBy : CharacterSetting → FullStep
  Mark : Option ℕ → FullStep
  Keep : List ℕ → FullStep
  Print : FullStep
  Place : CharacterMove → FullStep
  TickBy : TickLength → FullStep
  Tick : Bool → FullStep
  ArcThrough : Bool → ArcPoints → FullStep
  Curve : Bool → CurvePoints → FullStep
  PolygonBy : PolygonStep → FullStep
  EdgeBuffer : FullStep
  FillBuffer : Bool → FullStep
  FillBy : FillSetting → FullStep
  AnchorBy : Anchor → FullStep
  Rectangle : Bool → Corner → FullStep
  WedgeEdge : Wedge → FullStep
  WedgeFill : Wedge → FullStep
  UserMoveBy : UserMove → FullStep
  UserEnd : FullStep
  EndSheet : FullStep
  Obey : List Asked → FullStep

-- no step sets what decides how items are read; an LT or a UL ends the run
abbrev pub full_step : FullWorld → FullStep → Option FullWorld
full_step w (Core t) = core_step w t
full_step w (Style s) = Some (record w { style = style_with s w.style; run = None })
full_step w Restyle = Some (restyled w)
full_step w Restart = Some (restarted w)
full_step w (Widen s) = Some (widened s w)
full_step w Rewiden = Some (rewidened w)
full_step w (PointsBy p) = then_rewidened (with_core w (core.step w.core (Set (points_set w p))))
full_step w (InkBy s) = Some (inked_by s w)
full_step w (Letter s) = Some (lettered s w)
full_step w (CharactersBy s) = Some (record w { characters = characters_with s w.characters })
full_step w (Mark byte) = Some (record w { writing = record w.writing { symbol = byte } })
full_step w (Keep bytes) = Some (record w { writing = record w.writing { text = bytes } })
full_step w Print = printed w
full_step w (Place m) = moved_by_characters w m
full_step w (TickBy t) = Some (record w { writing = record w.writing { ticks = t } })
full_step w (Tick is_upright) = ticked w is_upright
full_step w (ArcThrough relative points) = arc_step w relative points
full_step w (Curve relative points) = curve_step w relative points
full_step w (PolygonBy p) = Some (polygon_set p w)
full_step w EdgeBuffer = Some (worked w.buffer.places (edges_drawn w))
full_step w (FillBuffer by_winding) = Some (buffer_filled by_winding w)
full_step w (FillBy s) = Some (record w { filling = record w.filling { fill = fill_with s w.filling.fill } })
full_step w (AnchorBy a) = anchored w a
full_step w (Rectangle relative c) = then_filled (kept_step w (Edge relative c.x c.y))
full_step w (WedgeEdge wedge) = wedge_edged w wedge
full_step w (WedgeFill wedge) = then_filled (wedge_kept w wedge)
full_step w (UserMoveBy m) = user_moved w m
full_step w UserEnd = user_ended w
full_step w EndSheet = Some (sheet_ended w)
full_step w (Obey asked) = obeyed_all asked w

abbrev pub run : FullWorld → List FullStep → Option FullWorld
run w [] = Some w
run w (s ∷ ss) = full_followed (full_step w s) (λ (v : FullWorld). run v ss)

abbrev pub seen : FullPlotter → FullWorld
seen p = record {
  core = core.seen p.plotter;
  context = p.context;
  style = p.style;
  run = p.run;
  percents = p.percents;
  encoding = p.encoding;
  characters = p.characters;
  writing = p.writing;
  margin = p.margin;
  filling = p.filling;
  buffer = p.buffer;
  extra = p.extra;
  ends = p.ends.items;
  areas = p.areas.items;
  graphics = p.graphics;
}
