-- What each further instruction asks for by its numbers.
use Rattle.std.specs.Prelude.{ℤ, Bool, true, false, List, Option, Some, None, ⊤}
use Rattle.hpgl_text.specs.declared.further.Further as further
use Rattle.hpgl_text.specs.declared.further.Further.TheVariants as of
use Rattle.plot_settings.specs.Bounds.{IsCorner}
use Rattle.character_sets.specs.declared.sets.Selection.TheVariants.{Standard, Alternate}
use Rattle.full_settings.specs.CharacterMoves.{character_move, IsCharacterMove}
use Rattle.full_settings.specs.CharacterParameters.{set_choice, font_choice, IsCharacterSetting}
use Rattle.full_settings.specs.declared.character_setting.CharacterSetting.TheVariants.{Select}
use Rattle.full_settings.specs.ColourRanges.{colour_ranges_of, IsColourRanges}
use Rattle.full_settings.specs.CurveParameters.{arc_points}
use Rattle.full_settings.specs.InkParameters.{screen, transparency}
use Rattle.full_settings.specs.LetterParameters.{relative_size, slant, relative_direction, space, letter_origin, text_path}
use Rattle.full_settings.specs.LetterParameters.{IsLetterSetting}
use Rattle.full_settings.specs.LineParameters.{line_type, user_line_type}
use Rattle.full_settings.specs.LineStyles.{IsLineSetting}
use Rattle.full_settings.specs.RelativePoints.{relative_points, IsRelativePoints}
use Rattle.full_settings.specs.FillParameters.{fill_type, IsFillSetting}
use Rattle.full_settings.specs.PolygonParameters.{anchor, by_winding, opposite_corner, polygon_step, usual_chords, wedge}
use Rattle.full_settings.specs.PolygonParameters.{IsWedge}
use Rattle.full_settings.specs.TickParameters.{tick_length, IsTickLength}
use Rattle.full_settings.specs.WidthParameters.{width_unit, thickness}
use Rattle.full_settings.specs.Widths.{IsWidthSetting}
use Rattle.full_settings.specs.declared.requests.FurtherRequest.{FurtherRequest}
use Rattle.full_settings.specs.declared.requests.FurtherRequest.TheVariants.{Line, Width, Letter, Ticks, Points}
use Rattle.full_settings.specs.declared.requests.FurtherRequest.TheVariants.{Colours, Move, Tick, Arc, Curves, Print}
use Rattle.full_settings.specs.declared.requests.FurtherRequest.TheVariants.{EndSheet, Polygon, EdgePolygon}
use Rattle.full_settings.specs.declared.requests.FurtherRequest.TheVariants.{FillPolygon, Fill, Anchor, Rectangle}
use Rattle.full_settings.specs.declared.requests.FurtherRequest.TheVariants.{EdgeWedge, FillWedge, Chords, Begin}
use Rattle.full_settings.specs.declared.requests.FurtherRequest.TheVariants.{Characters, Ink, UserCharacter, Wrong}

-- what numbers ask for, or that they are wrong
abbrev pub request_by : {A : Type 0} → (A → FurtherRequest) → Option A → FurtherRequest
request_by request (Some a) = request a
request_by request None = Wrong

-- the request of right numbers, or that they are wrong
abbrev pub right_or_wrong : Option FurtherRequest → FurtherRequest
right_or_wrong request = request_by (λ (r : FurtherRequest). r) request

abbrev pub further_request : further.Further → List ℤ → FurtherRequest
further_request of.LineType ns = request_by Line (line_type ns)
further_request of.UserLineType ns = request_by Line (user_line_type ns)
further_request of.WidthUnit ns = request_by Width (width_unit ns)
further_request of.PenThickness ns = request_by Width (thickness ns)
further_request of.RelativeSize ns = request_by Letter (relative_size ns)
further_request of.Slant ns = request_by Letter (slant ns)
further_request of.RelativeDirection ns = request_by Letter (relative_direction ns)
further_request of.TextPath ns = request_by Letter (text_path ns)
further_request of.LabelOrigin ns = request_by Letter (letter_origin ns)
further_request of.ExtraSpace ns = request_by Letter (space ns)
further_request of.CharacterPlot ns = request_by Move (character_move ns)
further_request of.TickLength ns = request_by Ticks (tick_length ns)
further_request of.XTick ns = Tick true
further_request of.YTick ns = Tick false
further_request of.PolygonMode ns = request_by Polygon (polygon_step ns)
further_request of.EdgePolygon ns = EdgePolygon
further_request of.FillPolygon ns = request_by FillPolygon (by_winding ns)
further_request of.FillType ns = request_by Fill (fill_type ns)
further_request of.AnchorCorner ns = request_by Anchor (anchor ns)
further_request of.FillAbsolute ns = request_by (Rectangle false) (opposite_corner ns)
further_request of.FillRelative ns = request_by (Rectangle true) (opposite_corner ns)
further_request of.EdgeWedge ns = request_by EdgeWedge (wedge ns)
further_request of.FillWedge ns = request_by FillWedge (wedge ns)
further_request of.ArcAbsoluteThreePoint ns = request_by (Arc false) (arc_points ns)
further_request of.ArcRelativeThreePoint ns = request_by (Arc true) (arc_points ns)
further_request of.BezierAbsolute ns = Curves false
further_request of.BezierRelative ns = Curves true
further_request of.ChordTolerance ns = request_by Chords (usual_chords ns)
further_request of.RelativePoints ns = request_by Points (relative_points ns)
further_request of.ColourRange ns = request_by Colours (colour_ranges_of ns)
further_request of.StandardSet ns = Characters (set_choice Standard ns)
further_request of.AlternateSet ns = Characters (set_choice Alternate ns)
further_request of.StandardFont ns = request_by Characters (font_choice Standard ns)
further_request of.AlternateFont ns = request_by Characters (font_choice Alternate ns)
further_request of.Transparency ns = request_by Ink (transparency ns)
further_request of.ScreenedVectors ns = request_by Ink (screen ns)
further_request of.UserCharacter ns = UserCharacter
further_request of.SelectStandard ns = Characters (Select Standard)
further_request of.SelectAlternate ns = Characters (Select Alternate)
further_request of.EndSheet ns = EndSheet
further_request of.BeginPlot ns = Begin
further_request of.PrintBuffer ns = Print

-- UL has up to 21 numbers, SD and AD any number of pairs, and no other instruction more than seven numbers
abbrev pub has_many : further.Further → Bool
has_many of.UserLineType = true
has_many of.StandardFont = true
has_many of.AlternateFont = true
has_many _ = false

-- what is asked for is in its range
abbrev pub IsFurtherRequest : FurtherRequest → Type 0
IsFurtherRequest (Line s) = IsLineSetting s
IsFurtherRequest (Width s) = IsWidthSetting s
IsFurtherRequest (Letter s) = IsLetterSetting s
IsFurtherRequest (Characters s) = IsCharacterSetting s
IsFurtherRequest (Ticks t) = IsTickLength t
IsFurtherRequest (Points p) = IsRelativePoints p
IsFurtherRequest (Colours r) = IsColourRanges r
IsFurtherRequest (Move m) = IsCharacterMove m
IsFurtherRequest (Fill s) = IsFillSetting s
IsFurtherRequest (Rectangle relative c) = IsCorner c
IsFurtherRequest (EdgeWedge w) = IsWedge w
IsFurtherRequest (FillWedge w) = IsWedge w
IsFurtherRequest _ = ⊤
