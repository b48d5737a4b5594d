-- The steps of the items of a plot in the profile full.
use Rattle.std.specs.Prelude.{ℤ, Bool, true, false, List, [], ◌∷◌, ◌++◌, map, Option, Some, None, if◌then◌else◌}
use Rattle.hpgl_text.specs.Shapes.{BodyShape, Params, DamagedMoves, DamagedCurves, Kept, Symbol}
use Rattle.hpgl_text.specs.Shapes as shape
use Rattle.hpgl_text.specs.declared.instruction.Instruction.{Instruction}
use Rattle.hpgl_text.specs.declared.instruction.Instruction.TheVariants.{Initialize, DefaultValues, InputPoints}
use Rattle.hpgl_text.specs.declared.instruction.Instruction.TheVariants.{PenWidth, PenColour, CharacterSize}
use Rattle.hpgl_text.specs.declared.instruction.Instruction.TheVariants.{Direction}
use Rattle.plot_settings.specs.declared.setting.Setting.TheVariants.{Start}
use Rattle.plot_settings.specs.Meanings.{Step, Set, meaning, sets, body_steps}
use Rattle.plot_settings.specs.Requests.{move_steps}
use Rattle.full_settings.specs.declared.requests.FurtherRequest.{FurtherRequest}
use Rattle.full_settings.specs.declared.requests.FurtherRequest.TheVariants as request
use Rattle.full_settings.specs.declared.letter_setting.LetterSetting.{LetterSetting}
use Rattle.full_settings.specs.declared.letter_setting.LetterSetting.TheVariants.{AbsoluteSize, FontSize}
use Rattle.full_settings.specs.declared.width_setting.WidthSetting.{WidthSetting}
use Rattle.full_settings.specs.ColourRanges.{pen_colour_in}
use Rattle.full_settings.specs.CurveParameters.{curve_points}
use Rattle.full_settings.specs.LetterParameters.{letter_direction}
use Rattle.full_settings.specs.UserMoves.{user_moves}
use Rattle.full_settings.specs.WidthParameters.{percent_width}
use Rattle.full_notes.specs.Contexts.{Context, read_in, request_in}
use Rattle.full_notes.specs.Notes.{context_after}
use Rattle.full_plot.specs.Commands.{asked_of, page_end}
use Rattle.full_plot.specs.Worlds.{FullWorld}
use Rattle.full_plot.specs.Machine.{FullStep, Core, Style, Restyle, Restart, Widen, Rewiden, PointsBy, Letter}
use Rattle.full_plot.specs.Machine.{CharactersBy, InkBy, Mark}
use Rattle.full_plot.specs.Machine.{Keep, Print, Place, TickBy, Tick, ArcThrough, Curve, PolygonBy, EdgeBuffer}
use Rattle.full_plot.specs.Machine.{FillBuffer, FillBy, AnchorBy, Rectangle, WedgeEdge, WedgeFill, EndSheet, run}
use Rattle.full_plot.specs.Machine.{UserMoveBy, UserEnd, Obey}

-- UC: its moves, and the way on; without numbers nothing
abbrev pub character_steps : List ℤ → List FullStep
character_steps [] = []
character_steps ns = map UserMoveBy (user_moves ns) ++ UserEnd ∷ []

-- the steps of what a further instruction asks for by its numbers; CR and CT only change how other items are read
abbrev pub request_steps : FurtherRequest → List ℤ → List FullStep
request_steps (request.Line s) ns = Style s ∷ []
request_steps (request.Width s) ns = Widen s ∷ []
request_steps (request.Letter s) ns = Letter s ∷ []
request_steps (request.Ink s) ns = InkBy s ∷ []
request_steps (request.Characters s) ns = CharactersBy s ∷ []
request_steps (request.Ticks t) ns = TickBy t ∷ []
request_steps (request.Points p) ns = PointsBy p ∷ []
request_steps (request.Colours r) ns = []
request_steps (request.Move m) ns = Place m ∷ []
request_steps (request.Tick is_upright) ns = Tick is_upright ∷ []
request_steps (request.Arc relative points) ns = ArcThrough relative points ∷ []
request_steps (request.Curves relative) ns = map (Curve relative) (curve_points ns)
request_steps (request.Polygon p) ns = PolygonBy p ∷ []
request_steps request.EdgePolygon ns = EdgeBuffer ∷ []
request_steps (request.FillPolygon by_winding) ns = FillBuffer by_winding ∷ []
request_steps (request.Fill s) ns = FillBy s ∷ []
request_steps (request.Anchor a) ns = AnchorBy a ∷ []
request_steps (request.Rectangle relative c) ns = Rectangle relative c ∷ []
request_steps (request.EdgeWedge w) ns = WedgeEdge w ∷ []
request_steps (request.FillWedge w) ns = WedgeFill w ∷ []
request_steps (request.Chords usual) ns = []
request_steps request.UserCharacter ns = character_steps ns
request_steps request.Print ns = Print ∷ []
request_steps request.EndSheet ns = EndSheet ∷ []
request_steps request.Begin ns = Core (Set Start) ∷ (Restart ∷ [])
request_steps request.Wrong ns = []

-- wrong numbers set nothing
abbrev pub letters_steps : Option LetterSetting → List FullStep
letters_steps (Some s) = Letter s ∷ []
letters_steps None = []

-- where the size of letters comes from after a good SI: from its numbers, or without numbers from the font
abbrev pub size_by : List ℤ → LetterSetting
size_by [] = FontSize
size_by _ = AbsoluteSize

-- what an instruction of core does besides: IN and DF restore what else is set; after a good IP widths in percent are
-- taken of the new P1 and P2; a good SI sets the size that SR had set; DI keeps its numbers
abbrev pub more_steps : Instruction → List ℤ → List FullStep
more_steps Initialize ns = Restart ∷ []
more_steps DefaultValues ns = Restyle ∷ []
more_steps InputPoints ns = if (meaning InputPoints ns).is_wrong then [] else Rewiden ∷ []
more_steps CharacterSize ns = if (meaning CharacterSize ns).is_wrong then [] else Letter (size_by ns) ∷ []
more_steps Direction ns = letters_steps (letter_direction ns)
more_steps _ ns = []

-- steps of core
abbrev pub as_core : List Step → List FullStep
as_core steps = map Core steps

-- PW is in millimetres or in percent, as the most recent WU says, and PC in the ranges of the most recent CR
abbrev pub widths_steps : Option WidthSetting → List FullStep
widths_steps (Some s) = Widen s ∷ []
widths_steps None = []

abbrev pub width_steps : Bool → List ℤ → List FullStep
width_steps true ns = widths_steps (percent_width ns)
width_steps false ns = as_core (meaning PenWidth ns).steps

abbrev pub params_steps : Context → Instruction → List ℤ → List FullStep
params_steps c PenWidth ns = width_steps c.in_percent ns
params_steps c PenColour ns = as_core (sets (pen_colour_in c.ranges ns)).steps
params_steps c instruction ns = as_core (meaning instruction ns).steps ++ more_steps instruction ns

-- what an item does
abbrev pub full_steps : Context → BodyShape → List FullStep
full_steps c (shape.Further f ns) = request_steps (request_in c f ns) ns
full_steps c (Params instruction ns) = params_steps c instruction ns
full_steps c (DamagedMoves moves ns) = as_core (move_steps moves ns)
full_steps c (DamagedCurves relative ns) = map (Curve relative) (curve_points ns)
full_steps c (Kept bytes) = Keep bytes ∷ []
full_steps c (Symbol byte) = Mark byte ∷ []
full_steps c (shape.Escape taken) = Obey (asked_of taken) ∷ []
full_steps c shape.FormFeed = Obey page_end ∷ []
full_steps c body = as_core (body_steps body)

-- an item is read by the context before it, and makes its steps in the one after it
abbrev pub taken : FullWorld → BodyShape → Option FullWorld
taken w body =
    run (record w { context = context_after w.context body }) (full_steps w.context (read_in w.context body))
