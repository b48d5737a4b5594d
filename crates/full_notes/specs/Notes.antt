-- What is noted on the items of a plot in the profile full.
use Rattle.std.specs.Prelude.{ℤ, Bool, true, false, not, if◌then◌else◌, List, [], ◌∷◌, ◌++◌, Option, Some, None}
use Rattle.hpgl_text.specs.Shapes.{ItemShape, BodyShape, Params}
use Rattle.hpgl_text.specs.Shapes as shape
use Rattle.hpgl_text.specs.declared.instruction.Instruction.{Instruction}
use Rattle.hpgl_text.specs.declared.instruction.Instruction.TheVariants.{Initialize, DefaultValues, PenWidth}
use Rattle.hpgl_text.specs.declared.instruction.Instruction.TheVariants.{PenColour, Direction}
use Rattle.hpgl_plot.specs.declared.note.Note.{Note}
use Rattle.hpgl_plot.specs.declared.note.NoteKind.{NoteKind}
use Rattle.hpgl_plot.specs.declared.note.NoteKind.TheVariants.{Skipped, Bad}
use Rattle.hpgl_plot.specs.Notes.{notes_with, parameters_noted}
use Rattle.hpgl_plot.specs.Notes as core
use Rattle.full_settings.specs.declared.fill_setting.FillSetting.TheVariants.{Pattern}
use Rattle.full_settings.specs.declared.ink_setting.InkSetting.TheVariants.{OtherScreen}
use Rattle.full_settings.specs.declared.polygon_setting.PolygonStep.{PolygonStep}
use Rattle.full_settings.specs.declared.polygon_setting.PolygonStep.TheVariants.{Begin, Close, End}
use Rattle.full_settings.specs.declared.requests.FurtherRequest.{FurtherRequest}
use Rattle.full_settings.specs.declared.requests.FurtherRequest.TheVariants as request
use Rattle.full_settings.specs.declared.width_setting.WidthSetting.{WidthSetting}
use Rattle.full_settings.specs.declared.width_setting.WidthSetting.TheVariants.{Millimetres, PercentOfAll}
use Rattle.full_settings.specs.CharacterParameters.{names_unknown_set}
use Rattle.full_settings.specs.ColourRanges.{pen_colour_in}
use Rattle.full_settings.specs.CurveParameters.{are_curves}
use Rattle.full_settings.specs.LetterParameters.{letter_direction}
use Rattle.full_settings.specs.UserMoves.{are_user_moves}
use Rattle.full_settings.specs.WidthParameters.{percent_width}
use Rattle.full_notes.specs.Contexts.{Context, first_context, read_in, request_in}

-- whether widths are in percent after a WU that asks for this, if they were or were not before
abbrev pub unit_after : Bool → WidthSetting → Bool
unit_after in_percent Millimetres = false
unit_after in_percent (PercentOfAll percent) = true
unit_after in_percent _ = in_percent

-- whether polygon mode is on after a PM that asks for this, if it was or was not before
abbrev pub is_on_after : PolygonStep → Bool → Bool
is_on_after Begin on = true
is_on_after Close on = on
is_on_after End on = false

-- the context after what a further instruction asks for
abbrev pub request_after : Context → FurtherRequest → Context
request_after c (request.Width s) = record c { in_percent = unit_after c.in_percent s }
request_after c (request.Colours r) = record c { ranges = r }
request_after c (request.Polygon p) = record c { in_polygon = is_on_after p c.in_polygon }
request_after c (request.Chords usual) = record c { usual_chords = usual }
request_after c request.Begin = first_context
request_after c _ = c

-- the context after an instruction of core
abbrev pub params_after : Context → Instruction → Context
params_after c Initialize = first_context
params_after c DefaultValues = record c { in_polygon = false; usual_chords = false }
params_after c _ = c

-- the context after an item, which is read by the one before it
abbrev pub after_body : Context → BodyShape → Context
after_body c (shape.Further f ns) = request_after c (request_in c f ns)
after_body c (Params instruction ns) = params_after c instruction
after_body c _ = c

abbrev pub context_after : Context → BodyShape → Context
context_after c body = after_body c (read_in c body)

-- numbers that ask for nothing are wrong
abbrev pub bad_without : {S : Type 0} → Option S → Option NoteKind
bad_without (Some setting) = None
bad_without None = Some Bad

-- wrong numbers are noted
abbrev pub bad_if : Bool → Option NoteKind
bad_if is_wrong = if is_wrong then Some Bad else None

-- what is noted on a further instruction: that its numbers are wrong, or that it has no effect, as patterns of FT and SV
-- and sets that are not known have not; numbers after those of whole curves draw nothing, and are wrong, and so is a number
-- of UC that is left alone
abbrev pub request_noted : FurtherRequest → List ℤ → Option NoteKind
request_noted request.Wrong ns = Some Bad
request_noted (request.Fill Pattern) ns = Some Skipped
request_noted (request.Ink OtherScreen) ns = Some Skipped
request_noted (request.Characters s) ns = if names_unknown_set s then Some Skipped else None
request_noted (request.Curves relative) ns = if are_curves ns then None else Some Bad
request_noted request.UserCharacter ns = bad_if (not (are_user_moves ns))
request_noted _ ns = None

-- what is noted on a PW
abbrev pub width_noted : Bool → List ℤ → Option NoteKind
width_noted true ns = bad_without (percent_width ns)
width_noted false ns = parameters_noted PenWidth ns

-- what is noted on an instruction of core: PW in percent and PC in ranges have rules of their own, and DI may be along
-- no axis
abbrev pub params_noted : Context → Instruction → List ℤ → Option NoteKind
params_noted c PenWidth ns = width_noted c.in_percent ns
params_noted c PenColour ns = bad_without (pen_colour_in c.ranges ns)
params_noted c Direction ns = bad_without (letter_direction ns)
params_noted c instruction ns = parameters_noted instruction ns

-- what is noted on an item at its first byte
abbrev pub noted_on : Context → BodyShape → Option NoteKind
noted_on c (shape.Further f ns) = request_noted (request_in c f ns) ns
noted_on c (Params instruction ns) = params_noted c instruction ns
noted_on c body = core.body_noted body

abbrev pub body_noted : Context → BodyShape → Option NoteKind
body_noted c body = noted_on c (read_in c body)

-- what is noted on an escape, by what its commands did: that is told, with one answer for each escape, in order
abbrev pub first_told : List (Option NoteKind) → Option NoteKind
first_told [] = None
first_told (noted ∷ told) = noted

abbrev pub item_noted : Context → List (Option NoteKind) → BodyShape → Option NoteKind
item_noted c told (shape.Escape taken) = first_told told
item_noted c told body = body_noted c body

-- what is told of the escapes after an item
abbrev pub others_told : List (Option NoteKind) → List (Option NoteKind)
others_told [] = []
others_told (noted ∷ told) = told

abbrev pub told_after : List (Option NoteKind) → BodyShape → List (Option NoteKind)
told_after told (shape.Escape taken) = others_told told
told_after told body = told

-- the notes on items, in their order, by the context before them and what is told of their escapes
abbrev pub notes_from : Context → List (Option NoteKind) → List ItemShape → List Note
notes_from c told [] = []
notes_from c told (i ∷ is) =
    notes_with (item_noted c told i.body) i ++ notes_from (context_after c i.body) (told_after told i.body) is

-- the notes on a plot, by what is told of its escapes
abbrev pub notes_told : List (Option NoteKind) → List ItemShape → List Note
notes_told told items = notes_from first_context told items
