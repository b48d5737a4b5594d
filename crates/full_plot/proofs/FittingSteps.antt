-- PM 0 is carried out in polygon mode, and fills only out of it.
use Rattle.std.proofs.Common.{◌≡◌, ◌∙◌, sym, refl, ℤ, Bool, true, false, true≢false, List, [], ◌∷◌, ◌++◌, map, Option, Some, None}
use Rattle.std.specs.Prelude.{not}
use Rattle.std.proofs.lemmas.Bool.{and_from}
use Rattle.std.proofs.lemmas.List.Folds.{list_all-append}
use Rattle.hpgl_text.specs.Shapes.{BodyShape, Params, Further, DamagedMoves, DamagedCurves, Kept, Symbol}
use Rattle.hpgl_text.specs.Shapes as shape
use Rattle.hpgl_text.specs.declared.instruction.Instruction.{Instruction}
use Rattle.hpgl_text.specs.declared.instruction.Instruction.TheVariants as is
use Rattle.plot_settings.specs.Requests.{move_steps}
use Rattle.plot_settings.specs.Meanings.{Step, body_steps, meaning, sets}
use Rattle.full_settings.specs.declared.letter_setting.LetterSetting.{LetterSetting}
use Rattle.full_settings.specs.declared.points.CurvePoints.{CurvePoints}
use Rattle.full_settings.specs.declared.polygon_setting.PolygonStep.TheVariants.{Begin, Close, End}
use Rattle.full_settings.specs.declared.requests.FurtherRequest.{FurtherRequest}
use Rattle.full_settings.specs.declared.requests.FurtherRequest.TheVariants as request
use Rattle.full_settings.specs.declared.width_setting.WidthSetting.{WidthSetting}
use Rattle.full_settings.specs.ColourRanges.{pen_colour_in}
use Rattle.full_settings.specs.CurveParameters.{curve_points}
use Rattle.full_settings.specs.LetterParameters.{letter_direction}
use Rattle.full_settings.specs.UserMoves.{user_moves}
use Rattle.full_settings.specs.declared.user_moves.UserMove.{UserMove}
use Rattle.full_settings.specs.WidthParameters.{percent_width}
use Rattle.full_notes.specs.Contexts.{Context, read_in, request_in}
use Rattle.full_notes.specs.Notes.{after_body, request_after}
use Rattle.full_plot.specs.Items.{as_core, character_steps, full_steps, letters_steps, more_steps, params_steps, request_steps, size_by, width_steps, widths_steps}
use Rattle.full_plot.specs.Machine.{FullStep, Curve, Letter, Rewiden, UserEnd, UserMoveBy}
use Rattle.full_plot.proofs.Changes.{either, fits}
use Rattle.full_plot.proofs.FullChanges.{are_fit, are_silent}
use Rattle.full_plot.proofs.Traced.{read_silent}

both_fit : (on : Bool) (ss ts : List FullStep) → are_fit on ss ≡ true → are_fit on ts ≡ true → are_fit on (ss ++ ts) ≡ true
both_fit on ss ts h k = list_all-append (fits on) ss ts ∙ and_from (are_fit on ss) (are_fit on ts) h k

core_fit : (on : Bool) (ts : List Step) → are_fit on (as_core ts) ≡ true
core_fit on [] = refl
core_fit on (t ∷ ts) = core_fit on ts

letters_fit : (on : Bool) (o : Option LetterSetting) → are_fit on (letters_steps o) ≡ true
letters_fit on (Some s) = refl
letters_fit on None = refl

widths_fit : (on : Bool) (o : Option WidthSetting) → are_fit on (widths_steps o) ≡ true
widths_fit on (Some s) = refl
widths_fit on None = refl

width_fit : (on in_percent : Bool) (ns : List ℤ) → are_fit on (width_steps in_percent ns) ≡ true
width_fit on true ns = widths_fit on (percent_width ns)
width_fit on false ns = core_fit on (meaning is.PenWidth ns).steps

more_fit : (on : Bool) (i : Instruction) (ns : List ℤ) → are_fit on (more_steps i ns) ≡ true
more_fit on is.InputPoints ns = either (λ (ss : List FullStep). are_fit on ss ≡ true) (meaning is.InputPoints ns).is_wrong [] (Rewiden ∷ []) refl refl
more_fit on is.CharacterSize ns =
    either (λ (ss : List FullStep). are_fit on ss ≡ true) (meaning is.CharacterSize ns).is_wrong [] (Letter (size_by ns) ∷ []) refl refl
more_fit on is.Direction ns = letters_fit on (letter_direction ns)
more_fit on i ns = refl

params_fit : (on : Bool) (c : Context) (i : Instruction) (ns : List ℤ) → are_fit on (params_steps c i ns) ≡ true
params_fit on c is.PenWidth ns = width_fit on c.in_percent ns
params_fit on c is.PenColour ns = core_fit on (sets (pen_colour_in c.ranges ns)).steps
params_fit on c i ns = both_fit on (as_core (meaning i ns).steps) (more_steps i ns) (core_fit on (meaning i ns).steps) (more_fit on i ns)

curves_fit : (on relative : Bool) (points : List CurvePoints) → are_fit on (map (Curve relative) points) ≡ true
curves_fit on relative [] = refl
curves_fit on relative (p ∷ points) = curves_fit on relative points

user_moves_fit : (on : Bool) (moves : List UserMove) → are_fit on (map UserMoveBy moves) ≡ true
user_moves_fit on [] = refl
user_moves_fit on (m ∷ moves) = user_moves_fit on moves

character_fit : (on : Bool) (ns : List ℤ) → are_fit on (character_steps ns) ≡ true
character_fit on [] = refl
character_fit on (n ∷ ns) = both_fit on (map UserMoveBy (user_moves (n ∷ ns))) (UserEnd ∷ []) (user_moves_fit on (user_moves (n ∷ ns))) refl

-- what is not silent comes out of polygon mode
is_off : (on : Bool) → (on ≡ true → false ≡ true) → not on ≡ true
is_off true h = absurd (true≢false (sym (h refl)))
is_off false h = refl

request_fit : (c : Context) (r : FurtherRequest) (ns : List ℤ)
    → (c.in_polygon ≡ true → are_silent (request_after c r).in_polygon (request_steps r ns) ≡ true)
    → are_fit (request_after c r).in_polygon (request_steps r ns) ≡ true
request_fit c (request.Curves relative) ns h = curves_fit c.in_polygon relative (curve_points ns)
request_fit c request.UserCharacter ns h = character_fit c.in_polygon ns
request_fit c (request.FillPolygon by_winding) ns h = and_from (not c.in_polygon) true (is_off c.in_polygon h) refl
request_fit c (request.Rectangle relative corner) ns h = and_from (not c.in_polygon) true (is_off c.in_polygon h) refl
request_fit c (request.FillWedge w) ns h = and_from (not c.in_polygon) true (is_off c.in_polygon h) refl
request_fit c (request.Polygon Begin) ns h = refl
request_fit c (request.Polygon Close) ns h = refl
request_fit c (request.Polygon End) ns h = refl
request_fit c r ns h = refl

body_fit : (c : Context) (b : BodyShape) → (c.in_polygon ≡ true → are_silent (after_body c b).in_polygon (full_steps c b) ≡ true)
    → are_fit (after_body c b).in_polygon (full_steps c b) ≡ true
body_fit c (Params i ns) h = params_fit (after_body c (Params i ns)).in_polygon c i ns
body_fit c (Further f ns) h = request_fit c (request_in c f ns) ns h
body_fit c (DamagedMoves moves ns) h = core_fit c.in_polygon (move_steps moves ns)
body_fit c (DamagedCurves relative ns) h = curves_fit c.in_polygon relative (curve_points ns)
body_fit c (Kept bytes) h = refl
body_fit c (Symbol byte) h = refl
body_fit c (shape.Escape taken) h = refl
body_fit c shape.FormFeed h = refl
body_fit c b h = core_fit c.in_polygon (body_steps b)

pub all_fit : (c : Context) (b : BodyShape) → are_fit (after_body c (read_in c b)).in_polygon (full_steps c (read_in c b)) ≡ true
all_fit c b = body_fit c (read_in c b) (read_silent c b)
