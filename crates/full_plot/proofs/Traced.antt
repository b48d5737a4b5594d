-- In polygon mode no step of an item makes a stroke.
use Rattle.std.proofs.Common.{◌≡◌, ◌∙◌, ap, sym, refl, ℤ, Bool, true, false, true≢false, List, [], ◌∷◌, ◌++◌, map, Option, Some, None, if◌then◌else◌}
use Rattle.std.specs.Prelude.{if◌then◌else◌}
use Rattle.std.specs.List.{list_all}
use Rattle.std.proofs.lemmas.Bool.{and_parts, and_from}
use Rattle.std.proofs.lemmas.List.Folds.{list_all-append}
use Rattle.hpgl_text.specs.Shapes.{ItemShape, BodyShape, Params, Further, DamagedMoves, DamagedCurves, Label, Coded}
use Rattle.hpgl_text.specs.Shapes as shape
use Rattle.hpgl_text.specs.declared.further.Further as further
use Rattle.hpgl_text.specs.declared.further.Further.TheVariants as of
use Rattle.hpgl_text.specs.declared.instruction.Instruction.{Instruction}
use Rattle.hpgl_text.specs.declared.instruction.Instruction.TheVariants as is
use Rattle.plot_settings.specs.declared.setting.Setting.{Setting}
use Rattle.hpgl_text.specs.declared.moves.Moves.{Moves}
use Rattle.hpgl_text.specs.declared.moves.Moves.TheVariants.{Up, Down, Absolute, Relative}
use Rattle.plot_settings.specs.Requests.{move_steps}
use Rattle.plot_settings.specs.Meanings.{Step, Edge, Write, entry_steps, meaning, sets}
use Rattle.plot_settings.specs.Parameters.{character_size, label_direction, scaling_points}
use Rattle.full_settings.specs.declared.letter_setting.LetterSetting.{LetterSetting}
use Rattle.full_settings.specs.declared.polygon_setting.PolygonStep.TheVariants.{Begin, Close, End}
use Rattle.full_settings.specs.declared.points.CurvePoints.{CurvePoints}
use Rattle.full_settings.specs.declared.requests.FurtherRequest.{FurtherRequest}
use Rattle.full_settings.specs.declared.requests.FurtherRequest.TheVariants as request
use Rattle.full_settings.specs.FurtherRequests.{further_request, request_by}
use Rattle.full_settings.specs.ColourRanges.{pen_colour_in}
use Rattle.full_settings.specs.CurveParameters.{curve_points}
use Rattle.full_settings.specs.LetterParameters.{letter_direction}
use Rattle.full_settings.specs.WidthParameters.{percent_width}
use Rattle.full_notes.specs.Contexts.{Context, body_read, is_bad_further, is_bad_in_polygons, is_edge, is_misplaced, numbers_read, read_in, request_in}
use Rattle.full_notes.specs.Notes.{after_body, params_after, request_after}
use Rattle.full_plot.specs.Items.{as_core, full_steps, letters_steps, more_steps, params_steps, request_steps, size_by, width_steps, widths_steps}
use Rattle.full_plot.specs.Machine.{FullStep, Core, Rewiden, Letter, Curve}
use Rattle.full_plot.proofs.Changes.{either_by, is_silent}
use Rattle.full_plot.proofs.FullChanges.{are_silent}
use Rattle.full_plot.proofs.Stills.{ArePlain, entries_plain, is_plain, params_plain}

-- the steps of the items that are carried out in polygon mode
both_silent : (on : Bool) (ss ts : List FullStep) → are_silent on ss ≡ true → are_silent on ts ≡ true → are_silent on (ss ++ ts) ≡ true
both_silent on ss ts h k = list_all-append (is_silent on) ss ts ∙ and_from (are_silent on ss) (are_silent on ts) h k

when_on : (on : Bool) (ss : List FullStep) → on ≡ true → are_silent true ss ≡ true → are_silent on ss ≡ true
when_on on ss e h = ap (λ (b : Bool). are_silent b ss) e ∙ h

sets_silent : (on : Bool) (o : Option Setting) → are_silent on (as_core (sets o).steps) ≡ true
sets_silent on (Some s) = refl
sets_silent on None = refl

plain_silent : (ts : List Step) → ArePlain ts → are_silent true (as_core ts) ≡ true
plain_silent [] h = refl
plain_silent (t ∷ ts) h =
    let both = and_parts (is_plain t) (list_all is_plain ts) h in
    and_from (is_silent true (Core t)) (are_silent true (as_core ts)) (one t both.0) (plain_silent ts both.1)
  where
    one : (t : Step) → is_plain t ≡ true → is_silent true (Core t) ≡ true
    one (Edge relative x y) h = absurd (true≢false (sym h))
    one (Write text) h = absurd (true≢false (sym h))
    one t h = refl

letters_silent : (on : Bool) (o : Option LetterSetting) → are_silent on (letters_steps o) ≡ true
letters_silent on (Some s) = refl
letters_silent on None = refl

if_wrong_silent : (on is_wrong : Bool) (s : FullStep) → is_silent on s ≡ true → are_silent on (if is_wrong then [] else s ∷ []) ≡ true
if_wrong_silent on true s h = refl
if_wrong_silent on false s h = rw h refl

widths_silent : (on in_percent : Bool) (ns : List ℤ) → are_silent on (width_steps in_percent ns) ≡ true
widths_silent on true ns = by_percent (percent_width ns)
  where
    by_percent : (o : Option _) → are_silent on (widths_steps o) ≡ true
    by_percent (Some s) = refl
    by_percent None = refl
widths_silent on false ns = sets_silent on _

set_silent : (on : Bool) (o : Option Setting) (more : List FullStep) → are_silent on more ≡ true → are_silent on (as_core (sets o).steps ++ more) ≡ true
set_silent on o more h = both_silent on (as_core (sets o).steps) more (sets_silent on o) h

params_silent : (c : Context) (i : Instruction) (ns : List ℤ) → c.in_polygon ≡ true → is_edge i ≡ false
    → are_silent (params_after c i).in_polygon (params_steps c i ns) ≡ true
params_silent c is.Initialize ns on e = refl
params_silent c is.DefaultValues ns on e = refl
params_silent c is.InputPoints ns on e =
    set_silent c.in_polygon (scaling_points ns) (more_steps is.InputPoints ns) (if_wrong_silent c.in_polygon (meaning is.InputPoints ns).is_wrong Rewiden refl)
params_silent c is.PenWidth ns on e = widths_silent _ c.in_percent ns
params_silent c is.PenColour ns on e = sets_silent _ (pen_colour_in c.ranges ns)
params_silent c is.EdgeAbsolute ns on e = absurd (true≢false e)
params_silent c is.EdgeRelative ns on e = absurd (true≢false e)
params_silent c is.CharacterSize ns on e =
    set_silent c.in_polygon (character_size ns) (more_steps is.CharacterSize ns)
    (if_wrong_silent c.in_polygon (meaning is.CharacterSize ns).is_wrong (Letter (size_by ns)) refl)
params_silent c is.Direction ns on e =
    set_silent c.in_polygon (label_direction ns) (letters_steps (letter_direction ns)) (letters_silent c.in_polygon (letter_direction ns))
params_silent c i ns on e =
    when_on c.in_polygon (params_steps c i ns) on
    (both_silent true (as_core (meaning i ns).steps) [] (plain_silent (meaning i ns).steps (params_plain i ns refl refl)) refl)

-- what is asked for in polygon mode
abbrev is_asked : FurtherRequest → Bool
is_asked request.UserCharacter = false
is_asked r = are_silent true (request_steps r [])

asked_by : {A : Type 0} (ask : A → FurtherRequest) → ((a : A) → is_asked (ask a) ≡ true) → (o : Option A) → is_asked (request_by ask o) ≡ true
asked_by ask h (Some a) = h a
asked_by ask h None = refl

further_asked : (f : further.Further) (ns : List ℤ) → is_bad_further f ≡ false → is_asked (further_request f ns) ≡ true
further_asked of.LineType ns h = asked_by request.Line (λ a. refl) _
further_asked of.UserLineType ns h = asked_by request.Line (λ a. refl) _
further_asked of.WidthUnit ns h = asked_by request.Width (λ a. refl) _
further_asked of.PenThickness ns h = asked_by request.Width (λ a. refl) _
further_asked of.RelativeSize ns h = asked_by request.Letter (λ a. refl) _
further_asked of.Slant ns h = asked_by request.Letter (λ a. refl) _
further_asked of.RelativeDirection ns h = asked_by request.Letter (λ a. refl) _
further_asked of.TextPath ns h = asked_by request.Letter (λ a. refl) _
further_asked of.LabelOrigin ns h = asked_by request.Letter (λ a. refl) _
further_asked of.ExtraSpace ns h = asked_by request.Letter (λ a. refl) _
further_asked of.CharacterPlot ns h = absurd (true≢false h)
further_asked of.TickLength ns h = asked_by request.Ticks (λ a. refl) _
further_asked of.XTick ns h = absurd (true≢false h)
further_asked of.YTick ns h = absurd (true≢false h)
further_asked of.PolygonMode ns h = asked_by request.Polygon (λ a. refl) _
further_asked of.EdgePolygon ns h = absurd (true≢false h)
further_asked of.FillPolygon ns h = absurd (true≢false h)
further_asked of.FillType ns h = asked_by request.Fill (λ a. refl) _
further_asked of.AnchorCorner ns h = asked_by request.Anchor (λ a. refl) _
further_asked of.FillAbsolute ns h = absurd (true≢false h)
further_asked of.FillRelative ns h = absurd (true≢false h)
further_asked of.EdgeWedge ns h = absurd (true≢false h)
further_asked of.FillWedge ns h = absurd (true≢false h)
further_asked of.ArcAbsoluteThreePoint ns h = asked_by (request.Arc false) (λ a. refl) _
further_asked of.ArcRelativeThreePoint ns h = asked_by (request.Arc true) (λ a. refl) _
further_asked of.ChordTolerance ns h = asked_by request.Chords (λ a. refl) _
further_asked of.Transparency ns h = asked_by request.Ink (λ a. refl) _
further_asked of.ScreenedVectors ns h = asked_by request.Ink (λ a. refl) _
further_asked of.RelativePoints ns h = asked_by request.Points (λ a. refl) _
further_asked of.ColourRange ns h = asked_by request.Colours (λ a. refl) _
further_asked of.StandardFont ns h = asked_by request.Characters (λ a. refl) _
further_asked of.AlternateFont ns h = asked_by request.Characters (λ a. refl) _
further_asked of.UserCharacter ns h = absurd (true≢false h)
further_asked of.PrintBuffer ns h = absurd (true≢false h)
further_asked f ns h = refl

curves_silent : (relative : Bool) (points : List CurvePoints) → are_silent true (map (Curve relative) points) ≡ true
curves_silent relative [] = refl
curves_silent relative (p ∷ points) = curves_silent relative points

request_silent : (c : Context) (r : FurtherRequest) (ns : List ℤ) → c.in_polygon ≡ true → is_asked r ≡ true
    → are_silent (request_after c r).in_polygon (request_steps r ns) ≡ true
request_silent c (request.Curves relative) ns on h =
    when_on c.in_polygon (map (Curve relative) (curve_points ns)) on (curves_silent relative (curve_points ns))
request_silent c request.UserCharacter ns on h = absurd (true≢false (sym h))
request_silent c (request.Polygon Begin) ns on h = refl
request_silent c (request.Polygon Close) ns on h = refl
request_silent c (request.Polygon End) ns on h = refl
request_silent c request.Begin ns on h = refl
request_silent c r ns on h = when_on c.in_polygon (request_steps r ns) on h

-- an item that may be there is read as it is, but for the numbers of chords
further_on : (c : Context) (f : further.Further) (ns : List ℤ) → c.in_polygon ≡ true → request_in c f ns ≡ further_request f (numbers_read c.usual_chords f ns)
further_on c f ns on = rw on refl

moves_plain : (moves : Moves) (ns : List ℤ) → ArePlain (move_steps moves ns)
moves_plain Up ns = params_plain is.PenUp ns refl refl
moves_plain Down ns = params_plain is.PenDown ns refl refl
moves_plain Absolute ns = params_plain is.PlotAbsolute ns refl refl
moves_plain Relative ns = params_plain is.PlotRelative ns refl refl

body_silent : (c : Context) (b : BodyShape) → c.in_polygon ≡ true → is_bad_in_polygons b ≡ false
    → are_silent (after_body c b).in_polygon (full_steps c b) ≡ true
body_silent c (Params i ns) on h = params_silent c i ns on h
body_silent c (Further f ns) on h =
    request_silent c (request_in c f ns) ns on (ap is_asked (further_on c f ns on) ∙ further_asked f (numbers_read c.usual_chords f ns) h)
body_silent c (Coded entries) on h = when_on c.in_polygon (as_core (entry_steps entries)) on (plain_silent (entry_steps entries) (entries_plain entries))
body_silent c (DamagedMoves moves ns) on h =
    when_on c.in_polygon (as_core (move_steps moves ns)) on (plain_silent (move_steps moves ns) (moves_plain moves ns))
body_silent c (DamagedCurves relative ns) on h =
    when_on c.in_polygon (map (Curve relative) (curve_points ns)) on (curves_silent relative (curve_points ns))
body_silent c (Label text) on h = absurd (true≢false h)
body_silent c b on h = refl

read_is_good : (usual : Bool) (b : BodyShape) → is_bad_in_polygons b ≡ false → is_bad_in_polygons (body_read usual b) ≡ false
read_is_good usual (Params i ns) h = h
read_is_good usual b h = h

abbrev ReadSilent : Context → BodyShape → Type 0
ReadSilent c b = are_silent (after_body c b).in_polygon (full_steps c b) ≡ true

pub read_silent : (c : Context) (b : BodyShape) → c.in_polygon ≡ true → ReadSilent c (read_in c b)
read_silent c b on =
    either_by (ReadSilent c) (is_misplaced c.in_polygon b) shape.Bad (body_read c.usual_chords b) (λ e. refl)
    (λ e. body_silent c (body_read c.usual_chords b) on (read_is_good c.usual_chords b (rw on at e)))
