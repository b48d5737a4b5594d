-- Items that are noted as bad do nothing.
use Rattle.std.proofs.Common.{◌≡◌, ◌∙◌, ap, sym, refl, ℤ, Bool, true, false, true≢false, List, [], ◌∷◌, ◌++◌, Option, Some, None}
use Rattle.std.specs.Prelude.{if◌then◌else◌}
use Rattle.hpgl_text.specs.Shapes.{ItemShape, BodyShape, Params, Further}
use Rattle.hpgl_text.specs.Shapes as shape
use Rattle.hpgl_text.specs.declared.further.Further as further
use Rattle.hpgl_text.specs.declared.further.Further.TheVariants as of
use Rattle.hpgl_text.specs.declared.instruction.Instruction.{Instruction}
use Rattle.hpgl_text.specs.declared.instruction.Instruction.TheVariants as is
use Rattle.plot_settings.specs.Meanings.{Step, Set, DrawCircle, DrawArc, asks, edges, meaning, sets}
use Rattle.plot_settings.specs.Slants.{is_off_axis}
use Rattle.hpgl_plot.specs.declared.note.NoteKind.TheVariants.{Axis, Bad, Skipped}
use Rattle.hpgl_plot.specs.Notes.{parameters_noted}
use Rattle.full_settings.specs.declared.fill_setting.FillSetting.TheVariants as fill
use Rattle.full_settings.specs.declared.ink_setting.InkSetting.TheVariants as ink
use Rattle.full_settings.specs.declared.polygon_setting.PolygonStep.TheVariants as step
use Rattle.full_settings.specs.declared.requests.FurtherRequest.{FurtherRequest}
use Rattle.full_settings.specs.declared.requests.FurtherRequest.TheVariants as request
use Rattle.full_settings.specs.FurtherRequests.{further_request, request_by}
use Rattle.full_settings.specs.CharacterParameters.{names_unknown_set}
use Rattle.full_settings.specs.ColourRanges.{pen_colour_in}
use Rattle.full_settings.specs.LetterParameters.{letter_direction}
use Rattle.full_settings.specs.WidthParameters.{percent_width}
use Rattle.full_notes.proofs.Noted.{read_noted}
use Rattle.full_notes.specs.Contexts.{Context, first_context, asked_in, body_read, is_misplaced, numbers_read, params_read, read_in, request_in}
use Rattle.full_notes.specs.Notes.{after_body, bad_if, bad_without, body_noted, context_after, noted_on, params_after, params_noted, request_after, request_noted, width_noted}
use Rattle.full_plot.specs.Items.{as_core, full_steps, letters_steps, params_steps, request_steps, taken, width_steps, widths_steps}
use Rattle.full_plot.specs.Laws.{draws_in_part}
use Rattle.full_plot.specs.Machine.{FullStep, run}
use Rattle.full_plot.specs.Worlds.{FullWorld}

-- no steps, and the context stays
record Nothing (steps : List FullStep) (before after : Context) : Type 0 where
  no_steps : steps ≡ []
  same : after ≡ before

-- numbers that are noted as bad ask for nothing
wrong_if : (is_wrong is_off : Bool) → (if is_wrong then Some Bad else if is_off then Some Axis else None) ≡ Some Bad → is_wrong ≡ true
wrong_if true is_off h = refl
wrong_if false true h = absurd (cc)
wrong_if false false h = absurd (cc)

is_wrong : (i : Instruction) (ns : List ℤ) → parameters_noted i ns ≡ Some Bad → (meaning i ns).is_wrong ≡ true
is_wrong i ns h = wrong_if (meaning i ns).is_wrong (is_off_axis i ns) h

asks_nothing : {A : Type 0} (step : A → Step) (asked : Option A) → (asks step asked).is_wrong ≡ true → (asks step asked).steps ≡ []
asks_nothing step (Some a) h = absurd (true≢false (sym h))
asks_nothing step None h = refl

edges_nothing : (relative : Bool) (ns : List ℤ) → (edges relative ns).is_wrong ≡ true → (edges relative ns).steps ≡ []
edges_nothing relative [] h = refl
edges_nothing relative (x ∷ []) h = refl
edges_nothing relative (x ∷ (y ∷ ns)) h = absurd (true≢false (sym h))

-- without steps of core, and without more
none_of_two : (steps : List Step) (more : List FullStep) → steps ≡ [] → more ≡ [] → as_core steps ++ more ≡ []
none_of_two steps more one two = rw (one, two) refl

none_if : (is_wrong : Bool) (steps : List FullStep) → is_wrong ≡ true → (if is_wrong then [] else steps) ≡ []
none_if true steps h = refl
none_if false steps h = absurd (true≢false (sym h))

no_setting : {S : Type 0} (s : Option S) → bad_without s ≡ Some Bad → s ≡ None
no_setting (Some s) h = absurd (cc)
no_setting None h = refl

no_widths : (in_percent : Bool) (ns : List ℤ) → width_noted in_percent ns ≡ Some Bad → width_steps in_percent ns ≡ []
no_widths true ns h = ap widths_steps (no_setting (percent_width ns) h)
no_widths false ns h = ap as_core (asks_nothing Set _ (is_wrong is.PenWidth ns h))

-- DI sets two directions, or none
direction_nothing : (ns : List ℤ) → bad_without (letter_direction ns) ≡ Some Bad → as_core (meaning is.Direction ns).steps ++ letters_steps (letter_direction ns) ≡ []
direction_nothing ns h =
    none_of_two _ _ (asks_nothing Set _ (bad_is (meaning is.Direction ns).is_wrong (sym (read_noted first_context is.Direction ns refl) ∙ h)))
    (ap letters_steps (no_setting (letter_direction ns) h))
  where
    bad_is : (is_wrong : Bool) → bad_if is_wrong ≡ Some Bad → is_wrong ≡ true
    bad_is true h = refl
    bad_is false h = absurd (cc)

set_nothing : (i : Instruction) (ns : List ℤ) {A : Type 0} (step : A → Step) (asked : Option A) → parameters_noted i ns ≡ Some Bad → meaning i ns ≡ asks step asked
    → as_core (meaning i ns).steps ++ [] ≡ []
set_nothing i ns step asked h e =
    none_of_two _ [] (ap (λ m. m.steps) e ∙ asks_nothing step asked (sym (ap (λ m. m.is_wrong) e) ∙ is_wrong i ns h)) refl

params_nothing : (c : Context) (i : Instruction) (ns : List ℤ) → params_noted c i ns ≡ Some Bad → draws_in_part (Params i ns) ≡ false → params_steps c i ns ≡ []
params_nothing c is.Initialize ns h t = absurd (cc)
params_nothing c is.DefaultValues ns h t = absurd (cc)
params_nothing c is.InputPoints ns h t =
    none_of_two _ _ (asks_nothing Set _ (is_wrong is.InputPoints ns h)) (none_if _ _ (is_wrong is.InputPoints ns h))
params_nothing c is.Scale ns h t = set_nothing is.Scale ns Set _ h refl
params_nothing c is.Rotate ns h t = set_nothing is.Rotate ns Set _ h refl
params_nothing c is.InputWindow ns h t = set_nothing is.InputWindow ns Set _ h refl
params_nothing c is.SelectPen ns h t = set_nothing is.SelectPen ns Set _ h refl
params_nothing c is.PenWidth ns h t = no_widths c.in_percent ns h
params_nothing c is.PenColour ns h t = ap (λ s. as_core (sets s).steps) (no_setting (pen_colour_in c.ranges ns) h)
params_nothing c is.PenUp ns h t = absurd (true≢false t)
params_nothing c is.PenDown ns h t = absurd (true≢false t)
params_nothing c is.PlotAbsolute ns h t = absurd (true≢false t)
params_nothing c is.PlotRelative ns h t = absurd (true≢false t)
params_nothing c is.EdgeAbsolute ns h t = none_of_two _ [] (edges_nothing false ns (is_wrong is.EdgeAbsolute ns h)) refl
params_nothing c is.EdgeRelative ns h t = none_of_two _ [] (edges_nothing true ns (is_wrong is.EdgeRelative ns h)) refl
params_nothing c is.Circle ns h t = set_nothing is.Circle ns DrawCircle _ h refl
params_nothing c is.ArcAbsolute ns h t = set_nothing is.ArcAbsolute ns (DrawArc false) _ h refl
params_nothing c is.ArcRelative ns h t = set_nothing is.ArcRelative ns (DrawArc true) _ h refl
params_nothing c is.CharacterSize ns h t =
    none_of_two _ _ (asks_nothing Set _ (is_wrong is.CharacterSize ns h)) (none_if _ _ (is_wrong is.CharacterSize ns h))
params_nothing c is.Direction ns h t = direction_nothing ns h

-- IN and DF are never bad
params_same : (c : Context) (i : Instruction) (ns : List ℤ) → params_noted c i ns ≡ Some Bad → params_after c i ≡ c
params_same c is.Initialize ns h = absurd (cc)
params_same c is.DefaultValues ns h = absurd (cc)
params_same c i ns h = refl

-- only BZ and BR ask for curves, and only UC for a character
abbrev is_curves : FurtherRequest → Bool
is_curves (request.Curves relative) = true
is_curves request.UserCharacter = true
is_curves r = false

not_curves : {A : Type 0} (asked : A → FurtherRequest) → ((a : A) → is_curves (asked a) ≡ false) → (o : Option A) → is_curves (request_by asked o) ≡ false
not_curves asked other (Some a) = other a
not_curves asked other None = refl

further_no_curves : (f : further.Further) (ns read : List ℤ) → draws_in_part (Further f ns) ≡ false → is_curves (further_request f read) ≡ false
further_no_curves of.LineType ns read t = not_curves request.Line (λ a. refl) _
further_no_curves of.UserLineType ns read t = not_curves request.Line (λ a. refl) _
further_no_curves of.WidthUnit ns read t = not_curves request.Width (λ a. refl) _
further_no_curves of.PenThickness ns read t = not_curves request.Width (λ a. refl) _
further_no_curves of.RelativeSize ns read t = not_curves request.Letter (λ a. refl) _
further_no_curves of.Slant ns read t = not_curves request.Letter (λ a. refl) _
further_no_curves of.RelativeDirection ns read t = not_curves request.Letter (λ a. refl) _
further_no_curves of.TextPath ns read t = not_curves request.Letter (λ a. refl) _
further_no_curves of.LabelOrigin ns read t = not_curves request.Letter (λ a. refl) _
further_no_curves of.ExtraSpace ns read t = not_curves request.Letter (λ a. refl) _
further_no_curves of.CharacterPlot ns read t = not_curves request.Move (λ a. refl) _
further_no_curves of.TickLength ns read t = not_curves request.Ticks (λ a. refl) _
further_no_curves of.PolygonMode ns read t = not_curves request.Polygon (λ a. refl) _
further_no_curves of.FillPolygon ns read t = not_curves request.FillPolygon (λ a. refl) _
further_no_curves of.FillType ns read t = not_curves request.Fill (λ a. refl) _
further_no_curves of.AnchorCorner ns read t = not_curves request.Anchor (λ a. refl) _
further_no_curves of.FillAbsolute ns read t = not_curves (request.Rectangle false) (λ a. refl) _
further_no_curves of.FillRelative ns read t = not_curves (request.Rectangle true) (λ a. refl) _
further_no_curves of.EdgeWedge ns read t = not_curves request.EdgeWedge (λ a. refl) _
further_no_curves of.FillWedge ns read t = not_curves request.FillWedge (λ a. refl) _
further_no_curves of.ArcAbsoluteThreePoint ns read t = not_curves (request.Arc false) (λ a. refl) _
further_no_curves of.ArcRelativeThreePoint ns read t = not_curves (request.Arc true) (λ a. refl) _
further_no_curves of.BezierAbsolute ns read t = absurd (true≢false t)
further_no_curves of.BezierRelative ns read t = absurd (true≢false t)
further_no_curves of.UserCharacter ns read t = absurd (true≢false t)
further_no_curves of.ChordTolerance ns read t = not_curves request.Chords (λ a. refl) _
further_no_curves of.Transparency ns read t = not_curves request.Ink (λ a. refl) _
further_no_curves of.ScreenedVectors ns read t = not_curves request.Ink (λ a. refl) _
further_no_curves of.RelativePoints ns read t = not_curves request.Points (λ a. refl) _
further_no_curves of.ColourRange ns read t = not_curves request.Colours (λ a. refl) _
further_no_curves of.StandardFont ns read t = not_curves request.Characters (λ a. refl) _
further_no_curves of.AlternateFont ns read t = not_curves request.Characters (λ a. refl) _
further_no_curves f ns read t = refl

asked_no_curves : (in_polygon : Bool) (r : FurtherRequest) → is_curves r ≡ false → is_curves (asked_in in_polygon r) ≡ false
asked_no_curves true r h = h
asked_no_curves false (request.Polygon step.Begin) h = refl
asked_no_curves false (request.Polygon step.Close) h = refl
asked_no_curves false (request.Polygon step.End) h = refl
asked_no_curves false r h = h

only_skipped : (is_skipped : Bool) → (if is_skipped then Some Skipped else None) ≡ Some Bad → ⊥
only_skipped true h = absurd (cc)
only_skipped false h = absurd (cc)

request_nothing : (c : Context) (r : FurtherRequest) (ns : List ℤ) → request_noted r ns ≡ Some Bad → is_curves r ≡ false
    → Nothing (request_steps r ns) c (request_after c r)
request_nothing c request.Wrong ns h k = record { no_steps = refl; same = refl }
request_nothing c (request.Curves relative) ns h k = absurd (true≢false k)
request_nothing c request.UserCharacter ns h k = absurd (true≢false k)
request_nothing c (request.Characters s) ns h k = absurd (only_skipped (names_unknown_set s) h)
request_nothing c (request.Fill fill.Solid) ns h k = absurd (cc)
request_nothing c (request.Fill fill.Pattern) ns h k = absurd (cc)
request_nothing c (request.Fill (fill.Hatched cross spacing angle)) ns h k = absurd (cc)
request_nothing c (request.Fill (fill.Shaded level)) ns h k = absurd (cc)
request_nothing c (request.Ink (ink.HidesWhite hides)) ns h k = absurd (cc)
request_nothing c (request.Ink (ink.Screen level)) ns h k = absurd (cc)
request_nothing c (request.Ink ink.OtherScreen) ns h k = absurd (cc)
request_nothing c r ns h k = absurd (cc)

body_nothing : (c : Context) (b : BodyShape) → noted_on c b ≡ Some Bad → draws_in_part b ≡ false → Nothing (full_steps c b) c (after_body c b)
body_nothing c (Params i ns) h t = record { no_steps = params_nothing c i ns h t; same = params_same c i ns h }
body_nothing c (Further f ns) h t =
    request_nothing c (request_in c f ns) ns h (asked_no_curves c.in_polygon _ (further_no_curves f ns (numbers_read c.usual_chords f ns) t))
body_nothing c shape.Bad h t = record { no_steps = refl; same = refl }
body_nothing c (shape.Escape taken) h t = absurd (true≢false t)
body_nothing c b h t = absurd (cc)

-- as it is read
same_part : (i : Instruction) (ns read : List ℤ) → draws_in_part (Params i ns) ≡ false → draws_in_part (Params i read) ≡ false
same_part is.PenUp ns read t = t
same_part is.PenDown ns read t = t
same_part is.PlotAbsolute ns read t = t
same_part is.PlotRelative ns read t = t
same_part i ns read t = refl

read_no_part : (is_bad usual : Bool) (b : BodyShape) → draws_in_part b ≡ false → draws_in_part (if is_bad then shape.Bad else body_read usual b) ≡ false
read_no_part true usual b t = refl
read_no_part false usual (Params i ns) t = same_part i ns (params_read usual i ns) t
read_no_part false usual b t = t

pub bad_does_nothing : (w : FullWorld) (i : ItemShape) → body_noted w.context i.body ≡ Some Bad → draws_in_part i.body ≡ false → taken w i.body ≡ Some w
bad_does_nothing w i h t =
    let c = w.context in
    let n = body_nothing c (read_in c i.body) h (read_no_part (is_misplaced c.in_polygon i.body) c.usual_chords i.body t) in
    ap (λ (steps : List FullStep). run (record w { context = context_after c i.body }) steps) n.no_steps
    ∙ ap (λ (after : Context). Some (record w { context = after })) n.same
