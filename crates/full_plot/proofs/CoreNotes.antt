-- What is noted on items of core in the profile full.
use Rattle.std.proofs.Common.{◌≡◌, ◌∙◌, ap, sym, refl, true, false, true≢false, ℤ, List, [], ◌∷◌, ◌++◌, Option, Some, None, All}
use Rattle.std.proofs.lemmas.Bool.{not-true}
use Rattle.std.proofs.lemmas.List.Elements.{All-head, All-tail}
use Rattle.hpgl_text.specs.Shapes.{ItemShape, BodyShape, Params, Further}
use Rattle.hpgl_text.specs.Shapes as shape
use Rattle.hpgl_text.specs.declared.instruction.Instruction.{Instruction}
use Rattle.hpgl_text.specs.declared.instruction.Instruction.TheVariants.{PenColour, Initialize, DefaultValues, Direction}
use Rattle.plot_settings.specs.Meanings.{sets}
use Rattle.plot_settings.specs.Parameters.{pen_colour_setting}
use Rattle.plot_settings.specs.Slants.{is_slanted}
use Rattle.plot_settings.specs.declared.setting.Setting.{Setting}
use Rattle.hpgl_plot.specs.declared.note.Note.{Note}
use Rattle.hpgl_plot.specs.declared.note.NoteKind.{NoteKind}
use Rattle.hpgl_plot.specs.Notes.{notes_with, parameters_noted}
use Rattle.hpgl_plot.specs.Notes as core
use Rattle.full_settings.specs.LetterParameters.{letter_direction, is_vector}
use Rattle.full_plot.specs.Laws.{is_core_body, IsCoreItem}
use Rattle.full_notes.proofs.Noted.{vector_noted}
use Rattle.full_notes.specs.Contexts.{Context, first_context}
use Rattle.full_notes.specs.Notes.{bad_if, bad_without, body_noted, context_after, item_noted, params_after, params_noted, notes_from, notes_told, told_after}

-- a PC in the usual ranges
by_colour : (s : Option Setting) → bad_without s ≡ bad_if (sets s).is_wrong
by_colour (Some s) = refl
by_colour None = refl

-- a DI along an axis
by_direction : (ns : List ℤ) → is_slanted ns ≡ false → bad_without (letter_direction ns) ≡ parameters_noted Direction ns
by_direction [] h = refl
by_direction (x ∷ []) h = refl
by_direction (x ∷ (y ∷ ns)) h = rw h (vector_noted (is_vector x y) x y)

params_as_in_core : (i : Instruction) (ns : List ℤ) → is_core_body (Params i ns) ≡ true → params_noted first_context i ns ≡ parameters_noted i ns
params_as_in_core PenColour ns h = by_colour (pen_colour_setting ns)
params_as_in_core Direction ns h = by_direction ns (not-true (is_slanted ns) h)
params_as_in_core i ns h = refl

body_as_in_core : (b : BodyShape) → is_core_body b ≡ true → body_noted first_context b ≡ core.body_noted b
body_as_in_core (Params i ns) h = params_as_in_core i ns h
body_as_in_core (Further f ns) h = absurd (true≢false (sym h))
body_as_in_core (shape.Escape taken) h = absurd (true≢false (sym h))
body_as_in_core b h = refl

-- no item of core changes how items are read
params_in_first : (i : Instruction) → params_after first_context i ≡ first_context
params_in_first Initialize = refl
params_in_first DefaultValues = refl
params_in_first i = refl

pub stays_first : (b : BodyShape) → is_core_body b ≡ true → context_after first_context b ≡ first_context
stays_first (Params i ns) h = params_in_first i
stays_first (Further f ns) h = absurd (true≢false (sym h))
stays_first (shape.Escape taken) h = absurd (true≢false (sym h))
stays_first b h = refl

-- no item of core is an escape
told_nothing : (b : BodyShape) → is_core_body b ≡ true → item_noted first_context [] b ≡ core.body_noted b
told_nothing (shape.Escape taken) h = absurd (true≢false (sym h))
told_nothing b h = body_as_in_core b h

tells_nothing : (b : BodyShape) → told_after [] b ≡ []
tells_nothing (shape.Escape taken) = refl
tells_nothing b = refl

pub noted_as_in_core : (items : List ItemShape) → All IsCoreItem items → notes_told [] items ≡ core.notes items
noted_as_in_core [] h = refl
noted_as_in_core (i ∷ more) h =
    let is_core : is_core_body i.body ≡ true = All-head IsCoreItem i more h in
    ap (λ (own : Option NoteKind). notes_with own i ++ notes_from (context_after first_context i.body) (told_after [] i.body) more)
    (told_nothing i.body is_core)
    ∙ ap (λ (c : Context). core.notes_of i ++ notes_from c (told_after [] i.body) more) (stays_first i.body is_core)
    ∙ ap (λ (told : List (Option NoteKind)). core.notes_of i ++ notes_from first_context told more) (tells_nothing i.body)
    ∙ ap (λ (ns : List Note). core.notes_of i ++ ns) (noted_as_in_core more (All-tail IsCoreItem i more h))
