-- Items of core are noted alike whatever is told of escapes.
use Rattle.std.proofs.Common.{◌≡◌, ◌∙◌, ◌++◌, ap, refl, sym, Bool, true, false, true≢false, List, [], ◌∷◌, Option, All}
use Rattle.std.proofs.lemmas.List.Elements.{All-head, All-tail}
use Rattle.hpgl_plot.specs.declared.note.Note.{Note}
use Rattle.hpgl_plot.specs.declared.note.NoteKind.{NoteKind}
use Rattle.hpgl_plot.specs.Notes.{notes_with}
use Rattle.hpgl_text.specs.Shapes.{BodyShape, ItemShape}
use Rattle.hpgl_text.specs.Shapes as shape
use Rattle.full_notes.specs.Contexts.{Context, first_context}
use Rattle.full_notes.specs.Notes.{context_after, item_noted, notes_from, notes_told, told_after}
use Rattle.full_plot.specs.Laws.{IsCoreItem, is_core_body}

noted_alike : (c : Context) (told : List (Option NoteKind)) (b : BodyShape) → is_core_body b ≡ true → item_noted c told b ≡ item_noted c [] b
noted_alike c told (shape.Escape taken) h = absurd (true≢false (sym h))
noted_alike c told b h = refl

stays_told : (told : List (Option NoteKind)) (b : BodyShape) → is_core_body b ≡ true → told_after told b ≡ told
stays_told told (shape.Escape taken) h = absurd (true≢false (sym h))
stays_told told b h = refl

alike_from : (c : Context) (told : List (Option NoteKind)) (items : List ItemShape) → All IsCoreItem items → notes_from c told items ≡ notes_from c [] items
alike_from c told [] all = refl
alike_from c told (i ∷ more) all =
    let is_core : is_core_body i.body ≡ true = All-head IsCoreItem i more all in
    let next = context_after c i.body in
    ap (λ (own : Option NoteKind). notes_with own i ++ notes_from next (told_after told i.body) more) (noted_alike c told i.body is_core)
    ∙ ap (λ (t : List (Option NoteKind)). notes_with (item_noted c [] i.body) i ++ notes_from next t more) (stays_told told i.body is_core)
    ∙ ap (λ (ns : List Note). notes_with (item_noted c [] i.body) i ++ ns) (alike_from next told more (All-tail IsCoreItem i more all))
    ∙ ap (λ (t : List (Option NoteKind)). notes_with (item_noted c [] i.body) i ++ notes_from next t more) (sym (stays_told [] i.body is_core))

pub told_alike : (told : List (Option NoteKind)) (items : List ItemShape) → All IsCoreItem items → notes_told told items ≡ notes_told [] items
told_alike told items all = alike_from first_context told items all
