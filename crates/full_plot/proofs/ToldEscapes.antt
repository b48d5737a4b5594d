-- What is noted on items, of whose escapes it is told, one item after another.
use Rattle.std.proofs.Common.{◌≡◌, ◌∙◌, ◌+◌, ap, ap₂, sym, refl, List, [], ◌∷◌, ◌++◌, append-nil, append_assoc, length, length-append, Option, Ok}
use Rattle.hpgl_text.specs.Shapes.{BodyShape, ItemShape, Escape}
use Rattle.hpgl_plot.specs.declared.note.NoteKind.{NoteKind}
use Rattle.hpgl_plot.specs.Notes.{notes_with}
use Rattle.full_notes.specs.Notes.{context_after, item_noted, notes_from, told_after}
use Rattle.full_plot.specs.Drawings.{full_runs}
use Rattle.full_plot.specs.Items.{taken}
use Rattle.full_plot.specs.Noted.{full_noted, told_by, told_from, told_with}
use Rattle.full_plot.specs.Worlds.{FullWorld}
use Rattle.full_plot.proofs.LabelsOver.{past}

-- what is told first is noted on an item if it is an escape
noted_first : (w : FullWorld) (b : BodyShape) (own : Option NoteKind) (more : List (Option NoteKind)) → own ≡ full_noted w b
    → item_noted w.context (told_with own b ++ more) b ≡ own
noted_first w (Escape bytes) own more e = refl
noted_first w b own more e = sym e

-- and the rest of those after it
rest_told : (b : BodyShape) (own : Option NoteKind) (more : List (Option NoteKind)) → told_after (told_with own b ++ more) b ≡ more
rest_told (Escape bytes) own more = refl
rest_told b own more = refl

-- an item that is carried out, and those after it
pub told_past : (w v : FullWorld) (i : ItemShape) (more : List ItemShape) (own : Option NoteKind) → full_runs w (i ∷ []) ≡ Ok v → own ≡ full_noted w i.body
    → told_from w (i ∷ more) ≡ told_with own i.body ++ told_from v more
told_past w v i more own h e =
    ap (λ (o : Option FullWorld). told_by w i.body o (λ (u : FullWorld). told_from u more)) (past (taken w i.body) i v h)
    ∙ ap (λ (noted : Option NoteKind). told_with noted i.body ++ told_from v more) (sym e)

-- the notes on these items, where the note on the first is known
pub notes_split : (w v : FullWorld) (i : ItemShape) (rest items : List ItemShape) (own : Option NoteKind) → items ≡ i ∷ rest
    → full_runs w (i ∷ []) ≡ Ok v → own ≡ full_noted w i.body
    → length (notes_from w.context (told_from w items) items)
    ≡ length (notes_with own i) + length (notes_from (context_after w.context i.body) (told_from v rest) rest)
notes_split w v i rest items own is h e =
    let b : BodyShape = i.body in
    let more : List (Option NoteKind) = told_from v rest in
    let told : List (Option NoteKind) = told_with own b ++ more in
    ap (λ (list : List ItemShape). length (notes_from w.context (told_from w list) list)) is
    ∙ ap (λ (t : List (Option NoteKind)). length (notes_from w.context t (i ∷ rest))) (told_past w v i rest own h e)
    ∙ length-append (notes_with (item_noted w.context told b) i) (notes_from (context_after w.context b) (told_after told b) rest)
    ∙ ap₂ (λ (k : Option NoteKind) (t : List (Option NoteKind)). length (notes_with k i) + length (notes_from (context_after w.context b) t rest))
    (noted_first w b own more e) (rest_told b own more)

-- what is told, with what is told of an item
pub told_more : (w v : FullWorld) (i : ItemShape) (rest items : List ItemShape) (own : Option NoteKind) (before after : List (Option NoteKind))
    → items ≡ i ∷ rest → full_runs w (i ∷ []) ≡ Ok v → own ≡ full_noted w i.body → after ≡ before ++ told_with own i.body
    → after ++ told_from v rest ≡ before ++ told_from w items
told_more w v i rest items own before after is h e k =
    ap (λ (t : List (Option NoteKind)). t ++ told_from v rest) k
    ∙ append_assoc before (told_with own i.body) (told_from v rest)
    ∙ ap (λ (t : List (Option NoteKind)). before ++ t) (sym (told_past w v i rest own h e))
    ∙ ap (λ (list : List ItemShape). before ++ told_from w list) (sym is)

-- after all items
pub told_at_end : (w : FullWorld) (items : List ItemShape) (before all : List (Option NoteKind)) → items ≡ [] → before ++ told_from w items ≡ all
    → before ≡ all
told_at_end w items before all e h =
    sym (append-nil before) ∙ ap (λ (is : List ItemShape). before ++ told_from w is) (sym e) ∙ h
