-- What is noted on the items of a plot, and on its escapes.
use Rattle.std.specs.Prelude.{ℕ, List, [], ◌∷◌, ◌++◌, Option, Some, None}
use Rattle.carousel.specs.declared.carousel.Carousel.{Carousel}
use Rattle.character_sets.specs.declared.encoding.Encoding.{Encoding}
use Rattle.full_text.specs.Cut.{full_cut}
use Rattle.hpgl_plot.specs.declared.note.NoteKind.{NoteKind}
use Rattle.hpgl_text.specs.Shapes.{BodyShape, ItemShape, Escape}
use Rattle.plot_page.specs.declared.page.Page.{Page}
use Rattle.full_notes.specs.Notes.{body_noted}
use Rattle.full_plot.specs.Commands.{asked_of, noted_on}
use Rattle.full_plot.specs.Drawings.{full_at_start_with}
use Rattle.full_plot.specs.Items.{taken}
use Rattle.full_plot.specs.Worlds.{FullWorld}

-- what is noted on an item at its first byte: on an escape by what its commands do
abbrev pub full_noted : FullWorld → BodyShape → Option NoteKind
full_noted w (Escape bytes) = noted_on (asked_of bytes) w
full_noted w body = body_noted w.context body

-- what is told of an item: what is noted on it if it is an escape
abbrev pub told_with : Option NoteKind → BodyShape → List (Option NoteKind)
told_with noted (Escape bytes) = noted ∷ []
told_with noted body = []

-- of an item that is carried out, and of what comes after it
abbrev pub told_by : FullWorld → BodyShape → Option FullWorld → (FullWorld → List (Option NoteKind)) → List (Option NoteKind)
told_by w body None go = []
told_by w body (Some v) go = told_with (full_noted w body) body ++ go v

-- what is noted on each escape among items
abbrev pub told_from : FullWorld → List ItemShape → List (Option NoteKind)
told_from w [] = []
told_from w (i ∷ more) = told_by w i.body (taken w i.body) (λ (v : FullWorld). told_from v more)

-- on each of a plot
abbrev pub told_of : Encoding → Carousel → Page → List ℕ → List (Option NoteKind)
told_of encoding carousel page plot = told_from (full_at_start_with encoding carousel page) (full_cut plot)
