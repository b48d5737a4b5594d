-- The cut of a plot in the profile full: escapes of HP RTL and PCL may be between its instructions.
use Rattle.std.specs.Prelude.{ℕ, zero, suc, ◌+◌, ◌-◌, ◌==◌, true, false, nat_lt, if◌then◌else◌}
use Rattle.std.specs.Prelude.{List, [], ◌∷◌, length, take, drop, slice_index, Option, Some, None}
use Rattle.hpgl_text.specs.declared.profile.Profile.{Profile}
use Rattle.hpgl_text.specs.declared.profile.Profile.TheVariants.{Core, Full}
use Rattle.hpgl_text.specs.declared.terminator.Terminator.{Terminator}
use Rattle.hpgl_text.specs.Bytes.{escape as esc}
use Rattle.hpgl_text.specs.Shapes.{ItemShape, Escape, FormFeed}
use Rattle.hpgl_text.specs.Terminators.{first_terminator}
use Rattle.hpgl_text.specs.Silent.{silent_length}
use Rattle.hpgl_text.specs.Mnemonics.{kind_of}
use Rattle.hpgl_text.specs.Items.{Found, found, content, first_item}
use Rattle.hpgl_text.specs.Left.{terminator_then}
use Rattle.hpgl_text.specs.Cut.{cut}
use Rattle.escapes.specs.Commands.{Said}
use Rattle.escapes.specs.Escapes.{escape}
use Rattle.raster_requests.specs.declared.place.Language.{Language}
use Rattle.raster_requests.specs.declared.place.Language.TheVariants.{Rtl, Hpgl2}
use Rattle.full_text.specs.Languages.{language_after}

-- FF
abbrev pub form_feed : ℕ
form_feed = 12

-- the commands of the escape that a text begins with, and the bytes after it
abbrev pub escape_at : List ℕ → Option (List Said × List ℕ)
escape_at [] = None
escape_at (b ∷ text) = if b == esc then escape text else None

-- how many bytes are passed over in silence where no escape is: in RTL all but form feeds
abbrev pub silent_in : Language → List ℕ → ℕ
silent_in Rtl text = if slice_index text 0 == form_feed then 0 else 1
silent_in Hpgl2 text = silent_length text

-- the item that a text at a place of the plot begins with where no escape is, and nothing silent
abbrev pub item_in : Language → Terminator → ℕ → List ℕ → Found
item_in Rtl terminator at text = found at (0 ∷ 0 ∷ []) 1 (content FormFeed false 0)
item_in Hpgl2 terminator at text = first_item (kind_of Full) terminator at text

-- an escape is an item, with its bytes after the ESC
abbrev pub escape_item : ℕ → List ℕ → Found
escape_item at taken = found at (esc ∷ 0 ∷ []) 1 (content (Escape taken) false (length taken))

-- what a text without its last part has after its first byte
abbrev pub taken_before : List ℕ → List ℕ → List ℕ
taken_before rest text = take (length text - 1 - length rest) (drop 1 text)

-- how many bytes are silent, the item that is there if none are, and the language after that
abbrev pub silent_of : Option (List Said × List ℕ) → Language → List ℕ → ℕ
silent_of None language text = silent_in language text
silent_of (Some said) language text = 0

abbrev pub item_of : Option (List Said × List ℕ) → Language → Terminator → ℕ → List ℕ → Found
item_of None language terminator at text = item_in language terminator at text
item_of (Some said) language terminator at text = escape_item at (taken_before said.1 text)

abbrev pub language_of : Option (List Said × List ℕ) → Language → Language
language_of None language = language
language_of (Some said) language = language_after language said

-- the items from a place on, in a language and while texts end with this terminator, by at most n steps
abbrev pub items_from : ℕ → List ℕ → Language → Terminator → ℕ → List ItemShape
items_from zero plot language terminator at = []
items_from (suc n) plot language terminator at = elim (nat_lt at (length plot)) [
  | false ↦ []
  | true ↦ (let text = drop at plot in let said = escape_at text in elim (nat_lt 0 (silent_of said language text)) [
    | true ↦ items_from n plot language terminator (at + silent_of said language text)
    | false ↦ (let first = item_of said language terminator at text in
        first.item ∷ items_from n plot (language_of said language) (terminator_then terminator first.item) (at + first.bytes))
  ])
]

-- the cut in the profile full, which begins with instructions: each step takes a byte at least
abbrev pub full_cut : List ℕ → List ItemShape
full_cut plot = items_from (length plot) plot Hpgl2 first_terminator 0

-- the cut in a profile
abbrev pub cut_by : Profile → List ℕ → List ItemShape
cut_by Core plot = cut plot
cut_by Full plot = full_cut plot
