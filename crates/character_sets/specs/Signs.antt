-- The signs of a text, and the sets after it.
use Rattle.std.specs.Prelude.{ℕ, ◌==◌, if◌then◌else◌, List, [], ◌∷◌, ◌++◌, Option, Some, None, option_map}
use Rattle.std.specs.Option.{option_or, option_to_list}
use Rattle.character_sets.specs.CodePoints.{code_point}
use Rattle.character_sets.specs.declared.set.CharacterSet.{CharacterSet}
use Rattle.character_sets.specs.declared.sets.Selection.{Selection}
use Rattle.character_sets.specs.declared.sets.Selection.TheVariants.{Standard, Alternate}
use Rattle.character_sets.specs.declared.sets.Sets.{Sets}
use Rattle.character_sets.specs.declared.sign.Sign.{Sign}
use Rattle.character_sets.specs.declared.sign.Sign.TheVariants.{Printed, CarriageReturn, LineFeed, Back, Tab}

-- the set that a selection chooses
abbrev pub chosen : Sets → Selection → CharacterSet
chosen sets Standard = sets.standard
chosen sets Alternate = sets.alternate

-- the set that is selected
abbrev pub selected : Sets → CharacterSet
selected sets = chosen sets sets.selection

-- the sets after a byte: SO, 14, selects the alternate one, and SI, 15, the standard one
abbrev pub shifted : Sets → ℕ → Sets
shifted sets byte =
    if byte == 14 then record sets { selection = Alternate } else
    if byte == 15 then record sets { selection = Standard } else sets

-- the sets after a text
abbrev pub sets_after : Sets → List ℕ → Sets
sets_after sets [] = sets
sets_after sets (byte ∷ text) = sets_after (shifted sets byte) text

-- the sign of a control character
abbrev pub control : ℕ → Option Sign
control byte =
    if byte == 8 then Some Back else
    if byte == 9 then Some Tab else
    if byte == 10 then Some LineFeed else
    if byte == 13 then Some CarriageReturn else None

-- the sign of a byte in a set
abbrev pub sign_of : CharacterSet → ℕ → Option Sign
sign_of set byte = option_or (control byte) (option_map (λ code. Printed code) (code_point set byte))

-- the signs of a text, each byte by the set that is selected there
abbrev pub signs_by_sets : Sets → List ℕ → List Sign
signs_by_sets sets [] = []
signs_by_sets sets (byte ∷ text) =
    option_to_list (sign_of (selected sets) byte) ++ signs_by_sets (shifted sets byte) text
