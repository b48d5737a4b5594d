-- The signs of a text by the encoding that the user chooses.
use Rattle.std.specs.Prelude.{ℕ, nat_lt, nat_le, if◌then◌else◌, List, [], ◌∷◌, ◌++◌, Option, Some, None}
use Rattle.std.specs.Option.{option_to_list}
use Rattle.character_sets.specs.Signs.{sign_of, signs_by_sets}
use Rattle.character_sets.specs.Utf8.{sequence}
use Rattle.character_sets.specs.declared.encoding.Encoding.{Encoding}
use Rattle.character_sets.specs.declared.encoding.Encoding.TheVariants.{ByPlot, Always, Utf8}
use Rattle.character_sets.specs.declared.set.CharacterSet.{CharacterSet}
use Rattle.character_sets.specs.declared.set.CharacterSet.TheVariants.{Ascii}
use Rattle.character_sets.specs.declared.sets.Selection.TheVariants.{Standard}
use Rattle.character_sets.specs.declared.sets.Sets.{Sets}
use Rattle.character_sets.specs.declared.sign.Sign.{Sign}
use Rattle.character_sets.specs.declared.sign.Sign.TheVariants.{Printed}

-- the sign of a byte, by the code point of the sequence of UTF-8 that it begins: U+0080 to U+009F are not printed, and a
-- byte over 127 that begins none has no sign
abbrev pub sign_begun : ℕ → Option ℕ → Option Sign
sign_begun byte None = if nat_lt byte 128 then sign_of Ascii byte else None
sign_begun byte (Some code) = if nat_le 0xA0 code then Some (Printed code) else None

-- the signs of a text in UTF-8, each at the first byte of its sequence: no other byte of a sequence begins one
abbrev pub utf8_signs : List ℕ → List Sign
utf8_signs [] = []
utf8_signs (byte ∷ text) = option_to_list (sign_begun byte (sequence (byte ∷ text))) ++ utf8_signs text

-- one set only
abbrev pub only : CharacterSet → Sets
only set = record { standard = set; alternate = set; selection = Standard }

-- the signs of a text, if the plot has chosen these sets before it
abbrev pub signs : Encoding → Sets → List ℕ → List Sign
signs ByPlot sets text = signs_by_sets sets text
signs (Always set) sets text = signs_by_sets (only set) text
signs Utf8 sets text = utf8_signs text
