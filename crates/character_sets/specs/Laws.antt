-- What holds of the signs of texts.
use Rattle.std.specs.Prelude.{◌≡◌, ◌≤◌, ℕ, IsTrue, List, ◌++◌, length, Some}
use Rattle.std.specs.Char.{encode_utf8, IsScalar}
use Rattle.std.specs.List.{list_all}
use Rattle.std.specs.Str.{IsAscii}
use Rattle.character_sets.specs.Ascii.{always_reads_ascii, is_unshifted, reads_ascii}
use Rattle.character_sets.specs.Texts.{signs}
use Rattle.character_sets.specs.Utf8.{sequence}
use Rattle.character_sets.specs.declared.encoding.Encoding.{Encoding}
use Rattle.character_sets.specs.declared.encoding.Encoding.TheVariants.{Always}
use Rattle.character_sets.specs.declared.set.CharacterSet.TheVariants.{Ascii}
use Rattle.character_sets.specs.declared.sets.Sets.{Sets}

-- read in two of these ways, a text of ASCII has the same signs
abbrev pub AsciiReadsAlike : Type 0
AsciiReadsAlike =
    (one another : Encoding) (sets : Sets) (text : List ℕ)
    → IsTrue (always_reads_ascii one) → IsTrue (always_reads_ascii another) → IsAscii text
    → signs one sets text ≡ signs another sets text

-- a text of ASCII that selects no set is read as ASCII, if the set that is selected has ASCII, or that of the user
abbrev pub UnshiftedTextsAreAscii : Type 0
UnshiftedTextsAreAscii =
    (encoding : Encoding) (sets : Sets) (text : List ℕ)
    → IsTrue (reads_ascii encoding sets) → IsTrue (list_all is_unshifted text)
    → signs encoding sets text ≡ signs (Always Ascii) sets text

-- a text has at most as many signs as bytes
abbrev pub SignsAreFew : Type 0
SignsAreFew = (encoding : Encoding) (sets : Sets) (text : List ℕ) → length (signs encoding sets text) ≤ length text

-- a text begins with the UTF-8 of a scalar value from U+0080 on
pub record BeginsWithCharacter (text : List ℕ) (code : ℕ) : Type 0 where
  pub is_scalar : IsScalar code
  pub wide : 0x80 ≤ code
  pub rest : List ℕ
  pub bytes : text ≡ encode_utf8 code ++ rest

-- a text begins with a sequence of two to four bytes if and only if it begins with the UTF-8 of such a code point
pub record SequencesAreUtf8 : Type 0 where
  pub sound : (text : List ℕ) (code : ℕ) → sequence text ≡ Some code → BeginsWithCharacter text code
  pub complete : (text : List ℕ) (code : ℕ) → BeginsWithCharacter text code → sequence text ≡ Some code
