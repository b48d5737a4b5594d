-- The characters of bytes.
use Rattle.std.specs.Prelude.{ℕ, ◌+◌, ◌-◌, ◌==◌, nat_le, if◌then◌else◌, List, [], Option, Some, None, codes, slice_index_or}
use Rattle.std.specs.Int.{is_in_range}
use Rattle.std.specs.List.{position_or_len}
use Rattle.character_sets.specs.declared.set.CharacterSet.{CharacterSet}
use Rattle.character_sets.specs.declared.set.CharacterSet.TheVariants.{Roman8, Latin1, Windows1252, Pc8, InternationalReference, UnitedKingdom, German, French, OldFrench, Italian, Spanish, Portuguese, Swedish, SwedishNames, NorwegianDanish, Norwegian, Japanese, Hp9825, FrenchGerman, Scandinavian, SpanishLatinAmerican, RomanExtensions}
use Rattle.character_sets.specs.declared.national.TheConstants.{INTERNATIONAL_REFERENCE, UNITED_KINGDOM, GERMAN, FRENCH, OLD_FRENCH, ITALIAN, SPANISH, PORTUGUESE, SWEDISH, SWEDISH_NAMES, NORWEGIAN_DANISH, NORWEGIAN, JAPANESE, HP_9825, FRENCH_GERMAN, SCANDINAVIAN, SPANISH_LATIN_AMERICAN}
use Rattle.character_sets.specs.declared.tables.TheConstants.{ROMAN_8, WINDOWS_1252, PC_8}

-- the bytes of ASCII that sets of seven bits replace
abbrev pub replaced_bytes : List ℕ
replaced_bytes = codes "#$'@[\\]^`{|}~"

-- the characters that a set has in their place; none if it replaces none
abbrev pub replacements : CharacterSet → List ℕ
replacements InternationalReference = INTERNATIONAL_REFERENCE
replacements UnitedKingdom = UNITED_KINGDOM
replacements German = GERMAN
replacements French = FRENCH
replacements OldFrench = OLD_FRENCH
replacements Italian = ITALIAN
replacements Spanish = SPANISH
replacements Portuguese = PORTUGUESE
replacements Swedish = SWEDISH
replacements SwedishNames = SWEDISH_NAMES
replacements NorwegianDanish = NORWEGIAN_DANISH
replacements Norwegian = NORWEGIAN
replacements Japanese = JAPANESE
replacements Hp9825 = HP_9825
replacements FrenchGerman = FRENCH_GERMAN
replacements Scandinavian = SCANDINAVIAN
replacements SpanishLatinAmerican = SPANISH_LATIN_AMERICAN
replacements _ = []

-- the place of a byte among them, or their number if it is not there
abbrev pub replaced_place : ℕ → ℕ
replaced_place byte = position_or_len (λ replaced. replaced == byte) replaced_bytes

-- the character of a byte of ASCII: that in its place, or its own
abbrev pub replaced : CharacterSet → ℕ → ℕ
replaced set byte = slice_index_or (replacements set) (replaced_place byte) byte

-- an entry of a table: 0 is open
abbrev pub table_entry : ℕ → Option ℕ
table_entry character = if character == 0 then None else Some character

abbrev pub entry_of : List ℕ → ℕ → Option ℕ
entry_of table i = table_entry (slice_index_or table i 0)

-- the character of a byte from 128 on: sets other than the first three have Roman-8's
abbrev pub upper : CharacterSet → ℕ → Option ℕ
upper Pc8 byte = entry_of PC_8 (byte - 128)
upper Windows1252 byte = if nat_le 160 byte then Some byte else entry_of WINDOWS_1252 (byte - 128)
upper Latin1 byte = if nat_le 160 byte then Some byte else None
upper _ byte = if nat_le 160 byte then entry_of ROMAN_8 (byte - 160) else None

-- the character of a byte from 32 to 126
abbrev pub lower : CharacterSet → ℕ → Option ℕ
lower RomanExtensions byte = if byte == 32 then Some byte else upper Roman8 (byte + 128)
lower set byte = Some (replaced set byte)

-- the code point of the printed character that a byte is, if it is one
unfoldable pub code_point : CharacterSet → ℕ → Option ℕ
code_point set byte =
    if is_in_range 32 126 byte then lower set byte else
    if nat_le 128 byte then upper set byte else None
