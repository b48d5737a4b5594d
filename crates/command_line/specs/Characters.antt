-- What `--characters` names: how the bytes of labels are read, whatever the plot chooses.
use Rattle.std.specs.Prelude.{List, [], ◌∷◌, Option, codes, find, option_map}
use Rattle.std.specs.Str.{bytes_eq}
use Rattle.clap.specs.Words.{Text}
use Rattle.character_sets.specs.declared.encoding.Encoding.{Encoding}
use Rattle.character_sets.specs.declared.encoding.Encoding.TheVariants.{Always, Utf8}
use Rattle.character_sets.specs.declared.set.CharacterSet.TheVariants.{Ascii, Latin1, Pc8, Roman8, Windows1252}

-- the names, and what each means
abbrev pub encodings : List (Text × Encoding)
encodings =
    (codes "roman-8", Always Roman8)
    ∷ (codes "latin-1", Always Latin1)
    ∷ (codes "windows-1252", Always Windows1252)
    ∷ (codes "pc-8", Always Pc8)
    ∷ (codes "ascii", Always Ascii)
    ∷ (codes "utf-8", Utf8)
    ∷ []

-- what a list has for a name
abbrev pub encoding_in : List (Text × Encoding) → Text → Option Encoding
encoding_in its name = option_map (λ it. it.1) (find (λ it. bytes_eq it.0 name) its)

-- what this name means
abbrev pub encoding_named : Text → Option Encoding
encoding_named name = encoding_in encodings name
