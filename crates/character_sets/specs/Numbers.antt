-- The numbers of sets in HP-GL/2 (SD and AD) and in HP-GL (CS and CA).
use Rattle.std.specs.Prelude.{ℕ, ◌+◌, ◌*◌, ◌==◌, List, [], ◌∷◌, Option, find, option_map}
use Rattle.character_sets.specs.declared.set.CharacterSet.{CharacterSet}
use Rattle.character_sets.specs.declared.set.CharacterSet.TheVariants.{Roman8, Latin1, Windows1252, Pc8, Ascii, InternationalReference, UnitedKingdom, German, French, OldFrench, Italian, Spanish, Portuguese, Swedish, SwedishNames, NorwegianDanish, Norwegian, Japanese, Hp9825, FrenchGerman, Scandinavian, SpanishLatinAmerican, RomanExtensions}

-- the set with a number in a list
abbrev pub set_in : List (ℕ × CharacterSet) → ℕ → Option CharacterSet
set_in rows number = option_map (λ row. row.1) (find (λ row. row.0 == number) rows)

-- the number of a set that HP calls by a number and a letter, by the letter's place in the alphabet
abbrev pub named : ℕ → ℕ → ℕ
named n letter = 32 * n + letter

-- the sets of SD and AD, by HP's names: 8U, 0N, 19U, 10U, 0U, 2U, 1E, 1G, 1F, 0F, 0I, 2S, 4S, 3S, 0S, 0D, 1D and 0K
abbrev pub symbol_sets : List (ℕ × CharacterSet)
symbol_sets =
    (named 8 21, Roman8)
    ∷ (named 0 14, Latin1)
    ∷ (named 19 21, Windows1252)
    ∷ (named 10 21, Pc8)
    ∷ (named 0 21, Ascii)
    ∷ (named 2 21, InternationalReference)
    ∷ (named 1 5, UnitedKingdom)
    ∷ (named 1 7, German)
    ∷ (named 1 6, French)
    ∷ (named 0 6, OldFrench)
    ∷ (named 0 9, Italian)
    ∷ (named 2 19, Spanish)
    ∷ (named 4 19, Portuguese)
    ∷ (named 3 19, Swedish)
    ∷ (named 0 19, SwedishNames)
    ∷ (named 0 4, NorwegianDanish)
    ∷ (named 1 4, Norwegian)
    ∷ (named 0 11, Japanese)
    ∷ []

abbrev pub set_of_symbol_set : ℕ → Option CharacterSet
set_of_symbol_set number = set_in symbol_sets number

-- the sets of CS and CA
abbrev pub hp_sets : List (ℕ × CharacterSet)
hp_sets =
    (0, Ascii)
    ∷ (1, Hp9825)
    ∷ (2, FrenchGerman)
    ∷ (3, Scandinavian)
    ∷ (4, SpanishLatinAmerican)
    ∷ (6, Japanese)
    ∷ (7, RomanExtensions)
    ∷ (9, InternationalReference)
    ∷ (30, Swedish)
    ∷ (31, SwedishNames)
    ∷ (32, NorwegianDanish)
    ∷ (33, German)
    ∷ (34, OldFrench)
    ∷ (35, UnitedKingdom)
    ∷ (36, Italian)
    ∷ (37, Spanish)
    ∷ (38, Portuguese)
    ∷ (39, Norwegian)
    ∷ []

abbrev pub set_of_hp_number : ℕ → Option CharacterSet
set_of_hp_number number = set_in hp_sets number
