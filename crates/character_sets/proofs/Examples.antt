-- The characters of some bytes, and the signs of some texts: theorems that compute.
use Rattle.std.proofs.Common.{◌≡◌, [], ◌∷◌, ◌++◌, map, None, Some, refl, List}
use Rattle.std.specs.List.{range_with_len}
use Rattle.std.specs.Prelude.{codes}
use Rattle.character_sets.specs.CodePoints.{code_point}
use Rattle.character_sets.specs.Numbers.{set_of_hp_number, set_of_symbol_set}
use Rattle.character_sets.specs.Texts.{signs}
use Rattle.character_sets.specs.Signs.{sets_after}
use Rattle.character_sets.specs.Utf8.{sequence}
use Rattle.character_sets.specs.declared.encoding.Encoding.TheVariants.{ByPlot, Always, Utf8}
use Rattle.character_sets.specs.declared.set.CharacterSet.TheVariants.{Roman8, Latin1, Windows1252, Pc8, German, Norwegian, Hp9825, OldFrench, Swedish, RomanExtensions}
use Rattle.character_sets.specs.declared.sets.Selection.{Selection}
use Rattle.character_sets.specs.declared.sets.Selection.TheVariants.{Standard, Alternate}
use Rattle.character_sets.specs.declared.sets.Sets.{Sets}
use Rattle.character_sets.specs.declared.sign.Sign.TheVariants.{Printed, CarriageReturn, LineFeed, Back, Tab}

-- a table of examples: each value agrees with the one beside it
abbrev Agree : {X : Type 0} → List (X × X) → Type 0
Agree rows = map (λ it. it.0) rows ≡ map (λ it. it.1) rows

-- the numbers of sets: 8U, 0F, one that is none; CS 34 and 5
sets_by_numbers : Agree (
    (set_of_symbol_set 277, Some Roman8)
    ∷ (set_of_symbol_set 6, Some OldFrench)
    ∷ (set_of_symbol_set 278, None)
    ∷ (set_of_hp_number 34, Some OldFrench)
    ∷ (set_of_hp_number 5, None)
    ∷ [])
sets_by_numbers = refl

-- o with dieresis, the first and the last entry of each table, and entries that are open
entries : Agree (
    (code_point Roman8 206, Some 0xF6)  -- o with dieresis
    ∷ (code_point Latin1 246, Some 0xF6)  -- o with dieresis
    ∷ (code_point Roman8 160, Some 0xA0)  -- Roman-8
    ∷ (code_point Roman8 254, Some 0xB1)
    ∷ (code_point Roman8 255, None)
    ∷ (code_point Windows1252 128, Some 0x20AC)  -- the euro sign
    ∷ (code_point Windows1252 129, None)
    ∷ (code_point Windows1252 159, Some 0x178)
    ∷ (code_point Windows1252 160, Some 0xA0)
    ∷ (code_point Pc8 175, Some 0xBB)  -- no boxes
    ∷ (code_point Pc8 176, None)
    ∷ (code_point Pc8 219, None)
    ∷ (code_point Pc8 224, Some 0x3B1)
    ∷ (code_point Pc8 255, Some 0xA0)
    ∷ (code_point German 128, None)  -- no characters from 128 to 159 in other sets, and Roman-8's from 160 on
    ∷ (code_point German 159, None)
    ∷ (code_point German 206, Some 0xF6)
    ∷ [])
unfolding code_point
entries = refl

-- the code points of texts
texts : Agree (
    (map (code_point German) (codes "|"), Some 0xF6 ∷ [])  -- o with dieresis
    ∷ (map (code_point RomanExtensions) (codes "N"), Some 0xF6 ∷ [])  -- o with dieresis
    ∷ (map (code_point Swedish) (codes "$a~" ++ 127 ∷ []), Some 0xA4 ∷ Some 97 ∷ Some 0xAF ∷ None ∷ [])  -- a national set keeps what it does not replace, and 127 is no character
    ∷ (map (code_point Norwegian) (codes "#|~"), Some 0xA7 ∷ Some 0xF8 ∷ Some 124 ∷ [])  -- a bar
    ∷ (map (code_point Hp9825) (codes "\\|"), Some 0x221A ∷ Some 124 ∷ [])  -- a root
    ∷ (map (code_point RomanExtensions) (codes " !~"), Some 32 ∷ Some 0xC0 ∷ Some 0xB1 ∷ [])  -- a space
    ∷ [])
unfolding code_point
texts = refl

-- a plot with German as its alternate set
abbrev german : Selection → Sets
german selection = record { standard = Roman8; alternate = German; selection = selection }

-- the signs of bytes, by sets and in UTF-8
signs_of_bytes : Agree (
    (signs ByPlot (german Standard) (codes "|" ++ 14 ∷ codes "|" ++ 15 ∷ codes "|"), Printed 124 ∷ Printed 0xF6 ∷ Printed 124 ∷ [])  -- SO and SI
    ∷ (signs (Always Latin1) (german Alternate) (246 ∷ codes "|" ++ 15 ∷ 14 ∷ 246 ∷ []), Printed 0xF6 ∷ Printed 124 ∷ Printed 0xF6 ∷ [])  -- a set of the user's
    ∷ (signs ByPlot (german Standard) (range_with_len 0 32 ++ 127 ∷ 128 ∷ []), Back ∷ Tab ∷ LineFeed ∷ CarriageReturn ∷ [])  -- all controls
    ∷ (signs Utf8 (german Standard) (range_with_len 0 32 ++ 127 ∷ 128 ∷ []), Back ∷ Tab ∷ LineFeed ∷ CarriageReturn ∷ [])  -- all controls
    ∷ (signs Utf8 (german Standard) (195 ∷ 182 ∷ codes "|"), Printed 0xF6 ∷ Printed 124 ∷ [])  -- two bytes
    ∷ (signs Utf8 (german Standard) (0xE4 ∷ 0xB8 ∷ 0x80 ∷ []), Printed 0x4E00 ∷ [])  -- three bytes
    ∷ (signs Utf8 (german Standard) (codes "." ++ 195 ∷ codes "." ++ 0xE4 ∷ 0xB8 ∷ []), Printed 46 ∷ Printed 46 ∷ [])  -- a first byte only, and a sequence that is cut short
    ∷ (signs Utf8 (german Standard) (codes "." ++ 194 ∷ 133 ∷ codes "."), Printed 46 ∷ Printed 46 ∷ [])  -- U+0085 is not printed, and takes both bytes
    ∷ [])
unfolding code_point sequence
signs_of_bytes = refl

stays_selected : sets_after (german Standard) (codes "a" ++ 14 ∷ codes "b") ≡ german Alternate
stays_selected = refl

last_shift : sets_after (german Alternate) (15 ∷ 14 ∷ 15 ∷ codes "|") ≡ german Standard
last_shift = refl

-- sequences of UTF-8
sequences : Agree (
    (sequence (0xF4 ∷ 0x8F ∷ 0xBF ∷ 0xBF ∷ []), Some 0x10FFFF)  -- four bytes
    ∷ (sequence (0xC1 ∷ 0xBF ∷ []), None)  -- too long for its code point
    ∷ (sequence (0xE0 ∷ 0x9F ∷ 0xBF ∷ []), None)
    ∷ (sequence (0xF0 ∷ 0x8F ∷ 0xBF ∷ 0xBF ∷ []), None)
    ∷ (sequence (0xED ∷ 0xA0 ∷ 0x80 ∷ []), None)  -- a surrogate
    ∷ (sequence (0xF4 ∷ 0x90 ∷ 0x80 ∷ 0x80 ∷ []), None)  -- over U+10FFFF
    ∷ [])
unfolding sequence
sequences = refl
