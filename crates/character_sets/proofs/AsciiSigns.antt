-- The signs of a text of ASCII.
use Rattle.std.proofs.Common.{◌≡◌, ◌<◌, ◌∙◌, ℕ, zero, suc, Bool, true, false, IsTrue, List, [], ◌∷◌, ◌++◌, Option, Some, None, nat_eq, nat_lt, nat_le, if◌then◌else◌, refl, sym, ap, arith}
use Rattle.std.proofs.lemmas.Bool.Decides.{nat_tests}
use Rattle.std.specs.Int.{is_in_range}
use Rattle.std.specs.List.{flat_map, list_all}
use Rattle.std.specs.Option.{option_to_list, option_or, option_map}
use Rattle.std.specs.Str.{IsAscii}
use Rattle.character_sets.specs.CodePoints.{code_point, upper}
use Rattle.character_sets.specs.Ascii.{always_reads_ascii, has_ascii, is_unshifted, reads_ascii}
use Rattle.character_sets.specs.Texts.{sign_begun, signs, utf8_signs}
use Rattle.character_sets.specs.Signs.{control, selected, shifted, sign_of, signs_by_sets}
use Rattle.character_sets.specs.Utf8.{sequence}
use Rattle.character_sets.specs.declared.encoding.Encoding.{Encoding}
use Rattle.character_sets.specs.declared.encoding.Encoding.TheVariants.{ByPlot, Always, Utf8}
use Rattle.character_sets.specs.declared.set.CharacterSet.{CharacterSet}
use Rattle.character_sets.specs.declared.set.CharacterSet.TheVariants.{Roman8, Latin1, Windows1252, Pc8, Ascii}
use Rattle.character_sets.specs.declared.sets.Selection.{Selection}
use Rattle.character_sets.specs.declared.sets.Selection.TheVariants.{Standard, Alternate}
use Rattle.character_sets.specs.declared.sets.Sets.{Sets}
use Rattle.character_sets.specs.declared.sign.Sign.{Sign}
use Rattle.character_sets.specs.declared.sign.Sign.TheVariants.{Printed}

abbrev pub ascii_signs : List ℕ → List Sign
ascii_signs text = flat_map (λ byte. option_to_list (sign_of Ascii byte)) text

below : (byte : ℕ) → byte < 128 → nat_le 128 byte ≡ false
below byte low = grind (arith, nat_tests)

-- what a set has from 128 on does not matter
same_below : (printed high : Bool) (character one another : Option ℕ) → high ≡ false
    → (if printed then character else (if high then one else None)) ≡ (if printed then character else (if high then another else None))
same_below printed high character one another low = rw low refl

with_upper : (byte : ℕ) (character : Option ℕ) → byte < 128
    → (if is_in_range 32 126 byte then Some byte else (if nat_le 128 byte then character else None)) ≡ code_point Ascii byte
unfolding code_point
with_upper byte character low = same_below (is_in_range 32 126 byte) (nat_le 128 byte) (Some byte) character (upper Ascii byte) (below byte low)

same_character : (set : CharacterSet) (byte : ℕ) → IsTrue (has_ascii set) → byte < 128 → code_point set byte ≡ code_point Ascii byte
unfolding code_point
same_character Roman8 byte has low = with_upper byte (upper Roman8 byte) low
same_character Latin1 byte has low = with_upper byte (upper Latin1 byte) low
same_character Windows1252 byte has low = with_upper byte (upper Windows1252 byte) low
same_character Pc8 byte has low = with_upper byte (upper Pc8 byte) low
same_character Ascii byte has low = refl
same_character _ byte has low = cc

same_sign : (set : CharacterSet) (byte : ℕ) → IsTrue (has_ascii set) → byte < 128 → sign_of set byte ≡ sign_of Ascii byte
same_sign set byte has low = ap (λ (code : Option ℕ). option_or (control byte) (option_map (λ (c : ℕ). Printed c) code)) (same_character set byte has low)

abbrev both : CharacterSet → Selection → Sets
both set selection = record { standard = set; alternate = set; selection = selection }

-- if both sets are one, a shift changes nothing
shift_of_one : (out inward : Bool) (set : CharacterSet) (selection : Selection) (P : Sets → Type 0)
    → ((any : Selection) → P (both set any))
    → P (if out then both set Alternate else (if inward then both set Standard else both set selection))
shift_of_one true inward set selection P h = h Alternate
shift_of_one false true set selection P h = h Standard
shift_of_one false false set selection P h = h selection

selected_of_one : (set : CharacterSet) (selection : Selection) → selected (both set selection) ≡ set
selected_of_one set Standard = refl
selected_of_one set Alternate = refl

by_one_set : (set : CharacterSet) (selection : Selection) (text : List ℕ) → IsTrue (has_ascii set) → IsAscii text
    → signs_by_sets (both set selection) text ≡ ascii_signs text
by_one_set set selection [] has ascii = refl
by_one_set set selection (byte ∷ text) has ascii =
    let sign : sign_of (selected (both set selection)) byte ≡ sign_of Ascii byte =
    ap (λ (s : CharacterSet). sign_of s byte) (selected_of_one set selection) ∙ same_sign set byte has (ascii 0) in
    let rest : signs_by_sets (shifted (both set selection) byte) text ≡ ascii_signs text =
    shift_of_one (nat_eq byte 14) (nat_eq byte 15) set selection (λ (sets : Sets). signs_by_sets sets text ≡ ascii_signs text)
    (λ any. by_one_set set any text has (λ i. ascii (suc i))) in
    ap (λ (s : Option Sign). option_to_list s ++ signs_by_sets (shifted (both set selection) byte) text) sign
    ∙ ap (λ (others : List Sign). option_to_list (sign_of Ascii byte) ++ others) rest

no_sequence : (byte : ℕ) (text : List ℕ) → byte < 128 → sequence (byte ∷ text) ≡ None
unfolding sequence
no_sequence byte text low = grind (arith, nat_tests)

begun_by_ascii : (byte : ℕ) → byte < 128 → sign_begun byte None ≡ sign_of Ascii byte
begun_by_ascii byte low = let test : nat_lt byte 128 ≡ true = grind (arith, nat_tests) in rw test refl

in_utf8 : (text : List ℕ) → IsAscii text → utf8_signs text ≡ ascii_signs text
in_utf8 [] ascii = refl
in_utf8 (byte ∷ text) ascii =
    ap (λ (begun : Option ℕ). option_to_list (sign_begun byte begun) ++ utf8_signs text) (no_sequence byte text (ascii 0))
    ∙ ap (λ (sign : Option Sign). option_to_list sign ++ utf8_signs text) (begun_by_ascii byte (ascii 0))
    ∙ ap (λ (others : List Sign). option_to_list (sign_of Ascii byte) ++ others) (in_utf8 text (λ i. ascii (suc i)))

as_ascii : (encoding : Encoding) (sets : Sets) (text : List ℕ) → IsTrue (always_reads_ascii encoding) → IsAscii text → signs encoding sets text ≡ ascii_signs text
as_ascii ByPlot sets text has ascii = cc
as_ascii (Always set) sets text has ascii = by_one_set set Standard text has ascii
as_ascii Utf8 sets text has ascii = in_utf8 text ascii

pub alike : (one another : Encoding) (sets : Sets) (text : List ℕ)
    → IsTrue (always_reads_ascii one) → IsTrue (always_reads_ascii another) → IsAscii text
    → signs one sets text ≡ signs another sets text
alike one another sets text p q ascii = as_ascii one sets text p ascii ∙ sym (as_ascii another sets text q ascii)

-- without a shift the set that is selected reads the whole text
by_selected : (sets : Sets) (text : List ℕ) → IsTrue (has_ascii (selected sets)) → IsTrue (list_all is_unshifted text)
    → signs_by_sets sets text ≡ ascii_signs text
by_selected sets [] has plain = refl
by_selected sets (byte ∷ text) has plain =
    let low : byte < 128 = grind (arith, nat_tests) in
    let stays_out : nat_eq byte 14 ≡ false = grind (arith, nat_tests) in
    let stays_in : nat_eq byte 15 ≡ false = grind (arith, nat_tests) in
    let others : IsTrue (list_all is_unshifted text) = grind (arith, nat_tests) in
    let same : shifted sets byte ≡ sets = rw (stays_out, stays_in) refl in
    rw same
    (ap (λ (s : Option Sign). option_to_list s ++ signs_by_sets sets text) (same_sign (selected sets) byte has low)
    ∙ ap (λ (rest : List Sign). option_to_list (sign_of Ascii byte) ++ rest) (by_selected sets text has others))

all_ascii : (text : List ℕ) → IsTrue (list_all is_unshifted text) → IsAscii text
all_ascii [] plain zero = omega arith
all_ascii [] plain (suc i) = omega arith
all_ascii (byte ∷ text) plain zero = grind (arith, nat_tests)
all_ascii (byte ∷ text) plain (suc i) = let others : IsTrue (list_all is_unshifted text) = grind (arith, nat_tests) in all_ascii text others i

pub unshifted_signs : (encoding : Encoding) (sets : Sets) (text : List ℕ) → IsTrue (reads_ascii encoding sets) → IsTrue (list_all is_unshifted text)
    → signs encoding sets text ≡ ascii_signs text
unshifted_signs ByPlot sets text has plain = by_selected sets text has plain
unshifted_signs (Always set) sets text has plain = as_ascii (Always set) sets text has (all_ascii text plain)
unshifted_signs Utf8 sets text has plain = as_ascii Utf8 sets text has (all_ascii text plain)

pub unshifted : (encoding : Encoding) (sets : Sets) (text : List ℕ) → IsTrue (reads_ascii encoding sets) → IsTrue (list_all is_unshifted text)
    → signs encoding sets text ≡ signs (Always Ascii) sets text
unshifted encoding sets text has plain =
    unshifted_signs encoding sets text has plain ∙ sym (as_ascii (Always Ascii) sets text refl (all_ascii text plain))
