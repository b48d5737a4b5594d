-- A text has at most as many signs as bytes.
use Rattle.std.proofs.Common.{◌≤◌, ℕ, suc, List, [], ◌∷◌, ◌++◌, Option, Some, None, length, arith}
use Rattle.std.specs.Option.{option_to_list}
use Rattle.character_sets.specs.Texts.{only, sign_begun, signs, utf8_signs}
use Rattle.character_sets.specs.Signs.{selected, shifted, sign_of, signs_by_sets}
use Rattle.character_sets.specs.Utf8.{sequence}
use Rattle.character_sets.specs.declared.encoding.Encoding.{Encoding}
use Rattle.character_sets.specs.declared.encoding.Encoding.TheVariants.{ByPlot, Always, Utf8}
use Rattle.character_sets.specs.declared.sets.Sets.{Sets}
use Rattle.character_sets.specs.declared.sign.Sign.{Sign}

at_most_one : (sign : Option Sign) (others : List Sign) → length (option_to_list sign ++ others) ≤ suc (length others)
at_most_one None others = omega arith
at_most_one (Some sign) others = omega arith

pub few_by_sets : (sets : Sets) (text : List ℕ) → length (signs_by_sets sets text) ≤ length text
few_by_sets sets [] = omega arith
few_by_sets sets (byte ∷ text) =
    let first = at_most_one (sign_of (selected sets) byte) (signs_by_sets (shifted sets byte) text) in
    let rest = few_by_sets (shifted sets byte) text in omega arith

pub few_in_utf8 : (text : List ℕ) → length (utf8_signs text) ≤ length text
few_in_utf8 [] = omega arith
few_in_utf8 (byte ∷ text) =
    let first = at_most_one (sign_begun byte (sequence (byte ∷ text))) (utf8_signs text) in
    let rest = few_in_utf8 text in omega arith

pub few : (encoding : Encoding) (sets : Sets) (text : List ℕ) → length (signs encoding sets text) ≤ length text
few ByPlot sets text = few_by_sets sets text
few (Always set) sets text = few_by_sets (only set) text
few Utf8 sets text = few_in_utf8 text
