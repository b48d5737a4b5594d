-- What holds of each change that data say.
use Rattle.std.proofs.Common.{◌≡◌, ℕ, zero, suc, ◌+◌, ◌-◌, ◌/◌, ◌%◌, ◌<◌, ◌≤◌, ◌==◌, Bool, true, false, if◌then◌else◌, nat_lt, List, [], ◌∷◌, length, drop, get_or, Option, Some, None, refl, sym, ap, subst, ◌∙◌, arith, length-drop, length-take}
use Rattle.std.proofs.lemmas.List.{length-replicate}
use Rattle.std.proofs.lemmas.Bool.{ltb-true, ltb-false, true≢false}
use Rattle.image_rows.specs.declared.compression.Compression.{Compression}
use Rattle.image_rows.specs.declared.compression.Compression.TheVariants.{Unencoded, RunLength, PackBits, DeltaRow, CompressedDelta}
use Rattle.image_rows.specs.Changes.{Change, Reading, broken, literal, run, further, number, then_read, packed, compressed, first_change, changes_by, changes}

-- the data after a change are no longer; a broken one is the last; one without bytes passes none
pub record IsProper (input : List ℕ) (r : Reading) : Type 0 where
  pub shorter : length r.1 ≤ length input
  pub last : r.0.is_broken ≡ true → length r.1 ≡ 0
  pub stays : r.0.is_broken ≡ false → length r.0.bytes ≡ 0 → r.0.skip ≡ 0

literal_proper : (skip count : ℕ) (input : List ℕ) → 0 < count → IsProper input (literal skip count input)
literal_proper skip count input h = record {
  shorter = omega (arith, length-drop count input);
  last = λ b. let far : length input < count = ltb-true (length input) count b in omega (arith, length-drop count input, far);
  stays = λ b e. let near : count ≤ length input = ltb-false (length input) count b in absurd (omega (arith, length-take count input, near, e, h));
}

broken_proper : (skip : ℕ) (input : List ℕ) → IsProper input (broken skip, [])
broken_proper skip input = record { shorter = omega arith; last = λ b. refl; stays = λ b e. absurd (true≢false b) }

run_proper : (skip count : ℕ) (input : List ℕ) → 0 < count → IsProper input (run skip count input)
run_proper skip count [] h = broken_proper skip []
run_proper skip count (byte ∷ input) h = record {
  shorter = omega arith;
  last = λ b. absurd (true≢false (sym b));
  stays = λ b e. absurd (omega (arith, length-replicate count byte, e, h));
}

-- a run from the place itself passes none, how short it may be
run_at_once : (count : ℕ) (input : List ℕ) → IsProper input (run 0 count input)
run_at_once count [] = broken_proper 0 []
run_at_once count (byte ∷ input) = record { shorter = omega arith; last = λ b. absurd (true≢false (sym b)); stays = λ b e. refl }

further_shorter : (n : ℕ) (input : List ℕ) (found : ℕ × List ℕ) → further n input ≡ Some found → length found.1 ≤ length input
unfolding further
further_shorter n [] found e = absurd (cc)
further_shorter n (byte ∷ input) found e = by_byte (byte == 255) (λ f. further_shorter (n + 255) input found f) e
  where
    by_byte : (b : Bool) → (further (n + 255) input ≡ Some found → length found.1 ≤ length input) → (if b then further (n + 255) input else Some (n + byte, input)) ≡ Some found → length found.1 ≤ suc (length input)
    by_byte true more f = omega (arith, more f)
    by_byte false more f = let same : (n + byte, input) ≡ found = cc in omega (arith, ap (λ (p : ℕ × List ℕ). length p.1) same)

number_shorter : (greatest n : ℕ) (input : List ℕ) (found : ℕ × List ℕ) → number greatest n input ≡ Some found → length found.1 ≤ length input
number_shorter greatest n input found e = by_test (n == greatest) e
  where
    by_test : (b : Bool) → (if b then further n input else Some (n, input)) ≡ Some found → length found.1 ≤ length input
    by_test true f = further_shorter n input found f
    by_test false f = let same : (n, input) ≡ found = cc in omega (arith, ap (λ (p : ℕ × List ℕ). length p.1) same)

widened : (input more : List ℕ) (r : Reading) → length input ≤ length more → IsProper input r → IsProper more r
widened input more r h p = record { shorter = omega (arith, p.shorter, h); last = p.last; stays = p.stays }

then_proper : (found : Option (ℕ × List ℕ)) (skip : ℕ) (input : List ℕ) (read : ℕ → List ℕ → Reading)
    → ((f : ℕ × List ℕ) → found ≡ Some f → length f.1 ≤ length input)
    → ((n : ℕ) (rest : List ℕ) → IsProper rest (read n rest)) → IsProper input (then_read found skip read)
then_proper None skip input read shorter proper = broken_proper skip input
then_proper (Some f) skip input read shorter proper = widened f.1 input (read f.0 f.1) (shorter f refl) (proper f.0 f.1)

packed_proper : (c : ℕ) (input : List ℕ) → IsProper input (packed c input)
packed_proper c input = by_tests (nat_lt c 128) (c == 128)
  where
    by_tests : (a b : Bool) → IsProper input (if a then literal 0 (c + 1) input else if b then (record { skip = 0; bytes = []; is_broken = false }, input) else run 0 (257 - c) input)
    by_tests true b = literal_proper 0 (c + 1) input (omega arith)
    by_tests false true = record { shorter = omega arith; last = λ e. absurd (true≢false (sym e)); stays = λ e f. refl }
    by_tests false false = run_at_once (257 - c) input

compressed_proper : (c : ℕ) (input : List ℕ) → IsProper input (compressed c input)
compressed_proper c input = by_test (nat_lt c 128)
  where
    by_test : (b : Bool) → IsProper input (if b
        then then_read (number 15 (c / 8) input) 0 (λ skip rest. then_read (number 7 (c % 8) rest) skip (λ n more. literal skip (n + 1) more))
        else then_read (number 3 (c / 32 % 4) input) 0 (λ skip rest. then_read (number 31 (c % 32) rest) skip (λ n more. run skip (n + 2) more)))
    by_test true =
        then_proper (number 15 (c / 8) input) 0 input (λ skip rest. then_read (number 7 (c % 8) rest) skip (λ n more. literal skip (n + 1) more)) (number_shorter 15 (c / 8) input)
        (λ skip rest. then_proper (number 7 (c % 8) rest) skip rest (λ n more. literal skip (n + 1) more) (number_shorter 7 (c % 8) rest) (λ n more. literal_proper skip (n + 1) more (omega arith)))
    by_test false =
        then_proper (number 3 (c / 32 % 4) input) 0 input (λ skip rest. then_read (number 31 (c % 32) rest) skip (λ n more. run skip (n + 2) more)) (number_shorter 3 (c / 32 % 4) input)
        (λ skip rest. then_proper (number 31 (c % 32) rest) skip rest (λ n more. run skip (n + 2) more) (number_shorter 31 (c % 32) rest) (λ n more. run_proper skip (n + 2) more (omega arith)))

pub first_proper : (compression : Compression) (c : ℕ) (input : List ℕ) → IsProper input (first_change compression c input)
first_proper Unencoded c input = record { shorter = omega arith; last = λ b. refl; stays = λ b e. refl }
first_proper RunLength c input = run_at_once (c + 1) input
first_proper PackBits c input = packed_proper c input
first_proper DeltaRow c input =
    then_proper (number 31 (c % 32) input) 0 input (λ skip rest. literal skip (c / 32 + 1) rest) (number_shorter 31 (c % 32) input) (λ skip rest. literal_proper skip (c / 32 + 1) rest (omega arith))
first_proper CompressedDelta c input = compressed_proper c input

-- more fuel reads no more
fuel_any : (fuel more : ℕ) (compression : Compression) (input : List ℕ) → length input ≤ fuel → length input ≤ more → changes_by fuel compression input ≡ changes_by more compression input
unfolding changes_by
fuel_any zero zero compression input h k = refl
fuel_any zero (suc more) compression [] h k = refl
fuel_any zero (suc more) compression (c ∷ input) h k = absurd (omega arith)
fuel_any (suc fuel) zero compression [] h k = refl
fuel_any (suc fuel) zero compression (c ∷ input) h k = absurd (omega arith)
fuel_any (suc fuel) (suc more) compression [] h k = refl
fuel_any (suc fuel) (suc more) compression (c ∷ input) h k =
    let first : Reading = first_change compression c input in
    let shorter : length first.1 ≤ length input = (first_proper compression c input).shorter in
    ap (λ (z : List Change). first.0 ∷ z) (fuel_any fuel more compression first.1 (omega arith) (omega arith))

-- data are their first change and the data after it
pub changes_more : (compression : Compression) (input : List ℕ) → 0 < length input
    → let first = first_change compression (get_or input 0 0) (drop 1 input) in changes compression input ≡ first.0 ∷ changes compression first.1
unfolding changes_by
changes_more compression [] h = absurd (omega arith)
changes_more compression (c ∷ input) h =
    let first : Reading = first_change compression c input in
    ap (λ (z : List Change). first.0 ∷ z) (fuel_any (length input) (length first.1) compression first.1 (first_proper compression c input).shorter (omega arith))

pub changes_none : (compression : Compression) (input : List ℕ) → length input ≡ 0 → changes compression input ≡ []
unfolding changes_by
changes_none compression [] e = refl
changes_none compression (c ∷ input) e = absurd (omega arith)

-- the same of a first change that is known
pub changes_by_first : (compression : Compression) (input : List ℕ) (r : Reading) → 0 < length input → r ≡ first_change compression (get_or input 0 0) (drop 1 input)
    → changes compression input ≡ r.0 ∷ changes compression r.1
changes_by_first compression input r some e = changes_more compression input some ∙ ap (λ (z : Reading). z.0 ∷ changes compression z.1) (sym e)

pub proper_first : (compression : Compression) (input : List ℕ) (r : Reading) → r ≡ first_change compression (get_or input 0 0) (drop 1 input) → IsProper (drop 1 input) r
proper_first compression input r e = let P : Reading → Type 0 = λ z. IsProper (drop 1 input) z in subst P (sym e) (first_proper compression (get_or input 0 0) (drop 1 input))
