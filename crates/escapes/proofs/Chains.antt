-- A chain of commands, one command at a time.
use Rattle.std.proofs.Common.{◌≡◌, ℕ, zero, suc, ◌<◌, ◌≤◌, Bool, true, false, if◌then◌else◌, List, [], ◌∷◌, length, drop, get_or, Option, Some, refl, sym, ap, ◌∙◌, arith, length-drop}
use Rattle.std.proofs.lemmas.Bool.{true≢false}
use Rattle.hpgl_text.specs.Numbers.{integer_part, fraction, decimals, point_length, sign_length, unsigned}
use Rattle.escapes.specs.Commands.{Said, is_small, is_large, capital, data_count, sign_of, millionths_of, after_value, finished}
use Rattle.escapes.specs.Escapes.{chain}

-- a letter is a byte that is there
pub some_small : (text : List ℕ) → is_small (get_or text 0 0) ≡ true → 0 < length text
some_small [] e = absurd (true≢false (sym e))
some_small (b ∷ text) e = omega arith

pub some_large : (text : List ℕ) → is_large (get_or text 0 0) ≡ true → 0 < length text
some_large [] e = absurd (true≢false (sym e))
some_large (b ∷ text) e = omega arith

-- a value takes no byte that is not there
pub value_shorter : (text : List ℕ) → length (after_value text) ≤ length text
value_shorter text =
    omega (
      arith,
      length-drop (length (decimals text)) (drop (point_length (fraction text)) (fraction text)),
      length-drop (point_length (fraction text)) (fraction text),
      length-drop (length (integer_part text)) (unsigned text),
      length-drop (sign_length text) text,
    )

-- what follows a command is shorter
rest_shorter : (n : ℕ) (text : List ℕ) → 0 < length (after_value text) → length (drop n (drop 1 (after_value text))) < length text
rest_shorter n text some = omega (
  arith,
  length-drop n (drop 1 (after_value text)),
  length-drop 1
      (after_value text),
  value_shorter text,
)

-- a choice with another first part
pick : {A : Type 0} (b : Bool) (x y z : A) → (b ≡ true → x ≡ y) → (if b then x else z) ≡ (if b then y else z)
pick true x y z same = same refl
pick false x y z same = refl

on_true : {A : Type 0} (b : Bool) (x y : A) → b ≡ true → (if b then x else y) ≡ x
on_true b x y e = ap (λ (t : Bool). if t then x else y) e

on_false : {A : Type 0} (b : Bool) (x y : A) → b ≡ false → (if b then x else y) ≡ y
on_false b x y e = ap (λ (t : Bool). if t then x else y) e

-- more fuel finds no more
fuel_any : (fuel more group : ℕ) (parameter : Option ℕ) (text : List ℕ) → length text ≤ fuel → length text ≤ more
    → chain fuel group parameter text ≡ chain more group parameter text
unfolding chain
fuel_any zero zero group parameter text h k = refl
fuel_any zero (suc more) group parameter [] h k = refl
fuel_any zero (suc more) group parameter (b ∷ text) h k = absurd (omega arith)
fuel_any (suc fuel) zero group parameter [] h k = refl
fuel_any (suc fuel) zero group parameter (b ∷ text) h k = absurd (omega arith)
fuel_any (suc fuel) (suc more) group parameter text h k =
    let letter : ℕ = get_or (after_value text) 0 0 in
    let first : Said × List ℕ = finished (Some group) parameter (sign_of text) (millionths_of text) (after_value text) in
    let one : List Said × List ℕ = chain fuel group parameter first.1 in
    let other : List Said × List ℕ = chain more group parameter first.1 in
    pick (is_small letter) (first.0 ∷ one.0, one.1) (first.0 ∷ other.0, other.1) (if is_large letter then
    (first.0 ∷ [], first.1) else ([], text))
    (λ e. let shorter : length first.1 < length text = rest_shorter (data_count (Some group) parameter (sign_of text)
    (millionths_of text) (capital letter)) text (some_small (after_value text) e) in
    ap (λ (z : List Said × List ℕ). (first.0 ∷ z.0, z.1)) (fuel_any fuel more group parameter first.1 (omega arith)
    (omega arith)))

-- a command that another one follows
pub chain_small : (group : ℕ) (parameter : Option ℕ) (text : List ℕ) → is_small (get_or (after_value text) 0 0) ≡ true
    → let first = finished (Some group) parameter (sign_of text) (millionths_of text) (after_value text) in
    chain (length text) group parameter text ≡ (
      first.0 ∷ (chain (length first.1) group parameter first.1).0,
      (chain
          (length first.1) group parameter first.1).1,
    )
unfolding chain
chain_small group parameter [] e = absurd (true≢false (sym e))
chain_small group parameter (b ∷ text) e =
    let letter : ℕ = get_or (after_value (b ∷ text)) 0 0 in
    let first : Said × List ℕ = finished (Some group) parameter (sign_of (b ∷ text)) (millionths_of (b ∷ text)) (after_value
    (b ∷ text)) in
    let more : List Said × List ℕ = chain (length text) group parameter first.1 in
    let shorter : length first.1 < length (b ∷ text) = rest_shorter (data_count (Some group) parameter (sign_of (b ∷ text))
    (millionths_of (b ∷ text)) (capital letter)) (b ∷ text) (some_small (after_value (b ∷ text)) e) in
    on_true (is_small letter) (first.0 ∷ more.0, more.1) (if is_large letter then (first.0 ∷ [], first.1) else ([], b ∷ text)) e
    ∙ ap (λ (z : List Said × List ℕ). (first.0 ∷ z.0, z.1)) (fuel_any (length text) (length first.1) group parameter first.1
    (omega arith) (omega arith))

-- the last one
pub chain_large : (group : ℕ) (parameter : Option ℕ) (text : List ℕ) → is_small (get_or (after_value text) 0 0) ≡ false
    → is_large (get_or (after_value text) 0 0) ≡ true
    → let first = finished (Some group) parameter (sign_of text) (millionths_of text) (after_value text) in
    chain (length text) group parameter text ≡ (first.0 ∷ [], first.1)
unfolding chain
chain_large group parameter [] e f = absurd (true≢false (sym f))
chain_large group parameter (b ∷ text) e f =
    let letter : ℕ = get_or (after_value (b ∷ text)) 0 0 in
    let first : Said × List ℕ = finished (Some group) parameter (sign_of (b ∷ text)) (millionths_of (b ∷ text)) (after_value
    (b ∷ text)) in
    let more : List Said × List ℕ = chain (length text) group parameter first.1 in
    on_false (is_small letter) (first.0 ∷ more.0, more.1) (if is_large letter then (first.0 ∷ [], first.1) else ([], b ∷ text)) e
    ∙ on_true (is_large letter) (first.0 ∷ [], first.1) ([], b ∷ text) f

-- none
pub chain_none : (group : ℕ) (parameter : Option ℕ) (text : List ℕ) → is_small (get_or (after_value text) 0 0) ≡ false
    → is_large (get_or (after_value text) 0 0) ≡ false
    → chain (length text) group parameter text ≡ ([], text)
unfolding chain
chain_none group parameter [] e f = refl
chain_none group parameter (b ∷ text) e f =
    let letter : ℕ = get_or (after_value (b ∷ text)) 0 0 in
    let first : Said × List ℕ = finished (Some group) parameter (sign_of (b ∷ text)) (millionths_of (b ∷ text)) (after_value
    (b ∷ text)) in
    let more : List Said × List ℕ = chain (length text) group parameter first.1 in
    on_false (is_small letter) (first.0 ∷ more.0, more.1) (if is_large letter then (first.0 ∷ [], first.1) else ([], b ∷ text)) e
    ∙ on_false (is_large letter) (first.0 ∷ [], first.1) ([], b ∷ text) f
