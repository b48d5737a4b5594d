-- What holds of escapes, a command at a time.
use Rattle.std.proofs.Common.{◌≡◌, ℕ, zero, suc, ◌+◌, ◌*◌, ◌^◌, ◌<◌, ◌≤◌, Bool, true, false, ◌||◌, ◌==◌, if◌then◌else◌, List, [], ◌∷◌, ◌++◌, length, take, drop, get_or, Option, Some, None, refl, sym, ap, ◌∙◌, arith, length-drop, length-append, length-take, append_assoc, subst, ◌⊎◌, inl, inr}
use Rattle.std.specs.Prelude.{All, sum_by, unwrap_or}
use Rattle.std.specs.Char.{is_ascii_alphabetic}
use Rattle.std.proofs.lemmas.List.Elements.{All-nil, All-cons, All-head, All-tail}
use Rattle.std.proofs.lemmas.List.Sums.{sum_by-cons}
use Rattle.std.proofs.lemmas.Bool.{true≢false}
use Rattle.std.proofs.lemmas.Option.{none-some, cond_some}
use Rattle.hpgl_text.specs.Bytes.{byte, begins_with}
use Rattle.hpgl_text.specs.Numbers.{integer_part, fraction, decimals, point_length, sign_length, unsigned}
use Rattle.escapes.specs.declared.command.Sign.{Sign}
use Rattle.escapes.specs.declared.command.Sign.TheVariants.{Unsigned, Minus}
use Rattle.escapes.specs.Commands.{Said, is_small, is_large, capital, takes_data, data_count, sign_of, capped, value_limit, millionths_of, after_value, finished}
use Rattle.escapes.specs.Escapes.{chain, some_commands, grouped, is_group, is_alone, alone, language, language_digits, language_letter, minus_length, escape}
use Rattle.escapes.proofs.Digits.{cases, value_small}
use Rattle.escapes.proofs.Chains.{some_small, some_large, value_shorter}
use Rattle.escapes.specs.Laws.{bytes_of, wanted, EscapesTakeBytes, CommandsAreApart, CommandsShareTheirGroup, CommandsAreInRange, DataAreAsLongAsSaid}

-- the end of a text
abbrev pub IsEnd : List ℕ → List ℕ → Type 0
IsEnd rest text = (taken : List ℕ) × (text ≡ taken ++ rest)

-- a command of a group
pub record IsOf (g p : Option ℕ) (command : Said) : Type 0 where
  pub group : command.group ≡ g
  pub parameter : command.parameter ≡ p

-- the letter of a command with a group is a capital
abbrev pub IsCapital : Said → Type 0
IsCapital command = (b : ℕ) → command.group ≡ Some b → is_large command.letter ≡ true

-- commands of a group in a text
pub record AreIn (group parameter : Option ℕ) (text : List ℕ) (found : List Said × List ℕ) : Type 0 where
  pub taken : IsEnd found.1 text
  pub apart : sum_by bytes_of found.0 + length found.1 ≤ length text
  pub alike : All (IsOf group parameter) found.0
  pub values : All (λ command. command.millionths < value_limit) found.0
  pub letters : All IsCapital found.0
  pub most : All (λ command. length command.input ≤ wanted command) found.0
  pub whole : 0 < length found.1 → All (λ command. length command.input ≡ wanted command) found.0

-- one of them, and what follows it
pub record IsIn (group parameter : Option ℕ) (text : List ℕ) (found : Said × List ℕ) : Type 0 where
  pub taken : IsEnd found.1 text
  pub apart : bytes_of found.0 + length found.1 ≤ length text
  pub alike : IsOf group parameter found.0
  pub value : found.0.millionths < value_limit
  pub letter : IsCapital found.0
  pub most : length found.0.input ≤ wanted found.0
  pub whole : 0 < length found.1 → length found.0.input ≡ wanted found.0

end_self : (text : List ℕ) → IsEnd text text
end_self text = ([], refl)

take_drop : (n : ℕ) (text : List ℕ) → text ≡ take n text ++ drop n text
take_drop zero text = refl
take_drop (suc n) [] = refl
take_drop (suc n) (b ∷ text) = ap (λ (z : List ℕ). b ∷ z) (take_drop n text)

end_drop : (n : ℕ) (rest text : List ℕ) → IsEnd rest text → IsEnd (drop n rest) text
end_drop n rest text (taken, e) = (
  taken ++ take n rest,
  e ∙ ap (λ (z : List ℕ). taken ++ z) (take_drop n rest) ∙ sym
      (append_assoc taken (take n rest) (drop n rest)),
)

end_of_end : (rest more text : List ℕ) → IsEnd rest more → IsEnd more text → IsEnd rest text
end_of_end rest more text (first, e) (second, f) = (
  second ++ first,
  f ∙ ap (λ (z : List ℕ). second ++ z) e ∙ sym
      (append_assoc second first rest),
)

-- no command
none_in : (group parameter : Option ℕ) (text : List ℕ) → AreIn group parameter text ([], text)
none_in group parameter text = record {
  taken = end_self text;
  apart = omega arith;
  alike = All-nil (IsOf group parameter);
  values = All-nil (λ (command : Said). command.millionths < value_limit);
  letters = All-nil IsCapital;
  most = All-nil (λ (command : Said). length command.input ≤ wanted command);
  whole = λ h. All-nil (λ (command : Said). length command.input ≡ wanted command);
}

-- a command before others
one_more : (group parameter : Option ℕ) (text : List ℕ) (first : Said × List ℕ) (more : List Said × List ℕ)
    → IsIn group parameter text first → AreIn group parameter first.1 more → AreIn group parameter text (first.0 ∷ more.0, more.1)
one_more group parameter text first more one others = record {
  taken = end_of_end more.1 first.1 text others.taken one.taken;
  apart = omega (arith, sum_by-cons bytes_of first.0 more.0, one.apart, others.apart);
  alike = All-cons (IsOf group parameter) first.0 more.0 one.alike others.alike;
  values = All-cons (λ (command : Said). command.millionths < value_limit) first.0 more.0 one.value others.values;
  letters = All-cons IsCapital first.0 more.0 one.letter others.letters;
  most = All-cons (λ (command : Said). length command.input ≤ wanted command) first.0 more.0 one.most others.most;
  whole = λ h. All-cons (λ (command : Said). length command.input ≡ wanted command) first.0 more.0 (one.whole (omega
      (arith, h, others.apart))) (others.whole h);
}

-- commands in the end of a text are in it
in_end : (group parameter : Option ℕ) (n : ℕ) (text : List ℕ) (found : List Said × List ℕ) → AreIn group parameter
    (drop n text) found → AreIn group parameter text found
in_end group parameter n text found h = record {
  taken = end_of_end found.1 (drop n text) text h.taken (end_drop n text text (end_self text));
  apart = omega (arith, h.apart, length-drop n text);
  alike = h.alike;
  values = h.values;
  letters = h.letters;
  most = h.most;
  whole = h.whole;
}

-- a command by its value and the text from its letter on
finished_in : (group parameter : Option ℕ) (sign : Sign) (millionths : ℕ) (letter text : List ℕ) → 0 < length letter
    → IsEnd letter text → length letter ≤ length text
    → millionths < value_limit → is_large (capital (get_or letter 0 0)) ≡ true
    → IsIn group parameter text (finished group parameter sign millionths letter)
finished_in group parameter sign millionths letter text some rest shorter value large =
    let count : ℕ = data_count group parameter sign millionths (capital (get_or letter 0 0)) in
    record {
      taken = end_drop count (drop 1 letter) text (end_drop 1 letter text rest);
      apart = omega (arith, length-take count (drop 1 letter), length-drop count (drop 1 letter), length-drop 1 letter);
      alike = record { group = refl; parameter = refl };
      value = value;
      letter = λ b e. large;
      most = omega (arith, length-take count (drop 1 letter));
      whole = λ h. omega (arith, length-take count (drop 1 letter), length-drop count (drop 1 letter), h);
    }

small_capital : (b : ℕ) → is_small b ≡ true → is_large (capital b) ≡ true
small_capital b e = grind arith

large_capital : (b : ℕ) → is_large b ≡ true → is_large (capital b) ≡ true
large_capital b e = grind arith

pub language_capital : (b : ℕ) → (is_ascii_alphabetic b || (b == byte "@")) ≡ true → is_large (capital b) ≡ true
language_capital b e = grind arith

-- what follows a value ends the text
value_end : (text : List ℕ) → IsEnd (after_value text) text
value_end text =
    end_drop (length (decimals text)) (drop (point_length (fraction text)) (fraction text)) text
    (end_drop (point_length (fraction text)) (fraction text) text
    (end_drop (length (integer_part text)) (unsigned text) text
    (end_drop (sign_length text) text text (end_self text))))

chain_in : (fuel group : ℕ) (parameter : Option ℕ) (text : List ℕ) → AreIn (Some group) parameter text
    (chain fuel group parameter text)
unfolding chain
chain_in zero group parameter text = none_in (Some group) parameter text
chain_in (suc fuel) group parameter text =
    let letter : ℕ = get_or (after_value text) 0 0 in
    let first : Said × List ℕ = finished (Some group) parameter (sign_of text) (millionths_of text) (after_value text) in
    let more : List Said × List ℕ = chain fuel group parameter first.1 in
    let one : is_large (capital letter) ≡ true → 0 < length (after_value text) → IsIn (Some group) parameter text first =
    λ large some. finished_in (Some group) parameter (sign_of text) (millionths_of text) (after_value text) text some
    (value_end text) (value_shorter text) (value_small text) large in
    cases (AreIn (Some group) parameter text) (is_small letter) (first.0 ∷ more.0, more.1) (if is_large letter then
    (first.0 ∷ [], first.1) else ([], text))
    (λ small. one_more (Some group) parameter text first more (one (small_capital letter small) (some_small
    (after_value text) small)) (chain_in fuel group parameter first.1))
    (λ _. cases (AreIn (Some group) parameter text) (is_large letter) (first.0 ∷ [], first.1) ([], text)
    (λ large. one_more (Some group) parameter text first ([], first.1) (one (large_capital letter large) (some_large
    (after_value text) large)) (none_in (Some group) parameter first.1))
    (λ _. none_in (Some group) parameter text))

-- what an escape is, by its group
pub record IsEscape (text : List ℕ) (group parameter : Option ℕ) (found : List Said × List ℕ) : Type 0 where
  pub commands : AreIn group parameter text found
  pub some : 0 < length found.0
  pub one : (group ≡ None) ⊎ (group ≡ Some (byte "%")) → length found.0 ≡ 1

abbrev pub AnEscape : List ℕ → List Said × List ℕ → Type 0
AnEscape text found = (group : Option ℕ) × (parameter : Option ℕ) × IsEscape text group parameter found

-- commands, if there are some
some_is : (commands found : List Said × List ℕ) → some_commands commands ≡ Some found → (commands ≡ found) × (0 < length found.0)
some_is ([], text) found e = absurd (none-some found e)
some_is (first ∷ more, text) found e =
    let f : (first ∷ more, text) ≡ found = ap (λ (z : Option (List Said × List ℕ)). unwrap_or z ([], [])) e in
    (f, rw (sym f) (omega arith))

-- a group's byte is no %
group_is_other : (b : ℕ) → is_group b ≡ true → ¬ (b ≡ byte "%")
group_is_other b e f = absurd (true≢false (sym e ∙ ap is_group f))

grouped_in : (group : ℕ) (parameter : Option ℕ) (n : ℕ) (text : List ℕ) (found : List Said × List ℕ) → is_group group ≡ true
    → grouped group parameter (drop n text) ≡ Some found → AnEscape text found
grouped_in group parameter n text found is e =
    let (f, some) = some_is (chain (length (drop n text)) group parameter (drop n text)) found e in (
      Some group,
      parameter,
      record {
        commands = in_end (Some group) parameter n text found (subst (λ (z : List Said × List ℕ). AreIn (Some group) parameter
            (drop n text) z) f (chain_in (length (drop n text)) group parameter (drop n text)));
        some = some;
        one = λ h. absurd (elim h [
          | inl a ↦ none-some group (sym a)
          | inr b ↦ group_is_other group is (ap (λ
              (z : Option ℕ). unwrap_or z 0) b)
        ]);
      },
    )

-- a letter is there
some_letter : (text : List ℕ) → (is_ascii_alphabetic (get_or text 0 0) || (get_or text 0 0 == byte "@")) ≡ true → 0 < length text
some_letter [] e = absurd (true≢false (sym e))
some_letter (b ∷ text) e = omega arith

nothing : (b : Bool) (n : ℕ) → n ≡ (if b then n else n)
nothing true n = refl
nothing false n = refl

-- a command alone
alone_in : (text : List ℕ) (found : List Said × List ℕ) → is_alone (get_or text 0 0) ≡ true
    → Some (alone (get_or text 0 0) ∷ [], drop 1 text) ≡ Some found → AnEscape text found
alone_in [] found is e = absurd (true≢false (sym is))
alone_in (b ∷ text) found is e =
    let f : (alone b ∷ [], text) ≡ found = ap (λ (z : Option (List Said × List ℕ)). unwrap_or z ([], [])) e in
    subst (AnEscape (b ∷ text)) f (
      None,
      None,
      record {
        commands = one_more None None (b ∷ text) (alone b, text) ([], text) (record {
          taken = end_drop 1 (b ∷ text) (b ∷ text) (end_self (b ∷ text));
          apart = omega arith;
          alike = record { group = refl; parameter = refl };
          value = omega arith;
          letter = λ c g. absurd (none-some c g);
          most = omega arith;
          whole = λ h. nothing (takes_data None None b) 0;
        }) (none_in None None text);
        some = omega arith;
        one = λ h. refl;
      },
    )

-- a change of the language
language_in : (n : ℕ) (text : List ℕ) (found : List Said × List ℕ) → language (drop n text) ≡ Some found → AnEscape text found
language_in n whole found e =
    let text : List ℕ = drop n whole in
    let sign : Sign = if begins_with "-" text then Minus else Unsigned in
    let letters : List ℕ = language_letter text in
    let said : Said × List ℕ = finished (Some (byte "%")) None sign (capped (language_digits text) * 10 ^ 6) letters in
    let (is, f) = cond_some (is_ascii_alphabetic (get_or letters 0 0) || (get_or letters 0 0 == byte "@"))
    (said.0 ∷ [], said.1) found e in
    let one : IsIn (Some (byte "%")) None text said = finished_in (Some (byte "%")) None sign (capped
    (language_digits text) * 10 ^ 6) letters text
    (some_letter letters is)
    (end_drop (length (language_digits text)) (drop (minus_length text) text) text (end_drop (minus_length text) text text
    (end_self text)))
    (omega (
      arith,
      length-drop (length (language_digits text)) (drop (minus_length text) text),
      length-drop
          (minus_length text) text,
    ))
    (omega arith) (language_capital (get_or letters 0 0) is) in
    subst (AnEscape whole) f (
      Some (byte "%"),
      None,
      record {
        commands = in_end (Some (byte "%")) None n whole (said.0 ∷ [], said.1) (one_more (Some (byte "%")) None text said
            ([], said.1) one (none_in (Some (byte "%")) None said.1));
        some = omega arith;
        one = λ h. refl;
      },
    )

-- each escape is one
escape_is : (text : List ℕ) (found : List Said × List ℕ) → escape text ≡ Some found → AnEscape text found
escape_is text found =
    let first : ℕ = get_or text 0 0 in
    let next : ℕ = get_or text 1 0 in
    let P : Option (List Said × List ℕ) → Type 0 = λ z. z ≡ Some found → AnEscape text found in
    cases P (is_alone first) (Some (alone first ∷ [], drop 1 text)) (if first == byte "%" then language
    (drop 1 text) else if is_group first then (if is_small next then grouped first (Some next)
    (drop 2 text) else grouped first None (drop 1 text)) else None)
    (alone_in text found)
    (λ _. cases P (first == byte "%") (language (drop 1 text)) (if is_group first then (if is_small next then grouped first
    (Some next) (drop 2 text) else grouped first None (drop 1 text)) else None)
    (λ _. language_in 1 text found)
    (λ _. cases P (is_group first) (if is_small next then grouped first (Some next) (drop 2 text) else grouped first None
    (drop 1 text)) None
    (λ is. cases P (is_small next) (grouped first (Some next) (drop 2 text)) (grouped first None (drop 1 text))
    (λ _. grouped_in first (Some next) 2 text found is)
    (λ _. grouped_in first None 1 text found is))
    (λ _ e. absurd (none-some found e))))

some_bytes : (commands : List Said) → 0 < length commands → 0 < sum_by bytes_of commands
some_bytes [] h = absurd (omega (arith, h))
some_bytes (command ∷ commands) h = omega (arith, sum_by-cons bytes_of command commands)

pub escapes_take_bytes_lem : EscapesTakeBytes
escapes_take_bytes_lem text commands rest e =
    let (group, parameter, it) = escape_is text (commands, rest) e in
    let (taken, f) = it.commands.taken in
    let l : length text ≡ length taken + length rest = ap (λ (z : List ℕ). length z) f ∙ length-append taken rest in
    (taken, omega (arith, l, it.commands.apart, some_bytes commands it.some), f)

pub commands_are_apart_lem : CommandsAreApart
commands_are_apart_lem = record {
  some = λ text commands rest e. let (group, parameter, it) = escape_is text (commands, rest) e in it.some;
  apart = λ text commands rest e. let (group, parameter, it) = escape_is text (commands, rest) e in it.commands.apart;
}

-- there is one command
none_more : (first : Said) (more : List Said) → length (first ∷ more) ≡ 1 → more ≡ []
none_more first [] e = refl
none_more first (second ∷ more) e = absurd (omega (arith, e))

one_of : (text : List ℕ) (first : Said) (more : List Said) (rest : List ℕ) → escape text ≡ Some (first ∷ more, rest)
    → (first.group ≡ None) ⊎ (first.group ≡ Some (byte "%")) → more ≡ []
one_of text first more rest e one =
    let (group, parameter, it) = escape_is text (first ∷ more, rest) e in
    let head : IsOf group parameter first = All-head (IsOf group parameter) first more it.commands.alike in
    none_more first more (it.one (elim one [ inl a ↦ inl (sym head.group ∙ a) | inr b ↦ inr (sym head.group ∙ b) ]))

pub commands_share_their_group_lem : CommandsShareTheirGroup
commands_share_their_group_lem = record {
  alike = λ text first more rest e.
      let (group, parameter, it) = escape_is text (first ∷ more, rest) e in
      let head : IsOf group parameter first = All-head (IsOf group parameter) first more it.commands.alike in
      let tail : All (IsOf group parameter) more = All-tail (IsOf group parameter) first more it.commands.alike in
      λ k d h. ((tail k d h).group ∙ sym head.group, (tail k d h).parameter ∙ sym head.parameter);
  alone = λ text first more rest e one. one_of text first more rest e (inl one);
  language = λ text first more rest e one. one_of text first more rest e (inr one);
}

pub commands_are_in_range_lem : CommandsAreInRange
commands_are_in_range_lem = record {
  values = λ text commands rest e. let (group, parameter, it) = escape_is text (commands, rest) e in it.commands.values;
  letters = λ text commands rest e. let (group, parameter, it) = escape_is text (commands, rest) e in it.commands.letters;
}

pub data_are_as_long_as_said_lem : DataAreAsLongAsSaid
data_are_as_long_as_said_lem = record {
  most = λ text commands rest e. let (group, parameter, it) = escape_is text (commands, rest) e in it.commands.most;
  whole = λ text commands rest e some. let (group, parameter, it) = escape_is text (commands, rest) e in it.commands.whole some;
}
