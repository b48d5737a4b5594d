use Rattle.std.proofs.Common.{◌≡◌, ◌∙◌, ◌||◌, ℕ, List, Option, Some, None, true, false, is_some, refl, sym, ap, codes}
use Rattle.std.specs.Prelude.{Bool, not}
use Rattle.std.specs.Str.{bytes_eq}
use Rattle.std.proofs.lemmas.Slice.Eq.{bytes_eq-Decides}
use Rattle.clap.specs.Words.{Row, Text, found_of, rows_of}
use Rattle.clap.proofs.WalkLemmas.{first_value-rows}
use Rattle.character_sets.specs.declared.encoding.Encoding.{Encoding}
use Rattle.command_line.proofs.Given.{is_there, its_fault, not_known, passed, passed_fault, was_some}
use Rattle.command_line.specs.declared.fault.LineFault.TheVariants.{BadCharacters, BadSheet, Characters, LongPage, Profile, Sheet}
use Rattle.command_line.specs.Lines.{characters_text, encoding_of, is_given, is_long, profile_text, reading_fault, sheet_in, sheet_text}
use Rattle.command_line.specs.Readings.{HasNumbers, MayHaveNumber}
use Rattle.command_line.proofs.sheets.reading_of.Goals as goal
use Rattle.command_line.proofs.sheets.reading_of.Goals.{then-is_long-via-then-is_long, then-is_long-via-else-is_long+then-is_long-2}

named : (rows : List Row) (text name : Text) → profile_text rows ≡ Some text → bytes_eq text name ≡ true → profile_text rows ≡ Some name
named rows text name is same = let here : text ≡ name = (bytes_eq-Decides text name).0 same in is ∙ ap Some here

bad_sheet : (rows : List Row) → sheet_in rows ≡ None → reading_fault rows ≡ Some BadSheet
bad_sheet rows none = rw none refl

bad_characters : (rows : List Row) (sheet : ℕ) → sheet_in rows ≡ Some sheet → encoding_of rows ≡ None → reading_fault rows ≡ Some BadCharacters
bad_characters rows sheet asked none = rw (asked, none) refl

-- where the sheet and the characters are good
module _ (rows : List Row) (sheet : ℕ) (encoding : Encoding) (asked : sheet_in rows ≡ Some sheet) (read : encoding_of rows ≡ Some encoding) where
  full_is_good : profile_text rows ≡ Some (codes "full") → reading_fault rows ≡ None
  full_is_good is = rw (asked, read, is) refl

  other_is_bad : (text : Text) → profile_text rows ≡ Some text → bytes_eq text (codes "full") ≡ false → bytes_eq text (codes "core") ≡ false
      → reading_fault rows ≡ Some Profile
  other_is_bad text is not_full not_core = rw (asked, read, is, not_full, not_core) refl

  core_has_no_sheet : profile_text rows ≡ Some (codes "core") → is_given rows (codes "sheet") ≡ true → reading_fault rows ≡ Some Sheet
  core_has_no_sheet is given = rw (asked, read, is, given) refl

  core_has_no_characters : profile_text rows ≡ Some (codes "core") → is_given rows (codes "sheet") ≡ false → is_given rows (codes "characters") ≡ true
      → reading_fault rows ≡ Some Characters
  core_has_no_characters is none given = rw (asked, read, is, none, given) refl

  core_has_no_length : profile_text rows ≡ Some (codes "core") → is_given rows (codes "sheet") ≡ false → is_given rows (codes "characters") ≡ false
      → (is_long rows (codes "width") || is_long rows (codes "height")) ≡ true → reading_fault rows ≡ Some LongPage
  core_has_no_length is none plain long = rw (asked, read, is, none, plain, long) refl

  core_is_good : profile_text rows ≡ Some (codes "core") → is_given rows (codes "sheet") ≡ false → is_given rows (codes "characters") ≡ false
      → (is_long rows (codes "width") || is_long rows (codes "height")) ≡ false → reading_fault rows ≡ None
  core_is_good is none plain short = rw (asked, read, is, none, plain, short) refl

not_given : {X : Type 0} (o : Option X) → is_some o ≡ false → o ≡ None
not_given None is = refl
not_given (Some x) is = absurd (cc)

not_flipped : (b r : Bool) → r ≡ not b → b ≡ not r
not_flipped true r is = let flipped : r ≡ false = is in rw flipped refl
not_flipped false r is = let flipped : r ≡ true = is in rw flipped refl

pub returns-in_err-sheet-clause-refused : goal.returns-in_err-sheet-clause-refused
returns-in_err-sheet-clause-refused c = λ has numbers.
    let F = found_of c.args.options.now in
    passed_fault _ _ c.from_residual.ensures.1
    ∙ ap Some (its_fault c.sheet_of.result BadSheet _ (sym c.ok_or.ensures.value ∙ c.in_err-sheet.was))
    ∙ sym (bad_sheet (rows_of F) (sym c.sheet_of.ensures ∙ not_known _ c.in_err-sheet.ensures.variant))

pub returns-in_err-encoding-clause-refused : goal.returns-in_err-encoding-clause-refused
returns-in_err-encoding-clause-refused c = λ has numbers.
    let F = found_of c.args.options.now in
    let asked = sym c.sheet_of.ensures ∙ was_some c.sheet_of.result _ _ (sym c.ok_or.ensures.value ∙ c.in_ok-sheet.was) in
    passed_fault _ _ c.from_residual-in_err-encoding.ensures.1
    ∙ ap Some (its_fault c.encoding_of.result BadCharacters _ (sym c.ok_or-2.ensures.value ∙ c.in_err-encoding.was))
    ∙ sym (bad_characters (rows_of F) _ asked (sym c.encoding_of.ensures ∙ not_known _ c.in_err-encoding.ensures.variant))

pub returns-in_err-profile-clause-refused : goal.returns-in_err-profile-clause-refused
returns-in_err-profile-clause-refused c = λ has numbers.
    let F = found_of c.args.options.now in
    let same = ap is_some (c.get_str.ensures ∙ first_value-rows F (codes "profile")) in
    let none : false ≡ true = c.in_err-profile.ensures.variant ∙ sym (is_there _ c.get_str.result) ∙ same ∙ has in
    absurd (cc)

pub returns-then-eq-clause-reading : goal.returns-then-eq-clause-reading
returns-then-eq-clause-reading c =
    let F = found_of c.args.options.now in
    let is = passed _ c.get_str.result _ _ _ (c.get_str.ensures ∙ first_value-rows F (codes "profile")) (sym c.ok_or-3.ensures.value ∙ c.in_ok-profile.was) in
    let asked = sym c.sheet_of.ensures ∙ was_some c.sheet_of.result _ _ (sym c.ok_or.ensures.value ∙ c.in_ok-sheet.was) in
    let read = sym c.encoding_of.ensures ∙ was_some c.encoding_of.result _ _ (sym c.ok_or-2.ensures.value ∙ c.in_ok-encoding.was) in
    (named (rows_of F) _ (codes "full") is (sym c.if-eq.ensures), asked, read)

pub returns-then-eq-clause-refused : goal.returns-then-eq-clause-refused
returns-then-eq-clause-refused c = λ has numbers.
    let F = found_of c.args.options.now in
    let is = passed _ c.get_str.result _ _ _ (c.get_str.ensures ∙ first_value-rows F (codes "profile")) (sym c.ok_or-3.ensures.value ∙ c.in_ok-profile.was) in
    let asked = sym c.sheet_of.ensures ∙ was_some c.sheet_of.result _ _ (sym c.ok_or.ensures.value ∙ c.in_ok-sheet.was) in
    let read = sym c.encoding_of.ensures ∙ was_some c.encoding_of.result _ _ (sym c.ok_or-2.ensures.value ∙ c.in_ok-encoding.was) in
    sym (full_is_good (rows_of F) _ _ asked read (named (rows_of F) _ (codes "full") is (sym c.if-eq.ensures)))

pub returns-then-ne-clause-refused : goal.returns-then-ne-clause-refused
returns-then-ne-clause-refused c = λ has numbers.
    let F = found_of c.args.options.now in
    let is = passed _ c.get_str.result _ _ _ (c.get_str.ensures ∙ first_value-rows F (codes "profile")) (sym c.ok_or-3.ensures.value ∙ c.in_ok-profile.was) in
    let asked = sym c.sheet_of.ensures ∙ was_some c.sheet_of.result _ _ (sym c.ok_or.ensures.value ∙ c.in_ok-sheet.was) in
    let read = sym c.encoding_of.ensures ∙ was_some c.encoding_of.result _ _ (sym c.ok_or-2.ensures.value ∙ c.in_ok-encoding.was) in
    sym (other_is_bad (rows_of F) _ _ asked read _ is (sym c.if-eq.ensures) (not_flipped _ _ c.if-ne.ensures))

pub returns-then-is_given-clause-refused : goal.returns-then-is_given-clause-refused
returns-then-is_given-clause-refused c = λ has numbers.
    let F = found_of c.args.options.now in
    let is = passed _ c.get_str.result _ _ _ (c.get_str.ensures ∙ first_value-rows F (codes "profile")) (sym c.ok_or-3.ensures.value ∙ c.in_ok-profile.was) in
    let asked = sym c.sheet_of.ensures ∙ was_some c.sheet_of.result _ _ (sym c.ok_or.ensures.value ∙ c.in_ok-sheet.was) in
    let read = sym c.encoding_of.ensures ∙ was_some c.encoding_of.result _ _ (sym c.ok_or-2.ensures.value ∙ c.in_ok-encoding.was) in
    sym (core_has_no_sheet (rows_of F) _ _ asked read (named (rows_of F) _ (codes "core") is (not_flipped _ _ c.if-ne.ensures)) (sym c.if-is_given.ensures))

pub returns-then-is_given-2-clause-refused : goal.returns-then-is_given-2-clause-refused
returns-then-is_given-2-clause-refused c = λ has numbers.
    let F = found_of c.args.options.now in
    let is = passed _ c.get_str.result _ _ _ (c.get_str.ensures ∙ first_value-rows F (codes "profile")) (sym c.ok_or-3.ensures.value ∙ c.in_ok-profile.was) in
    let asked = sym c.sheet_of.ensures ∙ was_some c.sheet_of.result _ _ (sym c.ok_or.ensures.value ∙ c.in_ok-sheet.was) in
    let read = sym c.encoding_of.ensures ∙ was_some c.encoding_of.result _ _ (sym c.ok_or-2.ensures.value ∙ c.in_ok-encoding.was) in
    sym (core_has_no_characters (rows_of F) _ _ asked read (named (rows_of F) _ (codes "core") is (not_flipped _ _ c.if-ne.ensures)) (sym c.if-is_given.ensures) (sym c.if-is_given-2.ensures))

first_long : (a b : Bool) → a ≡ true → (a || b) ≡ true
first_long true b h = refl
first_long false b h = absurd (cc h)

second_long : (a b : Bool) → b ≡ true → (a || b) ≡ true
second_long true b h = refl
second_long false b h = h

neither_long : (a b : Bool) → a ≡ false → b ≡ false → (a || b) ≡ false
neither_long a b p q = rw (p, q) refl

-- whether a side that is given is long
long_is : (rows : List Row) (b : Bool) → HasNumbers rows → (MayHaveNumber rows (codes "width") 64 524288 → b ≡ is_long rows (codes "width")) → b ≡ is_long rows (codes "width")
long_is rows b numbers h = h (numbers.within (codes "width"))

tall_is : (rows : List Row) (b : Bool) → HasNumbers rows → (MayHaveNumber rows (codes "height") 64 524288 → b ≡ is_long rows (codes "height")) → b ≡ is_long rows (codes "height")
tall_is rows b numbers h = h (numbers.within (codes "height"))

pub returns-then-is_long-clause-refused : goal.returns-then-is_long-clause-refused
returns-then-is_long-clause-refused c = λ has numbers.
    let F = found_of c.args.options.now in
    let is = passed _ c.get_str.result _ _ _ (c.get_str.ensures ∙ first_value-rows F (codes "profile")) (sym c.ok_or-3.ensures.value ∙ c.in_ok-profile.was) in
    let asked = sym c.sheet_of.ensures ∙ was_some c.sheet_of.result _ _ (sym c.ok_or.ensures.value ∙ c.in_ok-sheet.was) in
    let read = sym c.encoding_of.ensures ∙ was_some c.encoding_of.result _ _ (sym c.ok_or-2.ensures.value ∙ c.in_ok-encoding.was) in
    let core = named (rows_of F) _ (codes "core") is (not_flipped _ _ c.if-ne.ensures) in
    let long : (is_long (rows_of F) (codes "width") || is_long (rows_of F) (codes "height")) ≡ true = elim c.then-is_long.branch [
      | then-is_long-via-then-is_long w ↦ first_long (is_long (rows_of F) (codes "width")) _ (sym (long_is (rows_of F) true numbers w.if-is_long.ensures))
      | then-is_long-via-else-is_long+then-is_long-2 w ↦
          second_long (is_long (rows_of F) (codes "width")) _ (sym (tall_is (rows_of F) true numbers w.if-is_long-2.ensures))
    ] in
    sym (core_has_no_length (rows_of F) _ _ asked read core (sym c.if-is_given.ensures) (sym c.if-is_given-2.ensures) long)

pub returns-clause-reading : goal.returns-clause-reading
returns-clause-reading c =
    let F = found_of c.args.options.now in
    let is = passed _ c.get_str.result _ _ _ (c.get_str.ensures ∙ first_value-rows F (codes "profile")) (sym c.ok_or-3.ensures.value ∙ c.in_ok-profile.was) in (
      named (rows_of F) _ (codes "core") is (not_flipped _ _ c.if-ne.ensures),
      not_given (sheet_text (rows_of F)) (sym c.if-is_given.ensures),
      not_given (characters_text (rows_of F)) (sym c.if-is_given-2.ensures),
    )

pub returns-clause-refused : goal.returns-clause-refused
returns-clause-refused c = λ has numbers.
    let F = found_of c.args.options.now in
    let is = passed _ c.get_str.result _ _ _ (c.get_str.ensures ∙ first_value-rows F (codes "profile")) (sym c.ok_or-3.ensures.value ∙ c.in_ok-profile.was) in
    let asked = sym c.sheet_of.ensures ∙ was_some c.sheet_of.result _ _ (sym c.ok_or.ensures.value ∙ c.in_ok-sheet.was) in
    let read = sym c.encoding_of.ensures ∙ was_some c.encoding_of.result _ _ (sym c.ok_or-2.ensures.value ∙ c.in_ok-encoding.was) in
    sym (core_is_good (rows_of F) _ _ asked read (named (rows_of F) _ (codes "core") is (not_flipped _ _ c.if-ne.ensures)) (sym c.if-is_given.ensures) (sym c.if-is_given-2.ensures)
    (neither_long _ _ (sym (long_is (rows_of F) false numbers c.if-is_long.ensures)) (sym (tall_is (rows_of F) false numbers c.if-is_long-2.ensures))))
