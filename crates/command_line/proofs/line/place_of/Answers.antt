use Rattle.std.proofs.Common.{◌≡◌, ◌∙◌, ◌<◌, ◌≤◌, ◌&&◌, List, Bool, Option, Some, None, true, false, ap, arith, codes, is_some, length, map, refl, sym}
use Rattle.std.specs.Borrow.{Bor}
use Rattle.std.specs.Prelude.{not, nat_lt, option_map}
use Rattle.std.proofs.lemmas.Bool.Decides.{nat_tests}
use Rattle.std.proofs.lemmas.List.{length-map}
use Rattle.clap.specs.Words.{Row, Text, found_of, rows_of}
use Rattle.clap.proofs.WalkLemmas.{first_value-rows}
use Rattle.command_line.specs.Lines.{files_in, has_no_place, output_fault, output_text}
use Rattle.command_line.specs.declared.fault.LineFault.TheVariants.{Several}
use Rattle.command_line.proofs.Given.{is_there}
use Rattle.command_line.proofs.line.place_of.Goals.{else-files_of-gt1-via-then-files_of-gt1+else-is_none, else-files_of-gt1-via-else-files_of-gt1}
use Rattle.command_line.proofs.line.place_of.Goals as goal

-- the files and the place that the rows have
record Reads (rows : List Row) (files : List (Bor Text)) (place : Option (Bor Text)) : Type 0 where
  files_are : map (λ (s : Bor Text). s.now) files ≡ files_in rows
  place_is : option_map (λ (s : Bor Text). s.now) place ≡ output_text rows

-- whether there is no place for the output
no_place : (rows : List Row) (files : List (Bor Text)) (place : Option (Bor Text)) → Reads rows files place
    → has_no_place rows ≡ (nat_lt 1 (length files) && not (is_some place))
no_place rows files place reads =
    rw (← reads.files_are, ← reads.place_is, length-map files (λ (s : Bor Text). s.now), is_there (λ (s : Bor Text). s.now) place) refl

nowhere : (rows : List Row) (files : List (Bor Text)) (place : Option (Bor Text)) → Reads rows files place → 1 < length files → is_some place ≡ false
    → output_fault rows ≡ Some Several
nowhere rows files place reads several none =
    let more : nat_lt 1 (length files) ≡ true = grind (arith, nat_tests, several) in
    rw (no_place rows files place reads, more, none) refl

somewhere : (rows : List Row) (files : List (Bor Text)) (place : Option (Bor Text)) → Reads rows files place → is_some place ≡ true
    → has_no_place rows ≡ false
somewhere rows files place reads some = no_place rows files place reads ∙ last (nat_lt 1 (length files)) (is_some place) some
  where
    last : (a b : Bool) → b ≡ true → (a && not b) ≡ false
    last true b is = rw is refl
    last false b is = refl

only_one : (rows : List Row) (files : List (Bor Text)) (place : Option (Bor Text)) → Reads rows files place → length files ≤ 1 → has_no_place rows ≡ false
only_one rows files place reads few =
    let no : nat_lt 1 (length files) ≡ false = grind (arith, nat_tests, few) in
    rw (no_place rows files place reads, no) refl

no_fault : (rows : List Row) → has_no_place rows ≡ false → None ≡ output_fault rows
no_fault rows placed = rw placed refl

pub returns-then-is_none-clause-refused : goal.returns-then-is_none-clause-refused
returns-then-is_none-clause-refused c =
    let F = found_of c.args.options.now in
    let reads : Reads (rows_of F) c.files_of.result.now c.get_str-place.result =
    record { files_are = c.files_of.ensures; place_is = c.get_str-place.ensures ∙ first_value-rows F (codes "output") } in
    sym (nowhere (rows_of F) _ _ reads c.if-files_of-gt1.true (c.is_none.ensures ∙ ap not c.if-is_none.true))

pub returns-clause-place : goal.returns-clause-place
returns-clause-place c = c.get_str-place.ensures ∙ first_value-rows (found_of c.args.options.now) (codes "output")

pub returns-clause-placed : goal.returns-clause-placed
returns-clause-placed c =
    let F = found_of c.args.options.now in
    let reads : Reads (rows_of F) c.files_of.result.now c.get_str-place.result =
    record { files_are = c.files_of.ensures; place_is = c.get_str-place.ensures ∙ first_value-rows F (codes "output") } in
    elim c.else-files_of-gt1.branch [
      | else-files_of-gt1-via-then-files_of-gt1+else-is_none w ↦ somewhere (rows_of F) _ _ reads (w.is_none.ensures ∙ ap not w.if-is_none.false)
      | else-files_of-gt1-via-else-files_of-gt1 w ↦ only_one (rows_of F) _ _ reads (omega (arith, w.if-files_of-gt1.false))
    ]

pub returns-clause-refused : goal.returns-clause-refused
returns-clause-refused c =
    let F = found_of c.args.options.now in
    let reads : Reads (rows_of F) c.files_of.result.now c.get_str-place.result =
    record { files_are = c.files_of.ensures; place_is = c.get_str-place.ensures ∙ first_value-rows F (codes "output") } in
    elim c.else-files_of-gt1.branch [
      | else-files_of-gt1-via-then-files_of-gt1+else-is_none w ↦
          no_fault (rows_of F) (somewhere (rows_of F) _ _ reads (w.is_none.ensures ∙ ap not w.if-is_none.false))
      | else-files_of-gt1-via-else-files_of-gt1 w ↦ no_fault (rows_of F) (only_one (rows_of F) _ _ reads (omega (arith, w.if-files_of-gt1.false)))
    ]
