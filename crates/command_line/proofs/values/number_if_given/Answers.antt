use Rattle.std.proofs.Common.{◌≡◌, ◌∙◌, List, Option, Some, None, true, false, is_some, refl, sym, ap}
use Rattle.std.specs.Prelude.{find, option_map, option_and_then, slice_get}
use Rattle.std.specs.Str.{bytes_eq}
use Rattle.clap.specs.Walk.{first_of, row_text}
use Rattle.clap.specs.Words.{Row, Text, found_of, rows_of}
use Rattle.clap.proofs.WalkLemmas.{first_value-rows}
use Rattle.command_line.proofs.Given.{is_there}
use Rattle.command_line.specs.Lines.{number_in}
use Rattle.command_line.proofs.values.number_if_given.Goals as goal

by_text : {X Y Z : Type 0} (f : X → Y) (g : Y → Z) (o : Option X) → is_some (option_map g (option_map f o)) ≡ is_some o
by_text f g None = refl
by_text f g (Some x) = refl

by_row : {Z : Type 0} (g : Text → Z) (o : Option Row) → is_some (option_map g (option_and_then row_text o)) ≡ is_some (option_and_then (λ (r : Row). slice_get r.values 0) o)
by_row g None = refl
by_row g (Some r) = by_text _ g (slice_get r.values 0)

-- an option has a number if it has a text
given : (name : Text) (rows : List Row) → is_some (number_in rows name) ≡ is_some (first_of name rows)
given name rows = by_row _ (find (λ (r : Row). bytes_eq r.id name) rows)

no_value : {X : Type 0} (o : Option X) → is_some o ≡ false → o ≡ None
no_value None is = refl
no_value (Some x) is = absurd (cc)

pub returns-then-is_none-clause-number : goal.returns-then-is_none-clause-number
returns-then-is_none-clause-number c =
    let F = found_of c.args.options.now in
    let name = c.args.name.now in
    let same = given name (rows_of F) ∙ ap is_some (sym (c.get_str.ensures ∙ first_value-rows F name)) ∙ is_there _ c.get_str.result in
    no_value _ (same ∙ c.if-is_none.ensures)

pub returns-in_err-number_of-clause-understood : goal.returns-in_err-number_of-clause-understood
returns-in_err-number_of-clause-understood c = λ low high fits may.
    let F = found_of c.args.options.now in
    let name = c.args.name.now in
    let same = given name (rows_of F) ∙ ap is_some (sym (c.get_str.ensures ∙ first_value-rows F name)) ∙ is_there _ c.get_str.result in
    let is : is_some c.get_str.result ≡ true = c.if-is_none.ensures in
    absurd (c.in_err-number_of.ensures.understood low high fits (may (same ∙ is)))
