use Rattle.std.proofs.Common.{◌≡◌, ◌∙◌, List, Some, None, ap, codes, refl, sym}
use Rattle.std.specs.Prelude.{option_and_then, option_map}
use Rattle.clap.specs.Words.{Row, Text, found_of, rows_of}
use Rattle.clap.proofs.WalkLemmas.{first_value-rows}
use Rattle.clap.specs.Walk.{first_of}
use Rattle.command_line.specs.declared.destination.Destination.{Destination}
use Rattle.command_line.specs.Lines.{extension_in, form_text, output_text}
use Rattle.command_line.proofs.line.asked_form.Goals as goal

form_given : (into : Destination) (rows : List Row) (name : Text) → first_of (codes "form") rows ≡ Some name → Some name ≡ form_text into rows
form_given into rows name is = rw is refl

by_extension : (into : Destination) (rows : List Row) → first_of (codes "form") rows ≡ None
    → option_and_then (extension_in into) (output_text rows) ≡ form_text into rows
by_extension into rows no_form = rw no_form refl

pub returns-in-Some : goal.returns-in-Some
returns-in-Some c =
    let F = found_of c.args.options.now in
    form_given c.args.destination (rows_of F) _ (sym (c.get_str.ensures ∙ first_value-rows F (codes "form")) ∙ ap (option_map (λ s. s.now)) c.in-Some.is)

pub returns-in-None : goal.returns-in-None
returns-in-None c =
    let F = found_of c.args.options.now in
    let no_form = sym (c.get_str.ensures ∙ first_value-rows F (codes "form")) ∙ ap (option_map (λ s. s.now)) c.in-None.is in
    c.output_extension.ensures ∙ by_extension c.args.destination (rows_of F) no_form
