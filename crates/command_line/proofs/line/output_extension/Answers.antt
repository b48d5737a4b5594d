use Rattle.std.proofs.Common.{◌≡◌, ◌∙◌, List, Some, None, ap, codes, refl, sym}
use Rattle.std.specs.Prelude.{option_and_then, option_map}
use Rattle.clap.specs.Words.{Row, Text, found_of, rows_of}
use Rattle.clap.proofs.WalkLemmas.{first_value-rows}
use Rattle.command_line.specs.declared.destination.Destination.{Destination}
use Rattle.command_line.specs.declared.destination.Destination.TheVariants.{File}
use Rattle.command_line.specs.Forms.{extension_of}
use Rattle.command_line.specs.Lines.{extension_in, output_text}
use Rattle.command_line.proofs.line.output_extension.Goals as goal

of_path : (into : Destination) (rows : List Row) (path : Text) → into ≡ File → output_text rows ≡ Some path
    → extension_of path ≡ option_and_then (extension_in into) (output_text rows)
of_path into rows path is named = rw (is, named) refl

no_path : (into : Destination) (rows : List Row) → output_text rows ≡ None → None ≡ option_and_then (extension_in into) (output_text rows)
no_path into rows none = rw none refl

pub returns-in_err-get_str-in-File : goal.returns-in_err-get_str-in-File
returns-in_err-get_str-in-File c =
    let F = found_of c.args.options.now in
    let no_output = sym (c.get_str.ensures ∙ first_value-rows F (codes "output")) ∙ ap (option_map (λ s. s.now)) c.in_err-get_str-in-File.was in
    ap (option_map (λ s. s.now)) c.from_residual.ensures ∙ no_path c.args.destination (rows_of F) no_output

pub returns-in_ok-get_str-in-File : goal.returns-in_ok-get_str-in-File
returns-in_ok-get_str-in-File c =
    let F = found_of c.args.options.now in
    let output = sym (c.get_str.ensures ∙ first_value-rows F (codes "output")) ∙ ap (option_map (λ s. s.now)) c.in_ok-get_str-in-File.was in
    c.extension_of.ensures ∙ of_path c.args.destination (rows_of F) _ c.in-File.is output
