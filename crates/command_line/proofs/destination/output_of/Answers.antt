use Rattle.std.proofs.Common.{◌≡◌, ◌∙◌, List, Option, Some, None, ap, codes, sym}
use Rattle.std.specs.Prelude.{option_and_then, option_map}
use Rattle.clap.specs.Words.{Row, Text, found_of, rows_of}
use Rattle.clap.proofs.WalkLemmas.{first_value-rows}
use Rattle.command_line.specs.Lines.{output_text}
use Rattle.command_line.proofs.destination.output_of.Goals as goal

-- what the options of a pair of a name and options say
of_options : (found : Option (Text × List Row)) (rows : List Row) → option_map (λ (p : Text × List Row). p.1) found ≡ Some rows
    → output_text rows ≡ option_and_then (λ (p : Text × List Row). output_text p.1) found
of_options None rows is = absurd (cc)
of_options (Some pair) rows is = let same : pair.1 ≡ rows = cc in ap output_text (sym same)

pub returns : goal.returns
returns c =
    let F = found_of c.in_ok-options.options.now in
    let rows = sym c.subcommand.ensures.rows ∙ ap (option_map (λ p. rows_of (found_of p.1.now))) c.in_ok-options.was in
    c.get_str.ensures ∙ first_value-rows F (codes "output") ∙ of_options _ _ rows
