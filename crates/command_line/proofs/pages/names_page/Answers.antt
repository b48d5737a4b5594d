use Rattle.std.proofs.Common.{◌∙◌, ap, sym, false, codes, Option}
use Rattle.std.specs.Option.{option_map_or}
use Rattle.std.specs.Prelude.{option_map}
use Rattle.clap.specs.Words.{Text, found_of}
use Rattle.clap.proofs.WalkLemmas.{first_value-rows}
use Rattle.command_line.specs.Papers.{names_plot}
use Rattle.command_line.proofs.pages.names_page.Goals as goal

pub returns-in-Some : goal.returns-in-Some
returns-in-Some c =
    let text = sym (c.get_str.ensures ∙ first_value-rows (found_of c.args.options.now) (codes "page")) ∙ ap (option_map (λ s. s.now)) c.in-Some.is in
    c.names_plot.ensures ∙ sym (ap (λ (found : Option Text). option_map_or names_plot found false) text)

pub returns-in-None : goal.returns-in-None
returns-in-None c =
    let text = sym (c.get_str.ensures ∙ first_value-rows (found_of c.args.options.now) (codes "page")) ∙ ap (option_map (λ s. s.now)) c.in-None.is in
    sym (ap (λ (found : Option Text). option_map_or names_plot found false) text)
