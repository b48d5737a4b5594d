use Rattle.std.proofs.Common.{◌∙◌, ap, sym, codes, Option, Some}
use Rattle.std.specs.Option.{option_map_or}
use Rattle.std.specs.Prelude.{option_map}
use Rattle.clap.specs.Words.{Text as Word, found_of}
use Rattle.clap.proofs.WalkLemmas.{first_value-rows}
use Rattle.picture_job.specs.declared.vector_job.LabelChoice.TheVariants.{Text}
use Rattle.command_line.specs.LabelChoices.{labels_named}
use Rattle.command_line.proofs.label_choices.labels_in.Goals as goal

pub returns-in-Some : goal.returns-in-Some
returns-in-Some c =
    let text = sym (c.get_str.ensures ∙ first_value-rows (found_of c.args.options.now) (codes "labels")) ∙ ap (option_map (λ s. s.now)) c.in-Some.is in
    c.labels_named.ensures ∙ sym (ap (λ (found : Option Word). option_map_or labels_named found (Some Text)) text)

pub returns-in-None : goal.returns-in-None
returns-in-None c =
    let text = sym (c.get_str.ensures ∙ first_value-rows (found_of c.args.options.now) (codes "labels")) ∙ ap (option_map (λ s. s.now)) c.in-None.is in
    sym (ap (λ (found : Option Word). option_map_or labels_named found (Some Text)) text)
