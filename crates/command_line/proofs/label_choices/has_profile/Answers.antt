use Rattle.std.proofs.Common.{◌∙◌, ap, sym, false, codes, Option}
use Rattle.std.specs.Option.{option_map_or}
use Rattle.std.specs.Prelude.{option_map}
use Rattle.std.specs.Str.{bytes_eq}
use Rattle.clap.specs.Words.{Text, found_of}
use Rattle.clap.proofs.WalkLemmas.{first_value-rows}
use Rattle.command_line.proofs.label_choices.has_profile.Goals as goal

pub returns-in-Some : goal.returns-in-Some
returns-in-Some c =
    let text = sym (c.get_str.ensures ∙ first_value-rows (found_of c.args.options.now) (codes "profile")) ∙ ap (option_map (λ s. s.now)) c.in-Some.is in
    c.eq.ensures ∙ sym (ap (λ (found : Option Text). option_map_or (λ (it : Text). bytes_eq it c.args.name.now) found false) text)

pub returns-in-None : goal.returns-in-None
returns-in-None c =
    let text = sym (c.get_str.ensures ∙ first_value-rows (found_of c.args.options.now) (codes "profile")) ∙ ap (option_map (λ s. s.now)) c.in-None.is in
    sym (ap (λ (found : Option Text). option_map_or (λ (it : Text). bytes_eq it c.args.name.now) found false) text)
