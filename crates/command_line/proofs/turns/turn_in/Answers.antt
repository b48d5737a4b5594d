use Rattle.std.proofs.Common.{◌∙◌, ap, sym, codes, Option, Some}
use Rattle.std.specs.Option.{option_map_or}
use Rattle.std.specs.Prelude.{option_map}
use Rattle.clap.specs.Words.{Text, found_of}
use Rattle.clap.proofs.WalkLemmas.{first_value-rows}
use Rattle.directions.specs.declared.turn.Turn.TheVariants.{None}
use Rattle.command_line.specs.Turns.{turn_named}
use Rattle.command_line.proofs.turns.turn_in.Goals as goal

pub returns-in-Some : goal.returns-in-Some
returns-in-Some c =
    let text = sym (c.get_str.ensures ∙ first_value-rows (found_of c.args.options.now) (codes "rotate")) ∙ ap (option_map (λ s. s.now)) c.in-Some.is in
    c.turn_named.ensures ∙ sym (ap (λ (found : Option Text). option_map_or turn_named found (Some None)) text)

pub returns-in-None : goal.returns-in-None
returns-in-None c =
    let text = sym (c.get_str.ensures ∙ first_value-rows (found_of c.args.options.now) (codes "rotate")) ∙ ap (option_map (λ s. s.now)) c.in-None.is in
    sym (ap (λ (found : Option Text). option_map_or turn_named found (Some None)) text)
