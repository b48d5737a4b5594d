use Rattle.std.proofs.Common.{◌∙◌, [], List, Option, ap, codes}
use Rattle.std.specs.Prelude.{unwrap_or}
use Rattle.clap.specs.Words.{Text, found_of}
use Rattle.clap.proofs.WalkLemmas.{raw_values-rows}
use Rattle.command_line.proofs.line.files_of.Goals as goal

pub returns-in_default : goal.returns-in_default
returns-in_default c =
    rw c.no_items.ensures
    (ap (λ (found : Option (List Text)). unwrap_or found []) (c.in_default.ensures ∙ raw_values-rows (found_of c.args.options.now) (codes "FILE")))

pub returns : goal.returns
returns c =
    ap (λ (found : Option (List Text)). unwrap_or found []) (c.in-Some.ensures ∙ raw_values-rows (found_of c.args.options.now) (codes "FILE"))
