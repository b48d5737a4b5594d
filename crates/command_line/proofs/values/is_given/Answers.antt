use Rattle.std.proofs.Common.{◌∙◌, ap, is_some, sym}
use Rattle.clap.specs.Words.{found_of}
use Rattle.clap.proofs.WalkLemmas.{first_value-rows}
use Rattle.command_line.proofs.Given.{is_there}
use Rattle.command_line.proofs.values.is_given.Goals as goal

pub returns : goal.returns
returns c =
    c.is_some.ensures
    ∙ sym (is_there (λ s. s.now) c.get_str.result)
    ∙ ap is_some (c.get_str.ensures ∙ first_value-rows (found_of c.args.options.now) c.args.name.now)
