use Rattle.std.proofs.Common.{◌∙◌}
use Rattle.std.proofs.lemmas.Result.{IfOk-weaker}
use Rattle.command_line.proofs.Tables.{whole}
use Rattle.command_line.proofs.options.command_of.Goals as goal

pub returns : goal.returns
returns c = IfOk-weaker c.add.result _ _ (λ command is. record {
  app = is.app ∙ whole c.args.kind c.args.name.now c.options.result.now _ _ _ c.bare.ensures.app c.in_ok-command.ensures.app c.file_of.ensures.rule c.options.ensures;
  local = is.local;
}) c.add.ensures
