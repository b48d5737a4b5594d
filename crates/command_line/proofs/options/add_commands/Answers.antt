use Rattle.std.proofs.Common.{◌∙◌, ap, ap₂, subst, fold, sym, arith}
use Rattle.std.proofs.lemmas.List.{take_all}
use Rattle.std.proofs.lemmas.List.Sums.{fold_more}
use Rattle.clap.specs.Words.{App, app_of, with_subcommand}
use Rattle.command_line.specs.Options.{IsOf, add_subcommand}
use Rattle.command_line.proofs.options.add_commands.Goals as goal

pub loop-name-preserved : goal.loop-name-preserved
loop-name-preserved c = record {
  app =
      c.in_ok-command.ensures.app
      ∙ ap₂ with_subcommand c.loop-name.invariant.app (ap (λ (a : App). a.top) c.in_ok-command_of.ensures.app)
      ∙ sym (fold_more (λ app row. add_subcommand app (row.0.now, row.1)) (app_of c.args.command) c.args.rows.now c.loop-name.name-index _ c.loop-name-test.true);
  local = c.in_ok-command.ensures.local;
}

pub returns : goal.returns
returns c = subst (λ rows. IsOf (fold (λ app row. add_subcommand app (row.0.now, row.1)) (app_of c.args.command) rows) c.loop-name.command) (take_all c.loop-name.name-index c.args.rows.now (omega (arith, c.loop-name-test.false))) c.loop-name.invariant
