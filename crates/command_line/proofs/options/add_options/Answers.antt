use Rattle.std.proofs.Common.{subst, fold, arith}
use Rattle.std.proofs.lemmas.List.{take_all}
use Rattle.clap.specs.Words.{app_of}
use Rattle.command_line.specs.Options.{IsOf}
use Rattle.command_line.specs.Tables.{add_option, row_of}
use Rattle.command_line.proofs.Tables.{one_more}
use Rattle.command_line.proofs.options.add_options.Goals as goal

pub loop-row-preserved : goal.loop-row-preserved
loop-row-preserved c = record {
  app = one_more c.args.kind (app_of c.args.command) (app_of c.loop-row.command) (app_of c.in_ok-command.command) c.args.rows.now c.loop-row.row-index _
      c.loop-row.invariant.app c.in_ok-command.ensures.app c.loop-row-test.true;
  local = c.in_ok-command.ensures.local;
}

pub returns : goal.returns
returns c = subst (λ rows. IsOf (fold (λ app row. add_option c.args.kind app (row_of row)) (app_of c.args.command) rows) c.loop-row.command) (take_all c.loop-row.row-index c.args.rows.now (omega (arith, c.loop-row-test.false))) c.loop-row.invariant
