use Rattle.std.proofs.Common.{◌≡◌, IfOk, [], true, refl, rules, subst, sym}
use Rattle.std.proofs.lemmas.Result.{IfOk-weaker}
use Rattle.clap.specs.Words.{App, app_of, fault_of, is_simple_and_free, HasMatchesOf}
use Rattle.clap.specs.declared.builder.command.Command.{Command}
use Rattle.command_line.specs.Options.{plot_app}
use Rattle.command_line.specs.Parses.{HasGoodMatches}
use Rattle.command_line.proofs.CommandLaw.{plot_parses}
use Rattle.command_line.proofs.options.command.Goals as goal

pub returns-clause-simple : goal.returns-clause-simple
returns-clause-simple c =
    let app : IfOk c.map_err.result (λ (x : Command). app_of x ≡ plot_app) = search rules in
    IfOk-weaker c.map_err.result _ _ (λ x e. subst (λ (a : App). is_simple_and_free a ≡ true) (sym e) refl) app

pub returns-clause-parses : goal.returns-clause-parses
returns-clause-parses c =
    let app : IfOk c.map_err.result (λ (x : Command). app_of x ≡ plot_app) = search rules in
    IfOk-weaker c.map_err.result _ _
    (λ x e words m. subst (λ (a : App). fault_of a words ≡ [] → HasMatchesOf a words m → HasGoodMatches a words m) (sym e) (plot_parses words m)) app
