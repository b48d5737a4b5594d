use Rattle.std.proofs.Common.{◌≡◌, List, IfOk, true, map, refl, subst, sym}
use Rattle.clap.specs.Words.{App, Text, app_of, fault_of, FailsBy, HasMatchesOf, is_simple_and_free}
use Rattle.command_line.specs.Options.{plot_app}
use Rattle.command_line.proofs.CommandLaw.{parsed_good}
use Rattle.command_line.proofs.options.parse.Goals as goal

pub returns-clause-faults : goal.returns-clause-faults
returns-clause-faults g c =
    let words : List Text = map g.S.AsStr.text c.args.words.now in
    let is : app_of c.args.command ≡ plot_app = c.requires.app in
    let simple : is_simple_and_free (app_of c.args.command) ≡ true = subst (λ (a : App). is_simple_and_free a ≡ true) (sym is) refl in
    subst (λ (a : App). FailsBy (fault_of a words) c.try_get_matches_from.result) is (c.try_get_matches_from.ensures.kinds simple)

pub returns-clause-matches : goal.returns-clause-matches
returns-clause-matches g c =
    let words : List Text = map g.S.AsStr.text c.args.words.now in
    let is : app_of c.args.command ≡ plot_app = c.requires.app in
    let simple : is_simple_and_free (app_of c.args.command) ≡ true = subst (λ (a : App). is_simple_and_free a ≡ true) (sym is) refl in
    parsed_good words c.try_get_matches_from.result
    (subst (λ (a : App). FailsBy (fault_of a words) c.try_get_matches_from.result) is (c.try_get_matches_from.ensures.kinds simple))
    (subst (λ (a : App). IfOk c.try_get_matches_from.result (HasMatchesOf a words)) is c.try_get_matches_from.ensures.matches)
