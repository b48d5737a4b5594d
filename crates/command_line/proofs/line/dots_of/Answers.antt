use Rattle.std.proofs.Common.{◌≡◌, ◌∙◌, ◌≤◌, ℕ, Option, Some, None, true, is_some, ap, arith, refl, subst, sym}
use Rattle.std.specs.Prelude.{IfSome, IsOk}
use Rattle.std.specs.Option.{ok_or, unwrap_or}
use Rattle.std.proofs.lemmas.Bool.Decides.{nat_tests}
use Rattle.plot_page.specs.Pages.{is_resolution}
use Rattle.command_line.specs.Defaults.{defaults_of}
use Rattle.command_line.specs.declared.subcommands.Kind.{Kind}
use Rattle.command_line.specs.declared.subcommands.Kind.TheVariants.{Draw, Write}
use Rattle.command_line.proofs.line.dots_of.Goals as goal

resolution : (dots : ℕ) → 10 ≤ dots → dots ≤ 1200 → is_resolution dots ≡ true
resolution dots least most = grind (arith, nat_tests)

-- the given or the usual dots per inch are a resolution
within : (kind : Kind) (given : Option ℕ) → IfSome given (λ n. (10 ≤ n) × (n ≤ 1200)) → is_resolution (unwrap_or given (defaults_of kind).dots) ≡ true
within (Draw destination) None in_range = refl
within (Write output) None in_range = refl
within kind (Some n) in_range = resolution n in_range.0 in_range.1

made : {X E : Type 0} (o : Option X) (e : E) → is_some o ≡ true → IsOk (ok_or o e)
made None e is = absurd (cc)
made (Some x) e is = refl

pub returns-in_err-given-clause-understood : goal.returns-in_err-given-clause-understood
returns-in_err-given-clause-understood c = λ may. absurd (c.in_err-given.ensures.understood 10 1200 (omega arith) may)

pub returns-clause-understood : goal.returns-clause-understood
returns-clause-understood c = λ may.
    let usual = c.unwrap_or.ensures ∙ ap (unwrap_or c.in_ok-given.given) c.defaults_of.ensures.dots in
    let good = within c.args.kind _ (c.in_ok-given.ensures.understood 10 1200 (omega arith) may) in
    subst IsOk (sym c.ok_or.ensures.value) (made _ _ (c.new.ensures.given ∙ ap is_resolution usual ∙ good))
