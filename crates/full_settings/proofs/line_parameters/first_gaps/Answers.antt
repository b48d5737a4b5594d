use Rattle.std.proofs.Common.{arith, ◌≡◌, ◌∙◌, sym, ap, ℕ, ℤ, List, take}
use Rattle.full_settings.proofs.Gaps.{taken}
use Rattle.full_settings.proofs.line_parameters.first_gaps.Goals as goal

pub returns-clause-values : goal.returns-clause-values
returns-clause-values c =
    let all : c.list.count ≡ 20 = omega (arith, c.list.invariant.within, c.list-test.false) in
    sym (ap (λ (n : ℕ). take n c.args.gaps) (sym all) ∙ ap (λ (zs : List ℤ). take c.list.count zs) (sym c.list.invariant.all) ∙ taken c.list.count c.list.list c.list.rest (omega (arith, c.list.invariant.room, c.list.invariant.within)))
