use Rattle.std.proofs.Common.{arith, ◌≡◌, ◌∙◌, sym, ap, ℕ, ℤ, List, take}
use Rattle.hpgl_text.proofs.ParameterLists.{taken}
use Rattle.hpgl_text.proofs.numbers.Numbers.leading.Goals as goal

pub returns-clause-values : goal.returns-clause-values
returns-clause-values c =
    let all : c.list.count ≡ 7 = omega (arith, c.list.invariant.within, c.list-test.false) in
    sym (ap (λ (n : ℕ). take n c.args.self.now) (sym all) ∙ ap (λ (zs : List ℤ). take c.list.count zs) (sym c.list.invariant.all) ∙ taken c.list.count c.list.list c.list.rest (omega (arith, c.list.invariant.room, c.list.invariant.within)))
