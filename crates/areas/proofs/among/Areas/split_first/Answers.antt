use Rattle.std.proofs.Common.{◌≡◌, ◌∷◌, List, subst}
use Rattle.areas.specs.Shapes.{AreApart}
use Rattle.areas.specs.declared.area.Area.{Area}
use Rattle.areas.proofs.Apart.{apart_rest}
use Rattle.areas.proofs.among.Areas.split_first.Goals as goal

pub invariant_of-rest : goal.invariant_of-rest
invariant_of-rest c =
    let list : c.args.self.now.list.now ≡ c.in_ok-area.area.now ∷ c.in_ok-area.others.now = c.in_ok-area.ensures.cases.0 in
    record { apart = apart_rest c.args.self.now.before c.in_ok-area.area.now c.in_ok-area.others.now (subst (λ (zs : List Area). AreApart c.args.self.now.before zs) list c.args.self.now.apart) }
