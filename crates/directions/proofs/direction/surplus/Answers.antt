use Rattle.std.proofs.Common.{◌≡◌, nat_abs, arith}
use Rattle.std.specs.Prelude.{max}
use Rattle.std.proofs.lemmas.Int.{ints}
use Rattle.directions.proofs.Lengths.{IsSurplus, surplus_by}
use Rattle.directions.proofs.direction.surplus.Goals as goal
use Rattle.directions.proofs.direction.surplus.Goals.{After-saturating_sub}

known : (c : After-saturating_sub) → IsSurplus (max (nat_abs c.args.u) (nat_abs c.args.v)) c.saturating_sub.result
known c =
    let n : c.max-larger.result ≡ max (nat_abs c.args.u) (nat_abs c.args.v) = omega (arith, ints) in
    surplus_by (max (nat_abs c.args.u) (nat_abs c.args.v)) c.in-Some.top c.saturating_sub.result (omega (arith, ints)) (omega (arith, c.in-Some.ensures.power_le)) (omega (arith, c.in-Some.ensures.next_power_gt)) (omega arith)

pub returns-in-Some-clause-value : goal.returns-in-Some-clause-value
returns-in-Some-clause-value c = let k = known c in k.value

pub returns-in-Some-clause-u_below : goal.returns-in-Some-clause-u_below
returns-in-Some-clause-u_below c = let k = known c in omega (arith, k.below)

pub returns-in-Some-clause-v_below : goal.returns-in-Some-clause-v_below
returns-in-Some-clause-v_below c = let k = known c in omega (arith, k.below)

pub returns-in-Some-clause-at_least : goal.returns-in-Some-clause-at_least
returns-in-Some-clause-at_least c = let k = known c in k.at_least

pub returns-in-Some-clause-most : goal.returns-in-Some-clause-most
returns-in-Some-clause-most c = let k = known c in k.most
