use Rattle.std.proofs.Common.{rules, ◌≡◌, ℕ, ℤ, pos, nat_abs, ◌*◌, ◌%◌, ◌^◌, ◌<◌, ◌≤◌, ◌∙◌, ap, arith, to_z, FitsSigned}
use mir.Syntax.{w128}
use Rattle.std.proofs.lemmas.Int.{ints, to_z_pos, to_z-of_z}
use Rattle.std.proofs.lemmas.Nat.{one_shl, pow_pos, pow_below}
use Rattle.exact.specs.Fraction.{quotient, round}
use Rattle.directions.specs.Directions.{shortened}
use Rattle.exact.proofs.Between.{within, not_zero}
use Rattle.directions.proofs.direction.shortened.Goals as goal
use Rattle.directions.proofs.direction.shortened.Goals.{After-rounded}

-- the power that is shifted
power : (h : ℕ) → h ≤ 95 → to_z w128 (1 * 2 ^ h % 2 ^ 128) ≡ pos (2 ^ h)
power h l =
    let b : 2 ^ h < 2 ^ 127 = pow_below h 127 (omega arith) in
    ap (to_z w128) (one_shl h 128 (omega arith)) ∙ to_z_pos w128 (2 ^ h) b

power_most : (h : ℕ) → h ≤ 95 → 2 ^ h < 2 ^ 96
power_most h l = pow_below h 96 (omega arith)

pub rounded-requires-clause-b_in : goal.rounded-requires-clause-b_in
rounded-requires-clause-b_in c =
    let e = power c.args.digits c.requires.digits_in in
    let m = power_most c.args.digits c.requires.digits_in in
    rw e (omega arith)

pub rounded-requires-clause-b_above : goal.rounded-requires-clause-b_above
rounded-requires-clause-b_above c =
    let e = power c.args.digits c.requires.digits_in in
    let m = pow_pos c.args.digits in
    rw e (omega (arith, ints))

is_shortened : (c : After-rounded) → c.rounded.result ≡ shortened c.args.digits c.args.a
is_shortened c =
    let fa : FitsSigned w128 c.args.a = search rules in
    let e = simp to_z-of_z at c.rounded.ensures in
    e ∙ ap (λ (b : ℤ). round (quotient c.args.a b)) (power c.args.digits c.requires.digits_in)

most_lem : (c : After-rounded) → nat_abs c.rounded.result ≤ 2 ^ 31
most_lem c =
    rw (is_shortened c) (within (2 ^ c.args.digits) (2 ^ 31) c.args.a (pow_pos c.args.digits) (omega (arith, c.requires.below)))

pub returns-clause-value : goal.returns-clause-value
returns-clause-value c =
    let m = most_lem c in
    let f : FitsSigned w128 c.rounded.result = omega (arith, ints) in
    simp to_z-of_z (is_shortened c)

pub returns-clause-most : goal.returns-clause-most
returns-clause-most c =
    let m = most_lem c in
    let f : FitsSigned w128 c.rounded.result = omega (arith, ints) in
    simp to_z-of_z m

pub returns-clause-above : goal.returns-clause-above
returns-clause-above c =
    let m = most_lem c in
    let f : FitsSigned w128 c.rounded.result = omega (arith, ints) in
    λ h. simp to_z-of_z (rw (is_shortened c) (not_zero (2 ^ c.args.digits) c.args.a (pow_pos c.args.digits) h))
