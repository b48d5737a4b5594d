use Rattle.std.proofs.Common.{arith, ◌≡◌, ◌-◌, ◌*◌, ℕ, refl, ap, get_or, ◌<◌, ◌≤◌}
use Rattle.std.proofs.Math.Nat.{mul-le-mul_right}
use Rattle.escapes.proofs.Digits.{weight, decimals_sum_more, weight_next}
use Rattle.escapes.proofs.value.decimals_of.Goals as goal

pub loop-digit-init : goal.loop-digit-init
unfolding weight
loop-digit-init c = record { value = refl; weight_is = refl; room = omega arith }

pub loop-digit-preserved : goal.loop-digit-preserved
loop-digit-preserved c =
    let ds = c.args.digits.now in
    let i = c.loop-digit.digit-index in
    let d : c.from.result ≡ get_or ds i 0 - 48 = omega arith in
    let p = ap (λ (w : ℕ). (get_or ds i 0 - 48) * w) c.loop-digit.invariant.weight_is in
    let q = ap (λ (n : ℕ). n * c.loop-digit.weight) d in
    let b = c.type_inv.digits i in
    let b' : get_or ds i 0 < 256 = omega (arith, b.fits) in
    let k : c.from.result ≤ 207 = omega arith in
    let r : c.from.result * c.loop-digit.weight ≤ 207 * c.loop-digit.weight = mul-le-mul_right c.loop-digit.weight k in
    record {
      value = omega (arith, decimals_sum_more 6 ds i (omega arith));
      weight_is = omega (arith, weight_next 6 i);
      room = omega (arith, r);
    }
