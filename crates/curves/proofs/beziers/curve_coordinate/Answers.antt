use Rattle.std.proofs.Common.{◌≡◌, ℕ, ◌+◌, ◌-◌, ◌*◌, ◌^◌, ◌<◌, ◌≤◌, ap, ◌∙◌, arith, pos, nat_abs}
use Rattle.std.proofs.lemmas.Nat.{mul-le}
use Rattle.exact.proofs.Between.{within}
use Rattle.exact.proofs.Fit.{back_128}
use Rattle.curves.proofs.Products.{t}
use Rattle.curves.proofs.beziers.curve_coordinate.Goals as goal

cube_above : (n : ℕ) → 0 < n → 0 < n * n * n
cube_above n h =
    let p : 1 * 1 ≤ n * n = mul-le 1 1 n n h h in
    let q : 1 * 1 ≤ n * n * n = mul-le 1 1 (n * n) n (omega arith) h in
    omega (arith, q)

pub returns-clause-most : goal.returns-clause-most
returns-clause-most c =
    let n = c.args.n in
    let kin = c.requires.k_in in
    let all : n - c.args.k + c.args.k ≡ n = omega arith in
    let w = c.weighed.result in
    let m : nat_abs w ≤ n * n * n * 2 ^ 27 = rw all at c.weighed.ensures.most in
    let e : c.product.result ≡ n * n * n = c.product.ensures.value in
    let p : n * n * n ≤ 2 ^ 24 = rw e at c.product.ensures.most in
    let f : t c.from.result ≡ pos (n * n * n) = ap t (c.from.ensures ∙ ap pos e) ∙ back_128 (pos (n * n * n)) (omega (arith, p)) in
    let g = rw (back_128 w (omega (arith, m, p)), f) at c.rounded.ensures in
    let h : nat_abs c.rounded.result ≤ 2 ^ 27 = rw g (within (n * n * n) (2 ^ 27) w (cube_above n c.requires.above) (omega (arith, m))) in
    rw (back_128 c.rounded.result (omega (arith, h))) h
