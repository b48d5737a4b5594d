use Rattle.std.proofs.Common.{◌≡◌, ◌^◌, ap, ◌∙◌, arith, ℤ, pos, ◌*ℤ◌}
use Rattle.exact.proofs.Fit.{product_within}
use Rattle.curves.proofs.Products.{read_product, t}
use Rattle.curves.proofs.beziers.times.Goals as goal

pub returns-clause-most : goal.returns-clause-most
returns-clause-most c =
    let w = c.args.weight in
    let p = c.args.p in
    let h = c.requires.p_in in
    let k = c.requires.weight_in in
    let m = product_within (pos w) p w (2 ^ 27) (omega arith) h in
    let e : t (t c.from.result *ℤ t p) ≡ pos w *ℤ p =
    ap (λ (z : ℤ). t (t z *ℤ t p)) c.from.ensures ∙ read_product (pos w) p (omega arith) (omega arith) in
    rw e m
