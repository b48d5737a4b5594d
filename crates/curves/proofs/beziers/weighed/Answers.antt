use Rattle.std.proofs.Common.{◌≡◌, ℕ, ◌+◌, ◌*◌, ◌^◌, ◌≤◌, ap₂, refl, ◌∙◌, arith, ℤ, pos, nat_abs, ◌+ℤ◌, ◌*ℤ◌, FitsSigned}
use mir.Syntax.{w128}
use Rattle.std.proofs.lemmas.Int.{ints, to_z-of_z, fits_signed_from_abs}
use Rattle.exact.proofs.Fit.{back_128}
use Rattle.curves.proofs.Products.{t}
use Rattle.curves.proofs.beziers.weighed.Goals as goal
use Rattle.curves.proofs.beziers.weighed.Goals.{After-times-4}

-- a sum of four numbers, read back
record IsSum (a b c d : ℤ) : Type 0 where
  four_fits : FitsSigned w128 (t (t (t a +ℤ t b) +ℤ t c) +ℤ t d)
  back : t (t (t (t a +ℤ t b) +ℤ t c) +ℤ t d) ≡ a +ℤ b +ℤ c +ℤ d

sum_is : (a b c d : ℤ) → nat_abs a ≤ 2 ^ 57 → nat_abs b ≤ 2 ^ 57 → nat_abs c ≤ 2 ^ 57 → nat_abs d ≤ 2 ^ 57 → IsSum a b c d
sum_is a b c d p q r s =
    let fa : FitsSigned w128 a = fits_signed_from_abs w128 a (omega arith) in
    let fb : FitsSigned w128 b = fits_signed_from_abs w128 b (omega arith) in
    let fc : FitsSigned w128 c = fits_signed_from_abs w128 c (omega arith) in
    let fd : FitsSigned w128 d = fits_signed_from_abs w128 d (omega arith) in
    let two : FitsSigned w128 (a +ℤ b) = fits_signed_from_abs w128 (a +ℤ b) (omega (arith, ints)) in
    let three : FitsSigned w128 (a +ℤ b +ℤ c) = fits_signed_from_abs w128 (a +ℤ b +ℤ c) (omega (arith, ints)) in
    let four : FitsSigned w128 (a +ℤ b +ℤ c +ℤ d) = fits_signed_from_abs w128 (a +ℤ b +ℤ c +ℤ d) (omega (arith, ints)) in
    record { four_fits = simp to_z-of_z four; back = simp to_z-of_z refl }

three_fit : (a b c : ℤ) → nat_abs a ≤ 2 ^ 57 → nat_abs b ≤ 2 ^ 57 → nat_abs c ≤ 2 ^ 57 → FitsSigned w128 (t (t a +ℤ t b) +ℤ t c)
three_fit a b c p q r =
    let fa : FitsSigned w128 a = fits_signed_from_abs w128 a (omega arith) in
    let fb : FitsSigned w128 b = fits_signed_from_abs w128 b (omega arith) in
    let fc : FitsSigned w128 c = fits_signed_from_abs w128 c (omega arith) in
    let two : FitsSigned w128 (a +ℤ b) = fits_signed_from_abs w128 (a +ℤ b) (omega (arith, ints)) in
    let three : FitsSigned w128 (a +ℤ b +ℤ c) = fits_signed_from_abs w128 (a +ℤ b +ℤ c) (omega (arith, ints)) in
    simp to_z-of_z three

sum_most : (a b c d : ℤ) (l k : ℕ) → nat_abs a ≤ l * l * l * 2 ^ 27 → nat_abs b ≤ 3 * (l * l * k) * 2 ^ 27
    → nat_abs c ≤ 3 * (l * k * k) * 2 ^ 27 → nat_abs d ≤ k * k * k * 2 ^ 27
    → nat_abs (a +ℤ b +ℤ c +ℤ d) ≤ (l + k) * (l + k) * (l + k) * 2 ^ 27
sum_most a b c d l k p q r s = omega (arith, ints)

term : (z p : ℤ) (w v : ℕ) → z ≡ pos w *ℤ t p → w ≡ v → nat_abs p ≤ 2 ^ 27 → z ≡ pos v *ℤ p
term z p w v e f h = e ∙ ap₂ (λ (m : ℕ) (q : ℤ). pos m *ℤ q) f (back_128 p (omega arith))

known : (c : After-times-4) → IsSum c.times.result c.times-2.result c.times-3.result c.times-4.result
known c =
    sum_is c.times.result c.times-2.result c.times-3.result c.times-4.result
    (omega (arith, c.times.ensures.most, c.product.ensures.most))
    (omega (arith, c.times-2.ensures.most, c.product-2.ensures.most))
    (omega (arith, c.times-3.ensures.most, c.product-3.ensures.most))
    (omega (arith, c.times-4.ensures.most, c.product-4.ensures.most))

pub overflow_add-result-2 : goal.overflow_add-result-2
overflow_add-result-2 c =
    three_fit c.times.result c.times-2.result c.times-3.result
    (omega (arith, c.times.ensures.most, c.product.ensures.most))
    (omega (arith, c.times-2.ensures.most, c.product-2.ensures.most))
    (omega (arith, c.times-3.ensures.most, c.product-3.ensures.most))

pub overflow_add-result-3 : goal.overflow_add-result-3
overflow_add-result-3 c = let k = known c in k.four_fits

pub returns-clause-value : goal.returns-clause-value
returns-clause-value c =
    let k = known c in
    let m = c.args.k in
    let l = c.args.l in
    let e = term c.times.result c.args.p0 c.product.result (l * l * l) c.times.ensures.value c.product.ensures.value c.requires.p0_in in
    let f = term c.times-2.result c.args.p1 (3 * c.product-2.result) (3 * l * l * m) c.times-2.ensures.value (omega (arith, c.product-2.ensures.value)) c.requires.p1_in in
    let g = term c.times-3.result c.args.p2 (3 * c.product-3.result) (3 * l * m * m) c.times-3.ensures.value (omega (arith, c.product-3.ensures.value)) c.requires.p2_in in
    let h = term c.times-4.result c.args.p3 c.product-4.result (m * m * m) c.times-4.ensures.value c.product-4.ensures.value c.requires.p3_in in
    k.back ∙ rw (e, f, g, h) refl

pub returns-clause-most : goal.returns-clause-most
returns-clause-most c =
    let k = known c in
    let a = rw c.product.ensures.value at c.times.ensures.most in
    let b = rw c.product-2.ensures.value at c.times-2.ensures.most in
    let d = rw c.product-3.ensures.value at c.times-3.ensures.most in
    let e = rw c.product-4.ensures.value at c.times-4.ensures.most in
    rw k.back (sum_most c.times.result c.times-2.result c.times-3.result c.times-4.result c.args.l c.args.k a b d e)
