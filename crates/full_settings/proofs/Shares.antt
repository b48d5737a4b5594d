-- How large shares of distances, of the page and of ranges are.
use Rattle.std.proofs.Common.{◌≢◌, refl, ℕ, zero, suc, ◌+◌, ◌*◌, ◌^◌, ◌<◌, ◌≤◌, arith, ℤ, pos, negsuc, nat_abs, ◌*ℤ◌, FitsSigned}
use mir.Syntax.{w128}
use Rattle.std.proofs.lemmas.Int.{ints, unsigned_abs-mul}
use Rattle.std.proofs.lemmas.Nat.{mul-le}
use Rattle.exact.proofs.Between.{within}
use Rattle.exact.proofs.Fit.{product_within}
use Rattle.exact.specs.Fraction.{round, quotient}
use Rattle.full_settings.specs.Letters.{grains_of_share}

-- a share of the distance from P1 to P2
pub record IsShare (d p : ℤ) : Type 0 where
  pub distance_fits : FitsSigned w128 d
  pub percent_fits : FitsSigned w128 p
  pub first_fits : FitsSigned w128 (pos 16 *ℤ d)
  pub product_fits : FitsSigned w128 (pos 16 *ℤ d *ℤ p)
  pub most : nat_abs (grains_of_share d p) ≤ 2 ^ 40

pub share_in : (d p : ℤ) → nat_abs d ≤ 2 ^ 25 → nat_abs p ≤ 1000000000 → IsShare d p
share_in d p h k =
    let a : nat_abs (pos 16 *ℤ d) ≤ 2 ^ 29 = omega (arith, ints, h) in
    let b = product_within (pos 16 *ℤ d) p (2 ^ 29) 1000000000 a k in
    record {
      distance_fits = omega (arith, ints, h);
      percent_fits = omega (arith, ints, k);
      first_fits = omega (arith, ints, a);
      product_fits = omega (arith, ints, b);
      most = within 100000000 (2 ^ 40) (pos 16 *ℤ d *ℤ p) (omega arith) (omega (arith, b));
    }

-- a share of a side of the page
pub record IsPagePart (p : ℤ) (side : ℕ) : Type 0 where
  pub percent_fits : FitsSigned w128 p
  pub product_fits : FitsSigned w128 (p *ℤ pos side)
  pub most : nat_abs (round (quotient (p *ℤ pos side) (pos 100000000))) ≤ 5242880

pub page_part_in : (p : ℤ) (side : ℕ) → nat_abs p ≤ 1000000000 → side ≤ 524288 → IsPagePart p side
page_part_in p side h k =
    let b = product_within p (pos side) 1000000000 524288 h (omega (arith, k)) in
    record {
      percent_fits = omega (arith, ints, h);
      product_fits = omega (arith, ints, b);
      most = within 100000000 5242880 (p *ℤ pos side) (omega arith) (omega (arith, b));
    }

-- a run and a rise by the distances from P1 to P2 are not both 0 either
pub above_0 : (z : ℤ) → z ≢ pos 0 → 0 < nat_abs z
above_0 (pos zero) h = absurd (h refl)
above_0 (pos (suc n)) h = omega arith
above_0 (negsuc n) h = omega arith

products_above_0 : (a b m n : ℕ) → 0 < a → 0 < b → 0 < m + n → 0 < a * m + b * n
products_above_0 a b m n h k s =
    let x = mul-le 1 m a m h (omega arith) in
    let y = mul-le 1 n b n k (omega arith) in
    omega (arith, x, y, s)

pub not_both : (d e x y : ℤ) → 0 < nat_abs d → 0 < nat_abs e → 0 < nat_abs x + nat_abs y → 0 < nat_abs (d *ℤ x) + nat_abs (e *ℤ y)
not_both d e x y h k s =
    rw (unsigned_abs-mul d x, unsigned_abs-mul e y) (products_above_0 (nat_abs d) (nat_abs e) (nat_abs x) (nat_abs y) h k s)
