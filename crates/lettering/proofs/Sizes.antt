-- How large shares of a size and steps are.
use Rattle.std.proofs.Common.{◌≡◌, ap, ◌∙◌, ℕ, ◌+◌, ◌*◌, ◌^◌, ◌<◌, ◌≤◌, arith, ℤ, pos, nat_abs, ◌+ℤ◌, ◌-ℤ◌, ◌*ℤ◌, FitsSigned, to_z, of_z}
use mir.Syntax.{w64, w128}
use Rattle.std.proofs.lemmas.Int.{ints, to_z-of_z}
use Rattle.std.proofs.lemmas.Nat.{mul-le}
use Rattle.exact.specs.Fraction.{quotient}
use Rattle.exact.proofs.Between.{exactly, within}
use Rattle.exact.proofs.Fit.{product_within}
use Rattle.exact.proofs.Ring.{mul_assoc_z, mul_left_comm_z}
use Rattle.exact.proofs.Rounding.{same_lem}
use Rattle.stick_font.specs.Labels as labels
use Rattle.lettering.specs.Bounds.{most_step}

pub record IsShare (count size : ℤ) (parts : ℕ) : Type 0 where
  pub product_in : nat_abs (count *ℤ size) ≤ 2 ^ 124
  pub most : nat_abs (labels.share count size parts) ≤ 2 ^ 84

pub share_in : (count size : ℤ) (parts : ℕ) → nat_abs count ≤ 2 ^ 84 → nat_abs size ≤ 2 ^ 40 → 0 < parts → nat_abs count ≤ parts * 2 ^ 44 → IsShare count size parts
share_in count size parts h s p e =
    let m = product_within count size (2 ^ 84) (2 ^ 40) h s in
    let n = product_within count size (parts * 2 ^ 44) (2 ^ 40) e s in
    record {
      product_in = omega (arith, m);
      most = within parts (2 ^ 84) (count *ℤ size) p (omega (arith, n));
    }

-- the products of a number of steps
pub record IsStepped (parts : ℕ) (step steps : ℤ) : Type 0 where
  pub parts_fit : FitsSigned w128 (pos parts)
  pub step_fits : FitsSigned w128 step
  pub steps_fit : FitsSigned w128 steps
  pub first_fits : FitsSigned w128 (pos parts *ℤ step)
  pub fits : FitsSigned w128 (pos parts *ℤ step *ℤ steps)
  pub most : nat_abs (pos parts *ℤ step *ℤ steps) ≤ parts * most_step * nat_abs steps

pub stepped_in : (parts : ℕ) (step steps : ℤ) → parts ≤ 36 → nat_abs step ≤ most_step → nat_abs steps ≤ 2 ^ 52 → IsStepped parts step steps
stepped_in parts step steps p s t =
    let a = product_within (pos parts) step parts most_step (omega arith) s in
    let b = product_within (pos parts *ℤ step) steps (parts * most_step) (nat_abs steps) a (omega arith) in
    let d = product_within (pos parts *ℤ step) steps (36 * most_step) (2 ^ 52) (omega (arith, a)) t in
    record {
      parts_fit = omega (arith, ints);
      step_fits = omega (arith, ints);
      steps_fit = omega (arith, ints);
      first_fits = omega (arith, ints, a);
      fits = omega (arith, ints, d);
      most = b;
    }

-- how far letters are beside their start: half of what they take up, up to two times
pub record IsBeside (column : ℕ) (half : ℤ) : Type 0 where
  pub half_fits : FitsSigned w128 half
  pub sum_fits : FitsSigned w128 (half +ℤ pos 6000000)
  pub most : nat_abs (pos column *ℤ (half +ℤ pos 6000000)) ≤ 2 ^ 63
  pub fits : FitsSigned w128 (pos column *ℤ (half +ℤ pos 6000000))

pub beside_in : (column : ℕ) (letters half : ℤ) → column ≤ 2 → nat_abs letters ≤ 2 ^ 31 → nat_abs half ≤ 9 * most_step * nat_abs (letters -ℤ pos 1) → IsBeside column half
beside_in column letters half c l h =
    let n : nat_abs (letters -ℤ pos 1) ≤ 2 ^ 32 = omega (arith, ints) in
    let k : nat_abs half ≤ 9 * most_step * 2 ^ 32 = omega (arith, n, h) in
    let s : nat_abs (half +ℤ pos 6000000) ≤ 9 * most_step * 2 ^ 32 + 6000000 = omega (arith, ints, k) in
    let p = product_within (pos column) (half +ℤ pos 6000000) 2 (9 * most_step * 2 ^ 32 + 6000000) (omega (arith, c)) s in
    record {
      half_fits = omega (arith, ints, k);
      sum_fits = omega (arith, ints, s);
      most = omega (arith, p);
      fits = omega (arith, ints, p);
    }

-- steps from cell to cell, as a call gives them
pub record IsGiven (r : ℤ) (parts : ℕ) (step steps : ℤ) : Type 0 where
  pub value : r ≡ pos parts *ℤ step *ℤ steps
  pub most : nat_abs r ≤ 36 * most_step * 2 ^ 32

pub given : (r : ℤ) (parts : ℕ) (step steps : ℤ) → parts ≤ 36 → nat_abs step ≤ most_step → nat_abs steps ≤ 2 ^ 32
    → r ≡ pos parts *ℤ to_z w64 (of_z w64 step) *ℤ to_z w128 (of_z w128 steps) → nat_abs r ≤ parts * most_step * nat_abs (to_z w128 (of_z w128 steps)) → IsGiven r parts step steps
given r parts step steps p s t e h =
    let f : FitsSigned w64 step = omega (arith, ints) in
    let g : FitsSigned w128 steps = omega (arith, ints) in
    let m : parts * most_step * nat_abs steps ≤ 36 * most_step * 2 ^ 32 = mul-le (parts * most_step) (nat_abs steps) (36 * most_step) (2 ^ 32) (omega arith) t in
    let k : nat_abs r ≤ parts * most_step * nat_abs steps = simp to_z-of_z at h in
    record { value = simp to_z-of_z at e; most = omega (arith, k, m) }

-- how far a slant moves
pub record IsSlanted (steps slant : ℤ) : Type 0 where
  pub steps_fit : FitsSigned w64 steps
  pub up_fits : FitsSigned w64 (pos 3 *ℤ steps)
  pub up_fits_too : FitsSigned w128 (pos 3 *ℤ steps)
  pub slant_fits : FitsSigned w64 slant
  pub slant_fits_too : FitsSigned w128 slant
  pub fits : FitsSigned w128 (pos 3 *ℤ steps *ℤ slant)
  pub most : nat_abs (pos 3 *ℤ steps *ℤ slant) ≤ 2 ^ 46

pub slanted_in : (steps slant : ℤ) → nat_abs steps ≤ 255 → nat_abs slant ≤ 1000200000 → IsSlanted steps slant
slanted_in steps slant u s =
    let p = product_within (pos 3 *ℤ steps) slant 765 1000200000 (omega (arith, ints)) s in
    record {
      steps_fit = omega (arith, ints);
      up_fits = omega (arith, ints);
      up_fits_too = omega (arith, ints);
      slant_fits = omega (arith, ints);
      slant_fits_too = omega (arith, ints);
      fits = omega (arith, ints, p);
      most = omega (arith, p);
    }

-- the same of a point of a character that is drawn by moves
pub record IsLeaning (up slant : ℤ) : Type 0 where
  pub up_fits : FitsSigned w128 up
  pub slant_fits : FitsSigned w64 slant
  pub slant_fits_too : FitsSigned w128 slant
  pub fits : FitsSigned w128 (up *ℤ slant)
  pub most : nat_abs (up *ℤ slant) ≤ 2 ^ 84

pub leaning_in : (up slant : ℤ) → nat_abs up ≤ 2 ^ 53 → nat_abs slant ≤ 1000200000 → IsLeaning up slant
leaning_in up slant u s =
    let p = product_within up slant (2 ^ 53) 1000200000 u s in
    record {
      up_fits = omega (arith, ints);
      slant_fits = omega (arith, ints);
      slant_fits_too = omega (arith, ints);
      fits = omega (arith, ints, p);
      most = omega (arith, p);
    }

-- a share of k times as many parts, of which a size has k times as many
pub scaled : (k : ℕ) (a b size : ℤ) (parts : ℕ) → 0 < k → 0 < parts → 0 < k * parts → a ≡ pos k *ℤ b → labels.share a size (k * parts) ≡ labels.share b size parts
scaled k a b size parts h i j e =
    let t : ℤ = b *ℤ size in
    let over : a *ℤ size ≡ pos k *ℤ t = ap (λ (z : ℤ). z *ℤ size) e ∙ mul_assoc_z (pos k) b size in
    same_lem (quotient (a *ℤ size) (pos (k * parts))) (quotient t (pos parts)) j i
    (ap (λ (z : ℤ). z *ℤ pos parts) over ∙ mul_assoc_z (pos k) t (pos parts) ∙ mul_left_comm_z (pos k) t (pos parts))

-- a slant of 0 moves nothing
pub upright_is : (u size : ℤ) → labels.share (u *ℤ pos 0) size 18000000 ≡ pos 0
upright_is u size =
    let e : u *ℤ pos 0 ≡ pos 0 = omega (arith, ints) in
    exactly 18000000 ((u *ℤ pos 0) *ℤ size) (pos 0) (omega arith) (ap (λ (z : ℤ). z *ℤ size) e ∙ omega (arith, ints))
