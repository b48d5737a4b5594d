-- Sums and products as they are read back from 128 bits.
use Rattle.std.proofs.Common.{◌≡◌, ℕ, ◌*◌, ◌^◌, ◌≤◌, ap, ap₂, ◌∙◌, arith, ℤ, ◌+ℤ◌, ◌-ℤ◌, ◌*ℤ◌, pos, nat_abs, to_z, of_z, FitsSigned}
use mir.Syntax.{w128}
use Rattle.std.proofs.lemmas.Int.{ints, unsigned_abs-mul, fits_signed_from_abs}
use Rattle.exact.proofs.Fit.{product_within, back_128}

-- a number as it is read back from its bits
abbrev pub t : ℤ → ℤ
t z = to_z w128 (of_z w128 z)

pub read_product : (a b : ℤ) → nat_abs a ≤ 2 ^ 60 → nat_abs b ≤ 2 ^ 60 → t (t a *ℤ t b) ≡ a *ℤ b
read_product a b h k =
    let m = product_within a b (2 ^ 60) (2 ^ 60) h k in
    ap₂ (λ (x y : ℤ). t (x *ℤ y)) (back_128 a (omega arith)) (back_128 b (omega arith)) ∙ back_128 (a *ℤ b) (omega arith)

-- two products of numbers within 2^60 of 0
pub record AreProducts (a b c d : ℤ) : Type 0 where
  pub first : t (t a *ℤ t b) ≡ a *ℤ b
  pub second : t (t c *ℤ t d) ≡ c *ℤ d
  pub sum_fits : FitsSigned w128 (a *ℤ b +ℤ c *ℤ d)
  pub difference_fits : FitsSigned w128 (a *ℤ b -ℤ c *ℤ d)
  pub sum : t (a *ℤ b +ℤ c *ℤ d) ≡ a *ℤ b +ℤ c *ℤ d
  pub difference : t (a *ℤ b -ℤ c *ℤ d) ≡ a *ℤ b -ℤ c *ℤ d

pub products : (a b c d : ℤ) → nat_abs a ≤ 2 ^ 60 → nat_abs b ≤ 2 ^ 60 → nat_abs c ≤ 2 ^ 60 → nat_abs d ≤ 2 ^ 60 → AreProducts a b c d
products a b c d p q r s =
    let m = product_within a b (2 ^ 60) (2 ^ 60) p q in
    let n = product_within c d (2 ^ 60) (2 ^ 60) r s in
    record {
      first = read_product a b p q;
      second = read_product c d r s;
      sum_fits = omega (arith, ints, m, n);
      difference_fits = omega (arith, ints, m, n);
      sum = back_128 (a *ℤ b +ℤ c *ℤ d) (omega (arith, ints, m, n));
      difference = back_128 (a *ℤ b -ℤ c *ℤ d) (omega (arith, ints, m, n));
    }

pub read_sum : (a b : ℤ) → nat_abs a ≤ 2 ^ 60 → nat_abs b ≤ 2 ^ 60 → t (t a +ℤ t b) ≡ a +ℤ b
read_sum a b h k =
    ap₂ (λ (x y : ℤ). t (x +ℤ y)) (back_128 a (omega arith)) (back_128 b (omega arith)) ∙ back_128 (a +ℤ b) (omega (arith, ints))

-- a small multiple of a number
pub record IsMultiple (n : ℕ) (a : ℤ) : Type 0 where
  pub fits : FitsSigned w128 (pos n *ℤ t a)
  pub back : t (pos n *ℤ t a) ≡ pos n *ℤ a
  pub size : nat_abs (pos n *ℤ a) ≡ n * nat_abs a

pub multiple : (n m : ℕ) (a : ℤ) → n ≤ 2 ^ 10 → nat_abs a ≤ m → m ≤ 2 ^ 110 → IsMultiple n a
multiple n m a h k l =
    let p = product_within (pos n) a (2 ^ 10) m h k in
    let e = back_128 a (omega arith) in
    record {
      fits = rw e (fits_signed_from_abs w128 (pos n *ℤ a) (omega (arith, p)));
      back = ap (λ (z : ℤ). t (pos n *ℤ z)) e ∙ back_128 (pos n *ℤ a) (omega (arith, p));
      size = unsigned_abs-mul (pos n) a;
    }
