use Rattle.std.proofs.Common.{◌≡◌, ℕ, ℤ, ◌*◌, ◌^◌, ◌≤◌, ◌+ℤ◌, ◌-ℤ◌, ◌*ℤ◌, ap, ap₂, ◌∙◌, pos, nat_abs, FitsSigned, arith}
use mir.Syntax.{w128}
use Rattle.std.proofs.lemmas.Int.{ints, to_z-of_z}
use Rattle.exact.proofs.Fit.{product_within}
use Rattle.exact.specs.Fraction.{round, quotient}
use Rattle.line_types.specs.Lines.{share_of_line}
use Rattle.line_types.proofs.Shares.{share_within}
use Rattle.line_types.proofs.line.moved.Goals as goal
use Rattle.line_types.proofs.line.moved.Goals.{After-rounded}

-- what is divided is within its range
record IsKnown (a b n : ℤ) : Type 0 where
  a_fits : FitsSigned w128 a
  b_fits : FitsSigned w128 b
  way_fits : FitsSigned w128 (b -ℤ a)
  t_fits : FitsSigned w128 n
  product_in : nat_abs ((b -ℤ a) *ℤ n) ≤ 2 ^ 28 * 2 ^ 37
  product_fits : FitsSigned w128 ((b -ℤ a) *ℤ n)

known : (a b n : ℤ) (t : ℕ) → nat_abs a ≤ 2 ^ 27 → nat_abs b ≤ 2 ^ 27 → n ≡ pos t → t ≤ 2 ^ 37 → IsKnown a b n
known a b n t ha hb e h =
    let way : nat_abs (b -ℤ a) ≤ 2 ^ 28 = omega (arith, ints) in
    let t_in : nat_abs n ≤ 2 ^ 37 = omega (arith, ints) in
    let m = product_within (b -ℤ a) n (2 ^ 28) (2 ^ 37) way t_in in
    record {
      a_fits = omega (arith, ints);
      b_fits = omega (arith, ints);
      way_fits = omega (arith, ints);
      t_fits = omega (arith, ints);
      product_in = m;
      product_fits = omega (arith, ints);
    }

pub rounded-requires-clause-a_in : goal.rounded-requires-clause-a_in
rounded-requires-clause-a_in c =
    let k = known c.args.a c.args.b c.from.result c.args.t c.requires.a_in c.requires.b_in c.from.ensures (omega arith) in
    let a = k.a_fits in
    let b = k.b_fits in
    let w = k.way_fits in
    let t = k.t_fits in
    let m = k.product_in in
    let p = k.product_fits in
    simp to_z-of_z (omega (arith, m))

-- the rounding is the share of the way
is_share : (c : After-rounded) → c.rounded.result ≡ share_of_line (c.args.b -ℤ c.args.a) c.args.t c.args.long
is_share c =
    let k = known c.args.a c.args.b c.from.result c.args.t c.requires.a_in c.requires.b_in c.from.ensures (omega arith) in
    let a = k.a_fits in
    let b = k.b_fits in
    let w = k.way_fits in
    let t = k.t_fits in
    let p = k.product_fits in
    let n : FitsSigned w128 c.from-2.result = omega (arith, ints) in
    let e = simp to_z-of_z at c.rounded.ensures in
    e ∙ ap₂ (λ (x y : ℤ). round (quotient ((c.args.b -ℤ c.args.a) *ℤ x) y)) c.from.ensures c.from-2.ensures

share_most : (c : After-rounded) → nat_abs (share_of_line (c.args.b -ℤ c.args.a) c.args.t c.args.long) ≤ 2 ^ 28
share_most c =
    let ha = c.requires.a_in in
    let hb = c.requires.b_in in
    share_within (c.args.b -ℤ c.args.a) (2 ^ 28) c.args.t c.args.long c.requires.above c.requires.t_in (omega (arith, ints))

pub overflow_add-result : goal.overflow_add-result
overflow_add-result c =
    let e = is_share c in
    let m = share_most c in
    let ha = c.requires.a_in in
    let a : FitsSigned w128 c.args.a = omega (arith, ints) in
    let n : nat_abs c.rounded.result ≤ 2 ^ 28 = rw e m in
    let r : FitsSigned w128 c.rounded.result = omega (arith, ints, n) in
    simp to_z-of_z (omega (arith, ints, n))

pub returns : goal.returns
returns c =
    let e = is_share c in
    let m = share_most c in
    let ha = c.requires.a_in in
    let a : FitsSigned w128 c.args.a = omega (arith, ints) in
    let n : nat_abs c.rounded.result ≤ 2 ^ 28 = rw e m in
    let r : FitsSigned w128 c.rounded.result = omega (arith, ints, n) in
    let s : FitsSigned w128 (c.args.a +ℤ c.rounded.result) = omega (arith, ints, n) in
    simp to_z-of_z (ap (λ (z : ℤ). c.args.a +ℤ z) e)
