use Rattle.std.proofs.Common.{◌≡◌, ◌≤◌, ◌^◌, nat_abs, pos, ◌-ℤ◌, ◌*ℤ◌, ◌≤ℤ◌, ◌<ℤ◌, ◌+ℤ◌, arith, rules, FitsSigned}
use mir.Syntax.{w64, w128}
use Rattle.std.proofs.lemmas.Int.{ints, to_z-of_z}
use Rattle.areas.proofs.SweptEdges.{division, factor_many}
use Rattle.areas.proofs.swept_edge.divide_far.Goals as goal
use Rattle.areas.proofs.swept_edge.divide_far.Goals.{After-floored-times, After-product}

-- how often the number holds the other
record AreTimes (c : After-floored-times) : Type 0 where
  low : (c.floored-times.result *ℤ c.args.b) ≤ℤ c.args.a
  high : c.args.a <ℤ (c.floored-times.result *ℤ c.args.b +ℤ c.args.b)
  few : nat_abs c.floored-times.result ≤ 2 ^ 56
  fits : FitsSigned w64 c.floored-times.result

times : (c : After-floored-times) → AreTimes c
times c =
    let fa : FitsSigned w128 c.args.a = search rules in
    let fb : FitsSigned w64 c.args.b = search rules in
    let fw : FitsSigned w128 c.args.b = omega (arith, ints, c.requires.below) in
    let b = simp to_z-of_z at c.from.ensures in
    let n = c.floored-times.result in
    let e = rw b at c.floored-times.ensures in
    let d = division c.args.a c.args.b n (omega (arith, ints, c.requires.above)) (simp to_z-of_z at e) in
    let m = factor_many n c.args.b 16256 (2 ^ 56) (omega arith) c.requires.above
    (omega (arith, ints, d.0, d.1, c.requires.within, c.requires.below)) in
    record { low = d.0; high = d.1; few = m; fits = omega (arith, ints, m) }

pub overflow_cast-times : goal.overflow_cast-times
overflow_cast-times c =
    let f : FitsSigned w128 c.floored-times.result = search rules in
    simp to_z-of_z (times c).fits

-- what is left
record IsRest (c : After-product) : Type 0 where
  is : c.product.result ≡ c.floored-times.result *ℤ c.args.b
  fits : FitsSigned w128 c.product.result
  low : pos 0 ≤ℤ (c.args.a -ℤ c.product.result)
  high : (c.args.a -ℤ c.product.result) <ℤ c.args.b
  fits_128 : FitsSigned w128 (c.args.a -ℤ c.product.result)
  fits_64 : FitsSigned w64 (c.args.a -ℤ c.product.result)

rest : (c : After-product) → IsRest c
rest c =
    let t = times c.before in
    let fb : FitsSigned w64 c.args.b = search rules in
    let f : FitsSigned w128 c.floored-times.result = search rules in
    let g = t.fits in
    let e : c.product.result ≡ c.floored-times.result *ℤ c.args.b = simp to_z-of_z at c.product.ensures in
    record {
      is = e;
      fits = omega (arith, ints, e, t.low, t.high, c.requires.within, c.requires.below);
      low = omega (arith, ints, e, t.low);
      high = omega (arith, ints, e, t.high);
      fits_128 = omega (arith, ints, e, t.low, t.high, c.requires.below);
      fits_64 = omega (arith, ints, e, t.low, t.high, c.requires.below);
    }

pub overflow_sub-result : goal.overflow_sub-result
overflow_sub-result c =
    let r = rest c in
    let fa : FitsSigned w128 c.args.a = search rules in
    let fp = r.fits in
    simp to_z-of_z r.fits_128

pub overflow_cast-result : goal.overflow_cast-result
overflow_cast-result c =
    let r = rest c in
    let fa : FitsSigned w128 c.args.a = search rules in
    let fp = r.fits in
    let fr = r.fits_128 in
    simp to_z-of_z r.fits_64

pub returns-clause-is : goal.returns-clause-is
returns-clause-is c =
    let r = rest c in
    let t = times c.before in
    let fa : FitsSigned w128 c.args.a = search rules in
    let f : FitsSigned w128 c.floored-times.result = search rules in
    let ft = t.fits in
    let fp = r.fits in
    let fr = r.fits_128 in
    let fs = r.fits_64 in
    simp to_z-of_z (omega (arith, ints, r.is))

pub returns-clause-low : goal.returns-clause-low
returns-clause-low c =
    let r = rest c in
    let fa : FitsSigned w128 c.args.a = search rules in
    let fp = r.fits in
    let fr = r.fits_128 in
    let fs = r.fits_64 in
    simp to_z-of_z r.low

pub returns-clause-high : goal.returns-clause-high
returns-clause-high c =
    let r = rest c in
    let fa : FitsSigned w128 c.args.a = search rules in
    let fp = r.fits in
    let fr = r.fits_128 in
    let fs = r.fits_64 in
    simp to_z-of_z r.high

pub returns-clause-within : goal.returns-clause-within
returns-clause-within c =
    let t = times c.before in
    let f : FitsSigned w128 c.floored-times.result = search rules in
    let ft = t.fits in
    simp to_z-of_z t.few
