use Rattle.std.proofs.Common.{◌≡◌, ℤ, ◌^◌, ◌≤◌, ap, arith, nat_abs, ◌+ℤ◌, ◌-ℤ◌, ◌*ℤ◌, FitsSigned}
use mir.Syntax.{w128}
use Rattle.std.proofs.lemmas.Int.{ints, to_z-of_z, fits_signed_from_abs}
use Rattle.polygons.specs.Climbs.{IsPart}
use Rattle.polygons.specs.Fills.{share_of_distance}
use Rattle.polygons.proofs.Shares.{share_product, share_within, moved_within}
use Rattle.polygons.proofs.ways.along.Goals as goal
use Rattle.polygons.proofs.ways.along.Goals.{After-divided}

-- what is divided fits
record Fits (a b t : ℤ) : Type 0 where
  from : FitsSigned w128 a
  to : FitsSigned w128 b
  way : FitsSigned w128 (b -ℤ a)
  product : FitsSigned w128 ((b -ℤ a) *ℤ t)
  most : nat_abs ((b -ℤ a) *ℤ t) ≤ 2 ^ 125

fits : (a b t u : ℤ) → IsPart t u → nat_abs a ≤ 2 ^ 27 → nat_abs b ≤ 2 ^ 27 → Fits a b t
fits a b t u part ha hb =
    let m = share_product a b t u part ha hb in
    record {
      from = omega (arith, ints);
      to = omega (arith, ints);
      way = omega (arith, ints);
      product = fits_signed_from_abs w128 ((b -ℤ a) *ℤ t) (omega (arith, m));
      most = omega (arith, m);
    }

pub overflow_mul-b : goal.overflow_mul-b
overflow_mul-b c =
    let r = fits c.args.a c.args.b c.args.t c.args.u c.requires.part c.requires.a_in c.requires.b_in in
    simp (to_z-of_z, r.from, r.to, r.way, c.ranges.t) r.product

pub divided-requires-clause-a_in : goal.divided-requires-clause-a_in
divided-requires-clause-a_in c =
    let r = fits c.args.a c.args.b c.args.t c.args.u c.requires.part c.requires.a_in c.requires.b_in in
    simp (to_z-of_z, r.from, r.to, r.way, r.product, c.ranges.t) r.most

-- the rounding is the share of the way
record IsShare (c : After-divided) : Type 0 where
  is : c.divided.result ≡ share_of_distance (c.args.b -ℤ c.args.a) c.args.t c.args.u
  fits : FitsSigned w128 c.divided.result
  sum_fits : FitsSigned w128 (c.args.a +ℤ c.divided.result)

is_share : (c : After-divided) → IsShare c
is_share c =
    let r = fits c.args.a c.args.b c.args.t c.args.u c.requires.part c.requires.a_in c.requires.b_in in
    let e : c.divided.result ≡ share_of_distance (c.args.b -ℤ c.args.a) c.args.t c.args.u =
    simp (to_z-of_z, r.from, r.to, r.way, r.product, c.ranges.t, c.ranges.u) at c.divided.ensures in
    let n : nat_abs c.divided.result ≤ 2 ^ 28 = rw e (share_within c.args.a c.args.b c.args.t c.args.u c.requires.part c.requires.a_in c.requires.b_in) in
    record { is = e; fits = omega (arith, ints, n); sum_fits = omega (arith, ints, n, c.requires.a_in) }

pub overflow_add-result : goal.overflow_add-result
overflow_add-result c = let s = is_share c in simp (to_z-of_z, c.ranges.a, s.fits) s.sum_fits

pub returns : goal.returns
returns c =
    let s = is_share c in
    let most = moved_within c.args.a c.args.b c.args.t c.args.u (2 ^ 27) c.requires.part c.requires.a_in c.requires.b_in in
    record {
      value = simp (to_z-of_z, c.ranges.a, s.fits, s.sum_fits) (ap (λ (z : ℤ). c.args.a +ℤ z) s.is);
      most = simp (to_z-of_z, c.ranges.a, s.fits, s.sum_fits) (rw s.is most);
    }
