use Rattle.std.proofs.Common.{◌≡◌, ◌≤◌, ◌<◌, ◌^◌, ◌∙◌, refl, ap₂, arith, ℤ, nat_abs, ◌*ℤ◌, FitsSigned}
use mir.Syntax.{w64, w128}
use Rattle.std.proofs.lemmas.Int.{ints, to_z-of_z}
use Rattle.exact.proofs.Fit.{product_within}
use Rattle.directions.specs.Directions.{unit}
use Rattle.full_settings.specs.LetterParameters.{IsHeading}
use Rattle.full_settings.specs.LineStyles.{distance}
use Rattle.full_settings.proofs.Shares.{above_0, not_both}
use Rattle.full_settings.proofs.letters.direction.Goals as goal
use Rattle.full_settings.proofs.letters.direction.Goals.{After-from-in-Relative-4}

led : (c : After-from-in-Relative-4) → IsHeading c.in-Relative.vector
led c = rw c.in-Relative.is at c.requires.heading_in

-- the distances, the run and the rise, and their products
record AreKnown (c : After-from-in-Relative-4) : Type 0 where
  d_is : c.from-in-Relative.result ≡ c.distance.result
  e_is : c.from-in-Relative-3.result ≡ c.distance-in-Relative.result
  x_is : c.from-in-Relative-2.result ≡ c.in-Relative.vector.x
  y_is : c.from-in-Relative-4.result ≡ c.in-Relative.vector.y
  d_in : nat_abs c.distance.result ≤ 2 ^ 25
  e_in : nat_abs c.distance-in-Relative.result ≤ 2 ^ 25
  d_fits : FitsSigned w128 c.distance.result
  e_fits : FitsSigned w128 c.distance-in-Relative.result
  x_fits : FitsSigned w128 c.in-Relative.vector.x
  y_fits : FitsSigned w128 c.in-Relative.vector.y
  run_in : nat_abs (c.distance.result *ℤ c.in-Relative.vector.x) ≤ 2 ^ 80
  rise_in : nat_abs (c.distance-in-Relative.result *ℤ c.in-Relative.vector.y) ≤ 2 ^ 80
  run_fits : FitsSigned w128 (c.distance.result *ℤ c.in-Relative.vector.x)
  rise_fits : FitsSigned w128 (c.distance-in-Relative.result *ℤ c.in-Relative.vector.y)

known : (c : After-from-in-Relative-4) → AreKnown c
known c =
    let h = led c in
    let hx = h.run_in in
    let hy = h.rise_in in
    let d : FitsSigned w64 c.distance.result = omega (arith, ints, c.distance.ensures.most) in
    let e : FitsSigned w64 c.distance-in-Relative.result = omega (arith, ints, c.distance-in-Relative.ensures.most) in
    let x : FitsSigned w64 c.in-Relative.vector.x = omega (arith, ints, hx) in
    let y : FitsSigned w64 c.in-Relative.vector.y = omega (arith, ints, hy) in
    let dm = c.distance.ensures.most in
    let em = c.distance-in-Relative.ensures.most in
    let m = product_within c.distance.result c.in-Relative.vector.x (2 ^ 25) (2 ^ 55) dm hx in
    let n = product_within c.distance-in-Relative.result c.in-Relative.vector.y (2 ^ 25) (2 ^ 55) em hy in
    record {
      d_is = simp to_z-of_z at c.from-in-Relative.ensures;
      e_is = simp to_z-of_z at c.from-in-Relative-3.ensures;
      x_is = simp to_z-of_z at c.from-in-Relative-2.ensures;
      y_is = simp to_z-of_z at c.from-in-Relative-4.ensures;
      d_in = dm;
      e_in = em;
      d_fits = omega (arith, ints, dm);
      e_fits = omega (arith, ints, em);
      x_fits = omega (arith, ints, hx);
      y_fits = omega (arith, ints, hy);
      run_in = omega (arith, m);
      rise_in = omega (arith, n);
      run_fits = omega (arith, ints, m);
      rise_fits = omega (arith, ints, n);
    }

pub unit-requires-in-Relative-clause-u_in : goal.unit-requires-in-Relative-clause-u_in
unit-requires-in-Relative-clause-u_in c =
    let k = known c in
    let d = k.d_fits in
    let x = k.x_fits in
    let r = k.run_fits in
    let m = k.run_in in
    rw (k.d_is, k.x_is) (simp to_z-of_z (omega (arith, m)))

pub unit-requires-in-Relative-clause-v_in : goal.unit-requires-in-Relative-clause-v_in
unit-requires-in-Relative-clause-v_in c =
    let k = known c in
    let e = k.e_fits in
    let y = k.y_fits in
    let r = k.rise_fits in
    let m = k.rise_in in
    rw (k.e_is, k.y_is) (simp to_z-of_z (omega (arith, m)))

pub unit-requires-in-Relative-clause-not_both : goal.unit-requires-in-Relative-clause-not_both
unit-requires-in-Relative-clause-not_both c =
    let k = known c in
    let d = k.d_fits in
    let x = k.x_fits in
    let e = k.e_fits in
    let y = k.y_fits in
    let r = k.run_fits in
    let s = k.rise_fits in
    let p = c.requires.points_in in
    let dd : 0 < nat_abs c.distance.result = rw c.distance.ensures.value (above_0 (distance c.args.points.now.x) p.x.apart) in
    let ee : 0 < nat_abs c.distance-in-Relative.result = rw c.distance-in-Relative.ensures.value (above_0 (distance c.args.points.now.y) p.y.apart) in
    let b = not_both c.distance.result c.distance-in-Relative.result c.in-Relative.vector.x c.in-Relative.vector.y dd ee (led c).not_both in
    rw (k.d_is, k.x_is, k.e_is, k.y_is) (simp to_z-of_z b)

pub returns-in-Relative : goal.returns-in-Relative
returns-in-Relative c =
    let k = known (goal.at.returns-in-Relative c).After-from-in-Relative-4 in
    let d = k.d_fits in
    let x = k.x_fits in
    let e = k.e_fits in
    let y = k.y_fits in
    let r = k.run_fits in
    let s = k.rise_fits in
    let f = simp to_z-of_z at (rw (k.d_is, k.x_is, k.e_is, k.y_is) at c.unit-in-Relative.ensures) in
    f
    ∙ ap₂ (λ (u v : ℤ). unit (u *ℤ c.in-Relative.vector.x) (v *ℤ c.in-Relative.vector.y)) c.distance.ensures.value c.distance-in-Relative.ensures.value
    ∙ rw c.in-Relative.is refl
