use Rattle.std.proofs.Common.{rules, ◌≡◌, ◌≤◌, ◌^◌, ◌∙◌, ap, ap₂, arith, ℤ, pos, nat_abs, ◌-ℤ◌, ◌*ℤ◌, FitsSigned}
use mir.Syntax.{w64, w128}
use Rattle.std.proofs.lemmas.Int.{ints, to_z-of_z}
use Rattle.exact.specs.Fraction.{round, quotient}
use Rattle.full_settings.specs.ColourRanges as colours
use Rattle.full_settings.proofs.colour_parameters.part.Goals as goal
use Rattle.full_settings.proofs.colour_parameters.part.Goals.{After-from-2}

-- how far the value is from black, and white from black
record AreKnown (c : After-from-2) : Type 0 where
  value_is : c.from.result ≡ c.args.value -ℤ pos 1000000 *ℤ c.args.range.black
  extent_is : c.from-2.result ≡ c.args.range.white -ℤ c.args.range.black
  value_in : nat_abs c.from.result ≤ 2 ^ 58
  extent_in : nat_abs c.from-2.result ≤ 2 ^ 37
  value_fits : FitsSigned w128 c.from.result
  extent_fits : FitsSigned w128 c.from-2.result
  over_fits : FitsSigned w128 (pos 255 *ℤ c.from.result)
  under_fits : FitsSigned w128 (pos 1000000 *ℤ c.from-2.result)

known : (c : After-from-2) → AreKnown c
known c =
    let hb = c.requires.black_in in
    let hw = c.requires.white_in in
    let hv = c.millionths.ensures.small in
    let fb : FitsSigned w64 c.args.range.black = omega (arith, ints, hb) in
    let fw : FitsSigned w64 c.args.range.white = omega (arith, ints, hw) in
    let fv : FitsSigned w64 c.millionths.result = omega (arith, ints, hv) in
    let fm : FitsSigned w64 (pos 1000000 *ℤ c.args.range.black) = omega (arith, ints, hb) in
    let fd : FitsSigned w64 (c.millionths.result -ℤ pos 1000000 *ℤ c.args.range.black) = omega (arith, ints, hb, hv) in
    let fe : FitsSigned w64 (c.args.range.white -ℤ c.args.range.black) = omega (arith, ints, hb, hw) in
    let a = simp to_z-of_z at c.from.ensures in
    let b = simp to_z-of_z at c.from-2.ensures in
    record {
      value_is = a ∙ ap (λ (z : ℤ). z -ℤ pos 1000000 *ℤ c.args.range.black) c.millionths.ensures.value;
      extent_is = b;
      value_in = omega (arith, ints, a, hb, hv);
      extent_in = omega (arith, ints, b, hb, hw);
      value_fits = omega (arith, ints, a, hb, hv);
      extent_fits = omega (arith, ints, b, hb, hw);
      over_fits = omega (arith, ints, a, hb, hv);
      under_fits = omega (arith, ints, b, hb, hw);
    }

pub nearest-requires-clause-a_in : goal.nearest-requires-clause-a_in
nearest-requires-clause-a_in c =
    let k = known c in
    let f = k.value_fits in
    let g = k.over_fits in
    let n = k.value_in in
    simp to_z-of_z (omega (arith, ints, n))

pub nearest-requires-clause-b_not_0 : goal.nearest-requires-clause-b_not_0
nearest-requires-clause-b_not_0 c =
    let k = known c in
    let f = k.extent_fits in
    let g = k.under_fits in
    let e = k.extent_is in
    simp to_z-of_z (λ z. c.requires.apart (omega (arith, ints, z, e)))

pub returns : goal.returns
returns c =
    let k = known (goal.at.returns c).After-from-2 in
    let f = k.value_fits in
    let g = k.over_fits in
    let h = k.extent_fits in
    let i = k.under_fits in
    let n : FitsSigned w128 c.nearest.result = search rules in
    let e = simp to_z-of_z at c.nearest.ensures in
    let cut = simp to_z-of_z at c.cut.ensures in
    cut ∙ ap colours.cut (e ∙ ap₂ (λ (a b : ℤ). round (quotient (pos 255 *ℤ a) (pos 1000000 *ℤ b))) k.value_is k.extent_is)
