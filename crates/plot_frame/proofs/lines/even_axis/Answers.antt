use Rattle.std.proofs.Common.{◌≡◌, rules, to_z, pos, ◌^◌, ◌+ℤ◌, ◌*ℤ◌, FitsSigned, arith, refl}
use mir.Syntax.{w128}
use Rattle.std.proofs.lemmas.Int.{ints, to_z-of_z, to_z_pos}
use Rattle.plot_frame.specs.Line.{seen}
use Rattle.plot_frame.proofs.InBounds.{even_in}
use Rattle.plot_frame.proofs.SideBounds.{IsUnit}
use Rattle.plot_frame.proofs.Values.{above_0}
use Rattle.plot_frame.proofs.lines.even_axis.Goals as goal

pub returns : goal.returns
returns c =
    let side = c.args.side in
    let size = c.args.size in
    let h = c.requires.side in
    let s = c.requires.size in
    let r1 : FitsSigned w128 side.start = search rules in
    let rp : FitsSigned w128 c.args.percent = c.ranges.percent in
    let k1 = h.start_in in
    let m = c.requires.margin in
    let ks = s.under_in in
    let em = c.from.ensures in
    let fm : FitsSigned w128 c.from.result = search rules in
    let f1 : FitsSigned w128 (side.start +ℤ c.from.result) = omega (arith, ints) in
    let fn : FitsSigned w128 (pos size.under) = omega (arith, ints) in
    let fu : FitsSigned w128 c.unit_on-unit.result = search rules in
    let ku = c.unit_on-unit.ensures.bound in
    let eu = c.unit_on-unit.ensures.value in
    let fo : FitsSigned w128 c.offset_for.result = search rules in
    let g1 : FitsSigned w128 (pos (10 ^ 8) *ℤ c.unit_on-unit.result) = omega (arith, ints) in
    let g2 : FitsSigned w128 (pos 16 *ℤ (pos (10 ^ 8) *ℤ c.unit_on-unit.result)) = omega (arith, ints) in
    let g3 : FitsSigned w128 (pos (10 ^ 8) *ℤ pos size.under) = omega (arith, ints) in
    let under : to_z w128 size.under ≡ pos size.under = to_z_pos w128 size.under (omega arith) in
    let eo = simp (to_z-of_z, under) at c.offset_for.ensures.value in
    let unit : IsUnit (seen size) = record { over_in = s.over_in; over_not_0 = above_0 size.over s.over_above; under_in = ks; under_above = s.under_above } in
    simp (to_z-of_z, under) (rw (eo, eu, em) (record { value = refl; line = even_in (seen size) side c.args.percent c.args.margin unit h c.requires.short c.requires.percent_in m }))
