use Rattle.std.proofs.Common.{rules, arith, ◌*ℤ◌, ◌^◌, ◌≤◌, nat_abs, FitsSigned, ap₂, ◌-ℤ◌, ◌∙◌}
use mir.Syntax.{w64, w128}
use Rattle.std.proofs.lemmas.Int.{ints, to_z-of_z}
use Rattle.exact.proofs.Fit.{product_within}
use Rattle.stroke_raster.proofs.far.wide_cross.Goals as goal

pub overflow_sub-result : goal.overflow_sub-result
overflow_sub-result c =
    let fvx : FitsSigned w64 c.args.v.x = omega (arith, ints, c.requires.v_in.x) in
    let fvy : FitsSigned w64 c.args.v.y = omega (arith, ints, c.requires.v_in.y) in
    let fwx : FitsSigned w64 c.args.w.x = omega (arith, ints, c.requires.w_in.x) in
    let fwy : FitsSigned w64 c.args.w.y = omega (arith, ints, c.requires.w_in.y) in
    let a = simp to_z-of_z at c.from.ensures in
    let an : nat_abs c.from.result ≤ 2 ^ 28 = rw a c.requires.v_in.x in
    let b = simp to_z-of_z at c.from-2.ensures in
    let bn : nat_abs c.from-2.result ≤ 2 ^ 40 = rw b c.requires.w_in.y in
    let d = simp to_z-of_z at c.from-3.ensures in
    let dn : nat_abs c.from-3.result ≤ 2 ^ 28 = rw d c.requires.v_in.y in
    let e = simp to_z-of_z at c.from-4.ensures in
    let en : nat_abs c.from-4.result ≤ 2 ^ 40 = rw e c.requires.w_in.x in
    let p = product_within c.from.result c.from-2.result _ _ an bn in
    let q = product_within c.from-3.result c.from-4.result _ _ dn en in
    let af : FitsSigned w128 c.from.result = omega (arith, ints, an) in
    let bf : FitsSigned w128 c.from-2.result = omega (arith, ints, bn) in
    let df : FitsSigned w128 c.from-3.result = omega (arith, ints, dn) in
    let ef : FitsSigned w128 c.from-4.result = omega (arith, ints, en) in
    let pf : FitsSigned w128 (c.from.result *ℤ c.from-2.result) = omega (arith, ints, p) in
    let qf : FitsSigned w128 (c.from-3.result *ℤ c.from-4.result) = omega (arith, ints, q) in
    simp to_z-of_z (omega (arith, ints, p, q))

pub returns-clause-value : goal.returns-clause-value
returns-clause-value c =
    let fvx : FitsSigned w64 c.args.v.x = omega (arith, ints, c.requires.v_in.x) in
    let fvy : FitsSigned w64 c.args.v.y = omega (arith, ints, c.requires.v_in.y) in
    let fwx : FitsSigned w64 c.args.w.x = omega (arith, ints, c.requires.w_in.x) in
    let fwy : FitsSigned w64 c.args.w.y = omega (arith, ints, c.requires.w_in.y) in
    let a = simp to_z-of_z at c.from.ensures in
    let an : nat_abs c.from.result ≤ 2 ^ 28 = rw a c.requires.v_in.x in
    let b = simp to_z-of_z at c.from-2.ensures in
    let bn : nat_abs c.from-2.result ≤ 2 ^ 40 = rw b c.requires.w_in.y in
    let d = simp to_z-of_z at c.from-3.ensures in
    let dn : nat_abs c.from-3.result ≤ 2 ^ 28 = rw d c.requires.v_in.y in
    let e = simp to_z-of_z at c.from-4.ensures in
    let en : nat_abs c.from-4.result ≤ 2 ^ 40 = rw e c.requires.w_in.x in
    let p = product_within c.from.result c.from-2.result _ _ an bn in
    let q = product_within c.from-3.result c.from-4.result _ _ dn en in
    let af : FitsSigned w128 c.from.result = omega (arith, ints, an) in
    let bf : FitsSigned w128 c.from-2.result = omega (arith, ints, bn) in
    let df : FitsSigned w128 c.from-3.result = omega (arith, ints, dn) in
    let ef : FitsSigned w128 c.from-4.result = omega (arith, ints, en) in
    let pf : FitsSigned w128 (c.from.result *ℤ c.from-2.result) = omega (arith, ints, p) in
    let qf : FitsSigned w128 (c.from-3.result *ℤ c.from-4.result) = omega (arith, ints, q) in
    let sf : FitsSigned w128 (c.from.result *ℤ c.from-2.result -ℤ c.from-3.result *ℤ c.from-4.result) = omega (arith, ints, p, q) in
    simp to_z-of_z (ap₂ ◌-ℤ◌ (ap₂ ◌*ℤ◌ a b) (ap₂ ◌*ℤ◌ d e))

pub returns-clause-small : goal.returns-clause-small
returns-clause-small c =
    let fvx : FitsSigned w64 c.args.v.x = omega (arith, ints, c.requires.v_in.x) in
    let fvy : FitsSigned w64 c.args.v.y = omega (arith, ints, c.requires.v_in.y) in
    let fwx : FitsSigned w64 c.args.w.x = omega (arith, ints, c.requires.w_in.x) in
    let fwy : FitsSigned w64 c.args.w.y = omega (arith, ints, c.requires.w_in.y) in
    let a = simp to_z-of_z at c.from.ensures in
    let an : nat_abs c.from.result ≤ 2 ^ 28 = rw a c.requires.v_in.x in
    let b = simp to_z-of_z at c.from-2.ensures in
    let bn : nat_abs c.from-2.result ≤ 2 ^ 40 = rw b c.requires.w_in.y in
    let d = simp to_z-of_z at c.from-3.ensures in
    let dn : nat_abs c.from-3.result ≤ 2 ^ 28 = rw d c.requires.v_in.y in
    let e = simp to_z-of_z at c.from-4.ensures in
    let en : nat_abs c.from-4.result ≤ 2 ^ 40 = rw e c.requires.w_in.x in
    let p = product_within c.from.result c.from-2.result _ _ an bn in
    let q = product_within c.from-3.result c.from-4.result _ _ dn en in
    let af : FitsSigned w128 c.from.result = omega (arith, ints, an) in
    let bf : FitsSigned w128 c.from-2.result = omega (arith, ints, bn) in
    let df : FitsSigned w128 c.from-3.result = omega (arith, ints, dn) in
    let ef : FitsSigned w128 c.from-4.result = omega (arith, ints, en) in
    let pf : FitsSigned w128 (c.from.result *ℤ c.from-2.result) = omega (arith, ints, p) in
    let qf : FitsSigned w128 (c.from-3.result *ℤ c.from-4.result) = omega (arith, ints, q) in
    let sf : FitsSigned w128 (c.from.result *ℤ c.from-2.result -ℤ c.from-3.result *ℤ c.from-4.result) = omega (arith, ints, p, q) in
    simp to_z-of_z (omega (arith, ints, p, q))
