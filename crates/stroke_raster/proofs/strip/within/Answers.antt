use Rattle.std.proofs.Common.{rules, arith, ◌+ℤ◌, ◌-ℤ◌, ◌^◌, ◌<◌, FitsSigned}
use mir.Syntax.{w64}
use Rattle.std.proofs.lemmas.Int.{ints, to_z-of_z}
use Rattle.stroke_raster.proofs.StripLemmas.{after_core, before_core, size_from, size_past, size_some}
use Rattle.stroke_raster.proofs.strip.within.Goals as goal

pub returns-then-low-le0-2-clause-after : goal.returns-then-low-le0-2-clause-after
returns-then-low-le0-2-clause-after c = λ i u v.
    let f : FitsSigned w64 c.args.k = search rules in
    let g : FitsSigned w64 c.args.most = search rules in
    let s : FitsSigned w64 (c.args.k +ℤ c.args.most) = omega (arith, ints, c.requires.k_in, c.requires.most_in) in
    let t = simp to_z-of_z at c.if-high-lt0.false in
    let e = simp to_z-of_z at c.unsigned_abs.ensures.value in
    let p : 0 < c.args.step = omega (arith, c.if-step-eq0.false) in
    let n = c.requires.inverse_is.over p in
    after_core c.args.k c.args.most c.unsigned_abs.result c.args.inverse.over c.args.step (2 ^ 64) i c.args.length (omega arith) p n (size_from (c.args.k +ℤ c.args.most) c.unsigned_abs.result t e) (omega (arith, u, c.min-end.ensures, c.from.ensures, c.high_half-last.ensures.value)) v

pub returns-clause-before : goal.returns-clause-before
returns-clause-before c = λ i u.
    let f : FitsSigned w64 c.args.k = search rules in
    let g : FitsSigned w64 c.args.most = search rules in
    let s : FitsSigned w64 (c.args.k -ℤ c.args.most) = omega (arith, ints, c.requires.k_in, c.requires.most_in) in
    let t = simp to_z-of_z at c.if-low-le0-2.false in
    let e = simp to_z-of_z at c.unsigned_abs-2.ensures.value in
    let z = size_past (c.args.k -ℤ c.args.most) c.unsigned_abs-2.result t e in
    let p : 0 < c.args.step = omega (arith, c.if-step-eq0.false) in
    let n = c.requires.inverse_is.under in
    let a : 0 < c.unsigned_abs-2.result = size_some (c.args.k -ℤ c.args.most) c.unsigned_abs-2.result t e in
    before_core c.args.k c.args.most c.unsigned_abs-2.result c.args.inverse.under c.args.step (2 ^ 64) i c.min-end.result (omega arith) n z a (omega (arith, u, c.min.ensures, c.from-2.ensures, c.high_half-first.ensures.value))

pub returns-clause-after : goal.returns-clause-after
returns-clause-after c = λ i u v.
    let f : FitsSigned w64 c.args.k = search rules in
    let g : FitsSigned w64 c.args.most = search rules in
    let s : FitsSigned w64 (c.args.k +ℤ c.args.most) = omega (arith, ints, c.requires.k_in, c.requires.most_in) in
    let t = simp to_z-of_z at c.if-high-lt0.false in
    let e = simp to_z-of_z at c.unsigned_abs.ensures.value in
    let p : 0 < c.args.step = omega (arith, c.if-step-eq0.false) in
    let n = c.requires.inverse_is.over p in
    after_core c.args.k c.args.most c.unsigned_abs.result c.args.inverse.over c.args.step (2 ^ 64) i c.args.length (omega arith) p n (size_from (c.args.k +ℤ c.args.most) c.unsigned_abs.result t e) (omega (arith, u, c.min-end.ensures, c.from.ensures, c.high_half-last.ensures.value)) v
