use Rattle.std.proofs.Common.{rules, arith, nat_abs, FitsSigned, ap, ◌∙◌}
use mir.Syntax.{w64}
use Rattle.std.proofs.lemmas.Int.{ints, to_z-of_z}
use Rattle.stroke_raster.proofs.StripLemmas.{lesser_way}
use Rattle.stroke_raster.proofs.slope.length_at_most.Goals as goal

pub returns-clause-enough : goal.returns-clause-enough
returns-clause-enough c =
    let f : FitsSigned w64 c.args.way.x = omega (arith, ints, c.requires.x) in
    let g : FitsSigned w64 c.args.way.y = omega (arith, ints, c.requires.y) in
    let h : FitsSigned w64 c.squared_length.result = search rules in
    let a = simp to_z-of_z at c.unsigned_abs-x.ensures.value in
    let b = simp to_z-of_z at c.unsigned_abs-y.ensures.value in
    let n = simp to_z-of_z at c.unsigned_abs.ensures.value in
    lesser_way c.args.way c.unsigned_abs-x.result c.unsigned_abs-y.result c.unsigned_abs.result c.root_at_most-root.result c.min-2.result a b (n ∙ ap nat_abs c.squared_length.ensures.value) c.root_at_most-root.ensures c.min-2.ensures
