use Rattle.std.proofs.Common.{inl, inr, arith, rules, FitsSigned}
use mir.Syntax.{w32, w64}
use Rattle.std.proofs.lemmas.Int.{ints, to_z-of_z}
use Rattle.areas.proofs.SweptEdges.{clear_here, crossing_here}
use Rattle.areas.proofs.crossing.crossing_of.Goals as goal
use Rattle.areas.proofs.crossing.crossing_of.Goals.{else-scaled-height-via-then-scaled-height+else-height-scaled, else-scaled-height-via-else-scaled-height}

pub returns-then-height-scaled : goal.returns-then-height-scaled
returns-then-height-scaled c =
    let n = c.args.edge.now in
    let r = c.args.dots.resolution in
    let fy : FitsSigned w64 c.args.height = search rules in
    let fc : FitsSigned w64 n.column = search rules in
    let ay : FitsSigned w32 n.ay = omega (arith, ints, c.requires.ay) in
    let by : FitsSigned w32 n.by = omega (arith, ints, c.requires.by) in
    let low = simp to_z-of_z at c.scaled.ensures.value in
    let high = simp to_z-of_z at c.scaled-then-scaled-height.ensures.value in
    crossing_here r c.args.height n c.args.columns c.limited.result c.requires
    (omega (arith, ints, low, c.if-scaled-height.true)) (omega (arith, ints, high, c.if-height-scaled.true))
    (λ k l. let is = c.limited.ensures.first k l in simp to_z-of_z at is) c.limited.ensures.within

pub returns : goal.returns
returns c =
    let n = c.args.edge.now in
    let r = c.args.dots.resolution in
    let fy : FitsSigned w64 c.args.height = search rules in
    let ay : FitsSigned w32 n.ay = omega (arith, ints, c.requires.ay) in
    let by : FitsSigned w32 n.by = omega (arith, ints, c.requires.by) in
    let low = simp to_z-of_z at c.scaled.ensures.value in
    clear_here r c.args.height n (elim c.else-scaled-height.branch [
      | else-scaled-height-via-then-scaled-height+else-height-scaled w ↦ (
          let high = simp to_z-of_z at w.scaled-then-scaled-height.ensures.value in
          inr (omega (arith, ints, high, w.if-height-scaled.false)))
      | else-scaled-height-via-else-scaled-height w ↦ inl (omega (arith, ints, low, w.if-scaled-height.false))
    ])
