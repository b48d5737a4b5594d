use Rattle.std.proofs.Common.{rules}
use Rattle.std.proofs.lemmas.Int.{to_z-of_z}
use mir.Syntax.{w32, w64}
use mir.Val.{SFits}
use Rattle.page_fit.proofs.extent.Extent.cut_to.Goals as goal

pub returns-clause-value : goal.returns-clause-value
returns-clause-value c =
    let a = c.args.self in
    let w = c.args.window in
    let a0 : SFits w64 a.least_x = search rules in
    let a1 : SFits w64 a.least_y = search rules in
    let a2 : SFits w64 a.greatest_x = search rules in
    let a3 : SFits w64 a.greatest_y = search rules in
    let b0 : SFits w32 w.x0 = search rules in
    let b1 : SFits w32 w.y0 = search rules in
    let b2 : SFits w32 w.x1 = search rules in
    let b3 : SFits w32 w.y1 = search rules in
    let r0 : SFits w64 c.not_below.result = search rules in
    let r1 : SFits w64 c.not_below-2.result = search rules in
    let r2 : SFits w64 c.not_above.result = search rules in
    let r3 : SFits w64 c.not_above-2.result = search rules in
    let e0 = simp to_z-of_z at c.not_below.ensures.value in
    let e1 = simp to_z-of_z at c.not_below-2.ensures.value in
    let e2 = simp to_z-of_z at c.not_above.ensures.value in
    let e3 = simp to_z-of_z at c.not_above-2.ensures.value in
    simp to_z-of_z (cc (e0, e1, e2, e3))

pub returns-clause-near : goal.returns-clause-near
returns-clause-near c =
    let a = c.args.self in
    let a0 : SFits w64 a.least_x = search rules in
    let a1 : SFits w64 a.least_y = search rules in
    let a2 : SFits w64 a.greatest_x = search rules in
    let a3 : SFits w64 a.greatest_y = search rules in
    let r0 : SFits w64 c.not_below.result = search rules in
    let r1 : SFits w64 c.not_below-2.result = search rules in
    let r2 : SFits w64 c.not_above.result = search rules in
    let r3 : SFits w64 c.not_above-2.result = search rules in
    let e0 = simp to_z-of_z at c.not_below.ensures.near in
    let e1 = simp to_z-of_z at c.not_below-2.ensures.near in
    let e2 = simp to_z-of_z at c.not_above.ensures.near in
    let e3 = simp to_z-of_z at c.not_above-2.ensures.near in
    simp to_z-of_z (record {
      least_x = e0 c.requires.near.least_x;
      least_y = e1 c.requires.near.least_y;
      greatest_x = e2 c.requires.near.greatest_x;
      greatest_y = e3 c.requires.near.greatest_y;
    })
