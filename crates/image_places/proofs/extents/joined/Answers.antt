use Rattle.std.proofs.Common.{rules}
use Rattle.std.proofs.lemmas.Int.{to_z-of_z}
use mir.Syntax.{w64}
use mir.Val.{SFits}
use Rattle.image_places.proofs.extents.joined.Goals as goal

pub returns-clause-value : goal.returns-clause-value
returns-clause-value c =
    let a = c.args.extent in
    let b = c.args.more in
    let a0 : SFits w64 a.least_x = search rules in
    let a1 : SFits w64 a.least_y = search rules in
    let a2 : SFits w64 a.greatest_x = search rules in
    let a3 : SFits w64 a.greatest_y = search rules in
    let b0 : SFits w64 b.least_x = search rules in
    let b1 : SFits w64 b.least_y = search rules in
    let b2 : SFits w64 b.greatest_x = search rules in
    let b3 : SFits w64 b.greatest_y = search rules in
    let r0 : SFits w64 c.lesser.result = search rules in
    let r1 : SFits w64 c.lesser-2.result = search rules in
    let r2 : SFits w64 c.greater.result = search rules in
    let r3 : SFits w64 c.greater-2.result = search rules in
    let e0 = simp to_z-of_z at c.lesser.ensures.value in
    let e1 = simp to_z-of_z at c.lesser-2.ensures.value in
    let e2 = simp to_z-of_z at c.greater.ensures.value in
    let e3 = simp to_z-of_z at c.greater-2.ensures.value in
    simp to_z-of_z (cc (e0, e1, e2, e3))

pub returns-clause-near : goal.returns-clause-near
returns-clause-near c =
    let a = c.args.extent in
    let b = c.args.more in
    let a0 : SFits w64 a.least_x = search rules in
    let a1 : SFits w64 a.least_y = search rules in
    let a2 : SFits w64 a.greatest_x = search rules in
    let a3 : SFits w64 a.greatest_y = search rules in
    let b0 : SFits w64 b.least_x = search rules in
    let b1 : SFits w64 b.least_y = search rules in
    let b2 : SFits w64 b.greatest_x = search rules in
    let b3 : SFits w64 b.greatest_y = search rules in
    let r0 : SFits w64 c.lesser.result = search rules in
    let r1 : SFits w64 c.lesser-2.result = search rules in
    let r2 : SFits w64 c.greater.result = search rules in
    let r3 : SFits w64 c.greater-2.result = search rules in
    let e0 = simp to_z-of_z at c.lesser.ensures.near in
    let e1 = simp to_z-of_z at c.lesser-2.ensures.near in
    let e2 = simp to_z-of_z at c.greater.ensures.near in
    let e3 = simp to_z-of_z at c.greater-2.ensures.near in
    simp to_z-of_z (record {
      least_x = e0 c.requires.near.least_x c.requires.more_near.least_x;
      least_y = e1 c.requires.near.least_y c.requires.more_near.least_y;
      greatest_x = e2 c.requires.near.greatest_x c.requires.more_near.greatest_x;
      greatest_y = e3 c.requires.near.greatest_y c.requires.more_near.greatest_y;
    })
