use Rattle.std.proofs.Common.{◌≡◌, ◌-◌, ◌≤◌, length, drop, arith, rules, FitsSigned}
use mir.Syntax.{w64}
use Rattle.std.proofs.lemmas.Int.{to_z-of_z}
use Rattle.std.proofs.lemmas.List.{length-drop, length-take}
use Rattle.areas.proofs.Descent.{part_is, part_put}
use Rattle.areas.proofs.sweep.descend_among.Goals as goal

pub descend-requires : goal.descend-requires
descend-requires c = rw (part_is c.args.waiting c.args.end c.args.near.now c.requires.order) c.requires.somewhere

pub returns-clause-below : goal.returns-clause-below
returns-clause-below c =
    let fh : FitsSigned w64 c.args.height = search rules in
    let near = c.args.near.now in
    let at = c.args.waiting in
    let end = c.args.end in
    let after = c.descend.new.near in
    let part = part_is at end near c.requires.order in
    let size : length after ≡ end - at =
    omega (arith, c.descend.ensures.same, length-take (end - at) (drop at near), length-drop at near, c.requires.order, c.requires.few) in
    let few : c.descend.result ≤ end - at =
    omega (arith, c.descend.ensures.few, length-take (end - at) (drop at near), length-drop at near, c.requires.order, c.requires.few) in
    let below = simp to_z-of_z at c.descend.ensures.below in
    rw (part_put at c.descend.result end near after c.requires.order c.requires.few size few) (rw part at below)
