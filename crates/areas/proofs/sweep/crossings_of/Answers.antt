use Rattle.std.proofs.Common.{take, ◌∙◌, arith, rules, FitsSigned}
use mir.Syntax.{w64}
use Rattle.std.proofs.lemmas.Int.{to_z-of_z}
use Rattle.std.proofs.lemmas.List.{get_or_default, length-set, take_all, take_more_set}
use Rattle.areas.specs.Crossings.{AreCrossings}
use Rattle.areas.proofs.Gathered.{crossed_next, clear_next}
use Rattle.areas.proofs.sweep.crossings_of.Goals as goal
use Rattle.areas.proofs.sweep.crossings_of.Goals.{in-Some, in_default}

pub loop-edge-preserved : goal.loop-edge-preserved
loop-edge-preserved c =
    let fh : FitsSigned w64 c.args.height = search rules in
    let r = c.args.dots.resolution in
    let y = c.args.height in
    let near = c.args.near.now in
    let i = c.loop-edge.edge-index in
    let cs = take c.loop-edge.count c.loop-edge.room in
    let t = c.loop-edge-test.true in
    let are : AreCrossings r y c.args.columns (take i near) cs = simp to_z-of_z at c.loop-edge.invariant.0 in
    let few = c.loop-edge.invariant.1 in
    let same = c.loop-edge.invariant.2 in
    elim c.match-crossing_of.branch [
      | in-Some w ↦ (
          let is = simp to_z-of_z at w.in-Some.ensures in
          let next = crossed_next r y c.args.columns near cs i _ w.in-Some.crossing t (get_or_default near i _ _ t) are is in
          let m = take_more_set c.loop-edge.room c.loop-edge.count w.in-Some.crossing (omega (arith, few, same, t, c.requires.room)) in
          simp to_z-of_z (rw (w.room-is, w.count-is, m) (next, omega (arith, few), length-set c.loop-edge.room c.loop-edge.count w.in-Some.crossing ∙ same))
          )
      | in_default w ↦ (
          let is = simp to_z-of_z at w.in_default.ensures in
          let next = clear_next r y c.args.columns near cs i _ t (get_or_default near i _ _ t) are is in
          simp to_z-of_z (rw (w.room-is, w.count-is) (next, omega (arith, few), same))
          )
    ]

pub returns-clause-are : goal.returns-clause-are
returns-clause-are c =
    let all = take_all c.loop-edge.edge-index c.args.near.now (omega (arith, c.loop-edge-test.false)) in
    let fh : FitsSigned w64 c.args.height = search rules in
    let are = simp to_z-of_z at c.loop-edge.invariant.0 in
    rw all at are
