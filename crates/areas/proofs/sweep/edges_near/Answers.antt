use Rattle.std.proofs.Common.{take, ◌∙◌, arith, rules, FitsSigned}
use mir.Syntax.{w64}
use Rattle.std.proofs.lemmas.Int.{to_z-of_z}
use Rattle.std.proofs.lemmas.List.{length-set, take_all, take_more_set}
use Rattle.areas.specs.Sweeps.{AreNear}
use Rattle.areas.proofs.Gathered.{near_next, far_next}
use Rattle.areas.proofs.sweep.edges_near.Goals as goal
use Rattle.areas.proofs.sweep.edges_near.Goals.{in-Some, in_default}

pub loop-edge-preserved : goal.loop-edge-preserved
loop-edge-preserved c =
    let fb : FitsSigned w64 c.args.bottom = search rules in
    let ft : FitsSigned w64 c.args.top = search rules in
    let r = c.args.dots.resolution in
    let edges = c.args.edges.now in
    let i = c.loop-edge.edge-index in
    let near = take c.loop-edge.count c.loop-edge.room in
    let t = c.loop-edge-test.true in
    let are : AreNear r (take i edges) c.args.bottom c.args.top near = simp to_z-of_z at c.loop-edge.invariant.0 in
    let few = c.loop-edge.invariant.1 in
    let same = c.loop-edge.invariant.2 in
    elim c.match-swept.branch [
      | in-Some w ↦ (
          let is = w.in-Some.ensures in
          let next = near_next r c.args.bottom c.args.top edges near i c.edge-item.result w.in-Some.near t c.edge-item.is are is in
          let m = take_more_set c.loop-edge.room c.loop-edge.count w.in-Some.near (omega (arith, few, same, t, c.requires.room)) in
          simp to_z-of_z (rw (w.room-is, w.count-is, m) (next, omega (arith, few), length-set c.loop-edge.room c.loop-edge.count w.in-Some.near ∙ same))
          )
      | in_default w ↦ (
          let is = simp to_z-of_z at w.in_default.ensures in
          let next = far_next r c.args.bottom c.args.top edges near i c.edge-item.result t c.edge-item.is are is in
          simp to_z-of_z (rw (w.room-is, w.count-is) (next, omega (arith, few), same))
          )
    ]

pub returns-clause-are : goal.returns-clause-are
returns-clause-are c =
    let all = take_all c.loop-edge.edge-index c.args.edges.now (omega (arith, c.loop-edge-test.false)) in
    let fb : FitsSigned w64 c.args.bottom = search rules in
    let ft : FitsSigned w64 c.args.top = search rules in
    let are = simp to_z-of_z at c.loop-edge.invariant.0 in
    rw all at are
