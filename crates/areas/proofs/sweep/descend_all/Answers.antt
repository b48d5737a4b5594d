use Rattle.std.proofs.Common.{◌<◌, ◌∙◌, [], length, arith, pos, ◌*ℤ◌, rules, FitsSigned}
use mir.Syntax.{w32, w64}
use Rattle.std.proofs.lemmas.Int.{ints, to_z-of_z}
use Rattle.std.proofs.lemmas.List.{length-set}
use Rattle.std.proofs.lemmas.List.Elements.{All-get_or}
use Rattle.polygons.proofs.Tests.{le_true, le_false}
use Rattle.areas.specs.Sweeps.{IsSomewhere, below, edge_at}
use Rattle.areas.proofs.Descent.{left_behind, rest_after, rest_next, same_at, stays}
use Rattle.areas.proofs.sweep.descend_all.Goals as goal
use Rattle.areas.proofs.sweep.descend_all.Goals.{then-scaled-height, else-scaled-height}

pub scaled-requires : goal.scaled-requires
scaled-requires c =
    let at = c.loop-at.at in
    let near = c.loop-at.near in
    let before = c.args.near.now in
    let within : at < length before = omega (arith, c.loop-at-test.true, c.loop-at.invariant.same) in
    let is = same_at near before at (omega (arith, within, c.loop-at.invariant.same)) within c.loop-at.invariant.rest in
    let somewhere : IsSomewhere (edge_at near at) = rw is (All-get_or IsSomewhere before at (edge_at [] 0) within c.requires) in
    let fa : FitsSigned w32 (edge_at near at).ay = omega (arith, ints, somewhere.in_row.ay) in
    simp to_z-of_z somewhere.in_row.ay

pub below-requires : goal.below-requires
below-requires c =
    let at = c.loop-at.at in
    let near = c.loop-at.near in
    let before = c.args.near.now in
    let within : at < length before = omega (arith, c.loop-at-test.true, c.loop-at.invariant.same) in
    let is = same_at near before at (omega (arith, within, c.loop-at.invariant.same)) within c.loop-at.invariant.rest in
    rw is (All-get_or IsSomewhere before at (edge_at [] 0) within c.requires)

pub loop-at-preserved : goal.loop-at-preserved
loop-at-preserved c =
    let fh : FitsSigned w64 c.args.height = search rules in
    let r = c.args.dots.resolution in
    let y = c.args.height in
    let at = c.loop-at.at in
    let kept = c.loop-at.kept in
    let near = c.loop-at.near in
    let before = c.args.near.now in
    let same = c.loop-at.invariant.same in
    let few = c.loop-at.invariant.few in
    let rest = c.loop-at.invariant.rest in
    let so_far = simp to_z-of_z at c.loop-at.invariant.so_far in
    let within : at < length before = omega (arith, c.loop-at-test.true, same) in
    let is = same_at near before at (omega (arith, within, same)) within rest in
    let somewhere : IsSomewhere (edge_at near at) = rw is (All-get_or IsSomewhere before at (edge_at [] 0) within c.requires) in
    let fa : FitsSigned w32 (edge_at near at).ay = omega (arith, ints, somewhere.in_row.ay) in
    let fs : FitsSigned w64 c.scaled.result = omega (arith, ints, c.scaled.ensures.within) in
    let value = simp to_z-of_z at c.scaled.ensures.value in
    elim c.if-scaled-height.branch [
      | then-scaled-height w ↦ (
          let low = simp to_z-of_z at w.if-scaled-height.true in
          let down = le_true (pos r *ℤ (edge_at near at).ay) y (omega (arith, ints, low, value)) in
          simp to_z-of_z (rw (w.near-is, w.kept-is, w.below.ensures) (record {
            so_far = stays r y near before kept at within same few so_far rest down;
            rest = rest_after r y near before kept at within same few so_far rest;
            few = omega (arith, few);
            same = length-set near kept (below (edge_at near at)) ∙ same;
          }))
          )
      | else-scaled-height w ↦ (
          let low = simp to_z-of_z at w.if-scaled-height.false in
          let up = le_false (pos r *ℤ (edge_at near at).ay) y (omega (arith, ints, low, value)) in
          simp to_z-of_z (rw (w.near-is, w.kept-is) (record {
            so_far = left_behind r y near before kept at within same few so_far rest up;
            rest = rest_next near before at rest;
            few = omega (arith, few);
            same = same;
          }))
          )
    ]
