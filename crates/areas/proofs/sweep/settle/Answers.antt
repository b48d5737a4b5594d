use Rattle.std.proofs.Common.{◌∙◌}
use Rattle.std.proofs.lemmas.List.Sorted.{IsPermutation-trans}
use Rattle.areas.proofs.sweep.settle.Goals as goal
use Rattle.areas.proofs.sweep.settle.Goals.{then-near-at, else-near-at}

pub loop-at-preserved : goal.loop-at-preserved
loop-at-preserved c = elim c.if-near-at.branch [
  | then-near-at w ↦ rw w.near-is (record {
    ordered = IsPermutation-trans c.args.near.now c.loop-at.near w.swap.new.self c.loop-at.invariant.ordered w.swap.ensures.permutation;
    same = w.swap.ensures.len ∙ c.loop-at.invariant.same;
  })
  | else-near-at w ↦ rw w.near-is c.loop-at.invariant
]
