use Rattle.std.proofs.Common.{◌≡◌, ◌+◌, ◌-◌, ◌≤◌, ◌∙◌, length, arith, rules, FitsSigned}
use mir.Syntax.{w32, w64}
use Rattle.std.proofs.lemmas.Int.{ints, to_z-of_z}
use Rattle.std.proofs.lemmas.List.{length-set}
use Rattle.areas.specs.Sweeps.{edge_at}
use Rattle.areas.proofs.Live.{came}
use Rattle.areas.proofs.Sweeping.{below_last, waits_at}
use Rattle.areas.proofs.sweep.come.Goals as goal

pub scaled-requires : goal.scaled-requires
scaled-requires c =
    let fh : FitsSigned w64 c.args.height = search rules in
    let swept = (simp to_z-of_z at c.edges.invariant.swept) c.requires.sweeping.edges c.requires.sweeping.low c.requires.sweeping.swept in
    let few = c.requires.sweeping.few in
    let waits = waits_at c.edges.near c.edges.left c.edges-test.true (omega (arith, few, c.edges.invariant.few, c.edges.invariant.same)) swept.waits in
    let fb : FitsSigned w32 (edge_at c.edges.near (c.edges.left - 1)).by = omega (arith, ints, waits.by) in
    simp to_z-of_z waits.by

pub placed-requires-clause-waiting : goal.placed-requires-clause-waiting
placed-requires-clause-waiting c =
    let fh : FitsSigned w64 c.args.height = search rules in
    let swept = (simp to_z-of_z at c.edges.invariant.swept) c.requires.sweeping.edges c.requires.sweeping.low c.requires.sweeping.swept in
    let few = c.requires.sweeping.few in
    waits_at c.edges.near c.edges.left c.edges-test.true (omega (arith, few, c.edges.invariant.few, c.edges.invariant.same)) swept.waits

pub edges-preserved : goal.edges-preserved
edges-preserved c =
    let fh : FitsSigned w64 c.args.height = search rules in
    let swept = simp to_z-of_z at c.edges.invariant.swept in
    let few = c.requires.sweeping.few in
    let i = c.edges.left - 1 in
    let e : i + 1 ≡ c.edges.left = omega (arith, c.edges-test.true) in
    let from = simp to_z-of_z at c.placed.ensures in
    simp to_z-of_z (record {
      swept = λ edges low h.
          let before = swept edges low h in
          came c.args.dots.resolution edges low c.args.height c.edges.near i c.placed.result
          (omega (arith, few, e, c.edges.invariant.few, c.edges.invariant.same)) from (rw e before);
      few = omega (arith, c.edges.invariant.few);
      same = length-set c.edges.near i c.placed.result ∙ c.edges.invariant.same;
    })

pub returns-after-edges-clause-swept : goal.returns-after-edges-clause-swept
returns-after-edges-clause-swept c =
    let fh : FitsSigned w64 c.args.height = search rules in
    simp to_z-of_z at c.edges.invariant.swept

pub returns-then-scaled-height-clause-swept : goal.returns-then-scaled-height-clause-swept
returns-then-scaled-height-clause-swept c =
    let fh : FitsSigned w64 c.args.height = search rules in
    simp to_z-of_z at c.edges.invariant.swept

pub returns-then-scaled-height-clause-below : goal.returns-then-scaled-height-clause-below
returns-then-scaled-height-clause-below c =
    let fh : FitsSigned w64 c.args.height = search rules in
    let few = c.requires.sweeping.few in
    let i = c.edges.left - 1 in
    let swept = (simp to_z-of_z at c.edges.invariant.swept) c.requires.sweeping.edges c.requires.sweeping.low c.requires.sweeping.swept in
    let long : c.edges.left ≤ length c.edges.near = omega (arith, few, c.edges.invariant.few, c.edges.invariant.same) in
    let waits = waits_at c.edges.near c.edges.left c.edges-test.true long swept.waits in
    let fb : FitsSigned w32 (edge_at c.edges.near i).by = omega (arith, ints, waits.by) in
    let fs : FitsSigned w64 c.scaled.result = omega (arith, ints, c.scaled.ensures.within) in
    let value = simp to_z-of_z at c.scaled.ensures.value in
    let low = simp to_z-of_z at c.if-scaled-height.true in
    below_last c.args.dots.resolution c.args.height c.edges.near c.edges.left long swept.ordered
    (λ k e. let same : k ≡ i = omega (arith, e) in rw same (omega (arith, ints, value, low)))
