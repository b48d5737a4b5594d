use Rattle.std.proofs.Common.{◌≡◌, length, arith, rules, FitsSigned}
use mir.Syntax.{w64}
use Rattle.std.proofs.lemmas.Int.{to_z-of_z}
use Rattle.std.proofs.lemmas.List.{length-take, take-take}
use Rattle.areas.proofs.Descent.{put_first, take_first}
use Rattle.areas.proofs.sweep.start_among.Goals as goal

pub start-requires-clause-sweeping : goal.start-requires-clause-sweeping
start-requires-clause-sweeping c =
    let fh : FitsSigned w64 c.args.height = search rules in
    let s = c.requires.sweeping in
    let long = length-take c.args.end c.args.near.now in
    let part = take-take c.args.waiting c.args.end c.args.near.now s.order in
    simp to_z-of_z (record {
      edges = s.edges;
      low = s.low;
      few = omega (arith, long, s.order, s.few);
      swept = rw part s.swept;
    })

pub returns-clause-swept : goal.returns-clause-swept
returns-clause-swept c edges low h =
    let fh : FitsSigned w64 c.args.height = search rules in
    let s = c.requires.sweeping in
    let near = c.args.near.now in
    let end = c.args.end in
    let after = c.start.new.near in
    let long : length after ≡ end = omega (arith, c.start.ensures.same, length-take end near, s.few) in
    let part = take-take c.args.waiting end near s.order in
    let swept = (simp to_z-of_z at c.start.ensures.swept) edges low (rw part h) in
    rw (put_first end near after s.few long, take_first c.start.result end near after (omega (arith, c.start.ensures.few, s.order)) s.few long) swept

pub returns-clause-below : goal.returns-clause-below
returns-clause-below c =
    let fh : FitsSigned w64 c.args.height = search rules in
    let s = c.requires.sweeping in
    let near = c.args.near.now in
    let end = c.args.end in
    let after = c.start.new.near in
    let long : length after ≡ end = omega (arith, c.start.ensures.same, length-take end near, s.few) in
    let below = simp to_z-of_z at c.start.ensures.below in
    rw (take_first c.start.result end near after (omega (arith, c.start.ensures.few, s.order)) s.few long) below
