use Rattle.std.proofs.Common.{◌-◌, ◌≤◌, length, drop, arith, rules, FitsSigned, IsPermutation}
use mir.Syntax.{w64}
use Rattle.std.proofs.lemmas.Int.{to_z-of_z}
use Rattle.std.proofs.lemmas.List.{length-drop, take_all}
use Rattle.areas.proofs.Descent.{front_put, tail_put}
use Rattle.areas.proofs.Sweeping.{live_sorted}
use Rattle.areas.proofs.sweep.start.Goals as goal

pub returns-then-left-waiting-clause-swept : goal.returns-then-left-waiting-clause-swept
returns-then-left-waiting-clause-swept c edges low h =
    let fh : FitsSigned w64 c.args.height = search rules in
    let near = c.come-left.new.near in
    let left = c.come-left.result in
    let within : left ≤ length near = omega (arith, c.requires.sweeping.few, c.come-left.ensures.few, c.come-left.ensures.same) in
    let long = length-drop left near in
    let all = take_all (length near - left) (drop left near) (omega (arith, long)) in
    let sorted = c.sort_unstable_by_key.new.self in
    let permuted : IsPermutation (drop left near) sorted = rw all at c.sort_unstable_by_key.ensures.permutation in
    let swept = (simp to_z-of_z at c.come-left.ensures.swept) edges low h in
    rw (front_put left (length near - left) near sorted within, tail_put left (length near - left) near sorted within (omega arith))
    (live_sorted c.args.dots.resolution edges low c.args.height _ (drop left near) sorted swept permuted)

pub returns-else-left-waiting-clause-swept : goal.returns-else-left-waiting-clause-swept
returns-else-left-waiting-clause-swept c =
    let fh : FitsSigned w64 c.args.height = search rules in
    simp to_z-of_z at c.come-left.ensures.swept
