use Rattle.std.proofs.Common.{◌≡◌, length, arith, rules, FitsSigned}
use mir.Syntax.{w64}
use Rattle.std.proofs.lemmas.Int.{to_z-of_z}
use Rattle.std.proofs.lemmas.List.{length-take}
use Rattle.std.proofs.lemmas.List.Sorted.{answers_always}
use Rattle.areas.proofs.Gathered.{first_part}
use Rattle.areas.proofs.Sweeping.{near_sorted, rising_from}
use Rattle.areas.proofs.sweep.gather.Goals as goal

pub returns-clause-are : goal.returns-clause-are
returns-clause-are c =
    let fb : FitsSigned w64 c.args.bottom = search rules in
    let ft : FitsSigned w64 c.args.top = search rules in
    let ns = c.sort_unstable_by_key.new.self in
    let n = c.edges_near-count.result in
    let long : length ns ≡ n = omega (arith, c.sort_unstable_by_key.ensures.len, length-take n c.edges_near-count.new.room, c.edges_near-count.ensures.same, c.edges_near-count.ensures.few, c.requires.room) in
    let are = simp to_z-of_z at c.edges_near-count.ensures.are in
    let rising = rising_from ns (c.sort_unstable_by_key.ensures.sorted (λ y. y.by) (answers_always _ _ _ (λ f a r g h. search rules))) in
    rw (first_part ns _ n long) (near_sorted c.args.dots.resolution c.args.edges.now c.args.bottom c.args.top _ ns are c.sort_unstable_by_key.ensures.permutation rising)
