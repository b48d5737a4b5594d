use Rattle.std.proofs.Common.{◌≡◌, length, arith, rules, FitsSigned}
use mir.Syntax.{w64}
use Rattle.std.proofs.lemmas.Int.{to_z-of_z}
use Rattle.std.proofs.lemmas.List.{length-take}
use Rattle.std.proofs.lemmas.List.Sorted.{answers_always}
use Rattle.areas.proofs.Gathered.{first_part, in_order}
use Rattle.areas.proofs.Ranges.{ordered_from}
use Rattle.areas.proofs.sweep.cross.Goals as goal

pub returns-clause-are : goal.returns-clause-are
returns-clause-are c =
    let fh : FitsSigned w64 c.args.height = search rules in
    let cs = c.sort_unstable_by_key.new.self in
    let n = c.crossings_of-count.result in
    let long : length cs ≡ n = omega (arith, c.sort_unstable_by_key.ensures.len, length-take n c.crossings_of-count.new.room, c.crossings_of-count.ensures.same, c.crossings_of-count.ensures.few, c.requires.room) in
    let are = simp to_z-of_z at c.crossings_of-count.ensures.are in
    rw (first_part cs _ n long) (in_order c.args.dots.resolution c.args.height c.args.columns c.args.near.now _ cs c.sort_unstable_by_key.ensures.permutation are)

pub returns-clause-ordered : goal.returns-clause-ordered
returns-clause-ordered c =
    let cs = c.sort_unstable_by_key.new.self in
    let n = c.crossings_of-count.result in
    let long : length cs ≡ n = omega (arith, c.sort_unstable_by_key.ensures.len, length-take n c.crossings_of-count.new.room, c.crossings_of-count.ensures.same, c.crossings_of-count.ensures.few, c.requires.room) in
    rw (first_part cs _ n long) (ordered_from cs 0 (λ d l. omega arith)
    (c.sort_unstable_by_key.ensures.sorted (λ y. y.column) (answers_always _ _ _ (λ f a r g h. search rules))))
