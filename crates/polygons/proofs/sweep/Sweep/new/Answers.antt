use Rattle.std.proofs.Common.{rules}
use Rattle.std.proofs.lemmas.List.Sorted.{answers_always}
use Rattle.polygons.proofs.Begins.{begins, begins_all}
use Rattle.polygons.proofs.sweep.Sweep.new.Goals as goal

pub returns-clause-sound : goal.returns-clause-sound
returns-clause-sound c =
    let q = c.sort_unstable_by_key.ensures.sorted (λ y. y.first) (answers_always _ _ _ (λ f a r g h. search rules)) in
    begins c.new-ruling.result c.args.rule c.args.edges c.args.alloc c.in_ok-climbs.climbs.items c.sort_unstable_by_key.new.self c.new.result
    c.in_ok-climbs.ensures.value c.in_ok-climbs.ensures.sound c.sort_unstable_by_key.ensures.permutation q c.new.ensures.items

pub returns-clause-all : goal.returns-clause-all
returns-clause-all c =
    let q = c.sort_unstable_by_key.ensures.sorted (λ y. y.first) (answers_always _ _ _ (λ f a r g h. search rules)) in
    rw (← c.new-ruling.ensures)
    (begins_all c.new-ruling.result c.args.rule c.args.edges c.args.alloc c.in_ok-climbs.climbs.items c.sort_unstable_by_key.new.self c.new.result
    c.in_ok-climbs.ensures.value c.in_ok-climbs.ensures.sound c.sort_unstable_by_key.ensures.permutation q c.new.ensures.items)
