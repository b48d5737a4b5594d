use Rattle.std.proofs.Common.{◌≡◌, ◌+◌, ◌-◌, ◌≤◌, take, get_or, Some, arith}
use Rattle.std.specs.List.{All}
use Rattle.std.proofs.lemmas.List.{take_all, take_more}
use Rattle.std.proofs.lemmas.List.Elements.{All-map, All-more, All-nil, All-pop}
use Rattle.areas.specs.declared.area.Area.{Area}
use Rattle.areas.specs.Shapes.{counted}
use Rattle.areas.proofs.Apart.{edges_counted, nothing}
use Rattle.areas.proofs.among.Areas.most_edges.Goals as goal

pub loop-area-init : goal.loop-area-init
loop-area-init c = record {
  enough = All-nil (λ (a : Area). a.end - a.first ≤ 0);
  least = λ n h. omega arith;
}

pub loop-area-preserved : goal.loop-area-preserved
loop-area-preserved c =
    let before = c.loop-area.invariant in
    let areas = c.args.self.now.list.now in
    let index = c.loop-area.area-index in
    record {
      enough = All-more (λ (a : Area). a.end - a.first ≤ c.max-most.result) areas index nothing c.loop-area-test.true
          (λ k d h. let b = before.enough k d h in omega (arith, b, c.max-most.ensures))
          (omega (arith, c.max-most.ensures, c.saturating_sub.ensures));
      least = λ n h.
          let P : Area → Type 0 = λ a. a.end - a.first ≤ n in
          let both = All-pop P (take (index + 1) areas) (take index areas) (Some (get_or areas index nothing)) (take_more areas index nothing c.loop-area-test.true) h in
          let others = before.least n both.0 in
          let last : P (get_or areas index nothing) = both.1 in
          omega (arith, others, last, c.max-most.ensures, c.saturating_sub.ensures);
    }

pub returns-clause-enough : goal.returns-clause-enough
returns-clause-enough c =
    let areas = c.args.self.now in
    let e : take c.loop-area.area-index areas.list.now ≡ areas.list.now = take_all c.loop-area.area-index areas.list.now c.loop-area-test.false in
    let all : All (λ a. a.end - a.first ≤ c.loop-area.most) areas.list.now = rw e at c.loop-area.invariant.enough in
    All-map (λ (a : Area). a.end - a.first ≤ c.loop-area.most) (counted areas.before) areas.list.now
    (λ k d h. let b = all k d h in omega (arith, b))

pub returns-clause-least : goal.returns-clause-least
returns-clause-least c = λ n h.
    let areas = c.args.self.now in
    let e : take c.loop-area.area-index areas.list.now ≡ areas.list.now = take_all c.loop-area.area-index areas.list.now c.loop-area-test.false in
    let all : All (λ a. a.end - a.first ≤ n) areas.list.now = edges_counted areas.before areas.before n areas.list.now areas.apart (omega arith) h in
    c.loop-area.invariant.least n (rw e all)
