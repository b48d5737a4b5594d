use Rattle.std.proofs.Common.{◌≡◌, ◌+◌, ◌-◌, [], ap, drop, get_or, arith}
use Rattle.std.proofs.lemmas.List.{drop_all, drop_more}
use Rattle.areas.specs.Shapes.{edge_count}
use Rattle.areas.specs.declared.area.Area.{Area}
use Rattle.areas.proofs.Apart.{ends_before, has_edges, nothing, same_edges}
use Rattle.areas.proofs.among.Areas.edge_count.Goals as goal

pub loop-area-init : goal.loop-area-init
loop-area-init c = record { same = omega arith; few = λ j low within. omega arith }

pub loop-area-preserved : goal.loop-area-preserved
loop-area-preserved c =
    let areas = c.args.self.now in
    let index = c.loop-area.area-index in
    let area : Area = get_or areas.list.now index nothing in
    let rest : edge_count (drop index areas.list.now) ≡ area.end - area.first + edge_count (drop (index + 1) areas.list.now) =
    ap edge_count (drop_more areas.list.now index nothing c.loop-area-test.true) in
    let edge = has_edges areas.before index areas.list.now areas.apart c.loop-area-test.true in
    let before = c.loop-area.invariant.few index (omega arith) c.loop-area-test.true in
    record {
      same = omega (arith, c.loop-area.invariant.same, rest, c.saturating_sub-count.ensures);
      few = λ j low within.
          let later = ends_before areas.before index j areas.list.now areas.apart (omega (arith, low)) within in
          omega (arith, before, edge, later, c.saturating_sub-count.ensures);
    }

pub returns : goal.returns
returns c =
    let areas = c.args.self.now in
    let none : drop c.loop-area.area-index areas.list.now ≡ [] = drop_all c.loop-area.area-index areas.list.now c.loop-area-test.false in
    let rest : edge_count (drop c.loop-area.area-index areas.list.now) ≡ 0 = ap edge_count none in
    let all = same_edges areas.before areas.before areas.list.now areas.apart (omega arith) in
    omega (arith, c.loop-area.invariant.same, rest, all)
