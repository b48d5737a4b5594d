use Rattle.std.proofs.Common.{◌≡◌, ◌∙◌, ◌++◌, List, [], ap, append-nil, drop, filter, length, nat_le, nat_lt, rules, take, tests, arith}
use Rattle.std.proofs.lemmas.Fn.{filter_same}
use Rattle.std.proofs.lemmas.List.{drop_all, length-map, take_all}
use Rattle.areas.specs.Shapes.{all_counted, areas_between, counted}
use Rattle.areas.specs.declared.area.Area.{Area}
use Rattle.areas.proofs.among.keep_areas.Goals as goal

pub returns : goal.returns
returns c =
    let at = c.args.at in
    let end = c.args.end in
    let from = filter_same _ (λ (a : Area). nat_le at a.first) _ (λ a b q k. search (rules, tests)) _ _ c.retain.ensures.filtered in
    let to = filter_same _ (λ (a : Area). nat_lt a.first end) _ (λ a b q k. search (rules, tests)) _ _ c.retain-2.ensures.filtered in
    let kept : c.retain-2.new.self.items ≡ areas_between at end c.args.areas.now.items = to ∙ ap (λ (zs : List Area). filter (λ a. nat_lt a.first end) zs) from in
    let counted_are : c.count_all.new.areas ≡ all_counted at c.retain-2.new.self.items = c.count_all.ensures ∙ ap (all_counted at) c.as_mut_slice.ensures.value in
    let long : length c.count_all.new.areas ≡ length c.retain-2.new.self.items = ap length counted_are ∙ length-map c.retain-2.new.self.items (counted at) in
    let none : drop (length c.count_all.new.areas) c.retain-2.new.self.items ≡ [] = drop_all (length c.count_all.new.areas) c.retain-2.new.self.items (omega (arith, long)) in
    let whole = ap length c.as_mut_slice.ensures.value in
    ap (λ (zs : List Area). take c.retain-2.new.self.len (c.count_all.new.areas ++ zs)) none
    ∙ ap (λ (zs : List Area). take c.retain-2.new.self.len zs) (append-nil c.count_all.new.areas)
    ∙ take_all c.retain-2.new.self.len c.count_all.new.areas (omega (arith, long, whole, c.as_mut_slice.ensures.len))
    ∙ counted_are ∙ ap (all_counted at) kept
