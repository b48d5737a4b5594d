use Rattle.std.proofs.Common.{◌≡◌, ◌∙◌, List, ap, sym, subst, take}
use Rattle.areas.specs.declared.area.Area.{Area}
use Rattle.areas.specs.Cuts.{count_to}
use Rattle.areas.specs.Shapes.{AreApart, all_counted, areas_between, areas_from}
use Rattle.areas.proofs.Apart.{apart_between, apart_from, from_is_drop, to_is_take}
use Rattle.areas.proofs.among.Areas.between.Goals as goal

pub invariant_of-result : goal.invariant_of-result
invariant_of-result c =
    let at = c.args.at in
    let end = c.args.end in
    let areas = c.args.list.now in
    let rest : c.areas_from.result.now ≡ areas_from at areas = c.areas_from.ensures ∙ from_is_drop 0 at areas c.requires in
    let kept : c.areas_to-list.result.now ≡ areas_between at end areas =
    c.areas_to-list.ensures ∙ ap (λ (zs : List Area). take (count_to end zs) zs) rest ∙ to_is_take at end (areas_from at areas) (apart_from 0 at areas c.requires) in
    record { apart = subst (λ (zs : List Area). AreApart at zs) (sym kept) (apart_between at end areas c.requires) }

pub returns : goal.returns
returns c =
    let at = c.args.at in
    let end = c.args.end in
    let areas = c.args.list.now in
    let rest : c.areas_from.result.now ≡ areas_from at areas = c.areas_from.ensures ∙ from_is_drop 0 at areas c.requires in
    let kept : c.areas_to-list.result.now ≡ areas_between at end areas =
    c.areas_to-list.ensures ∙ ap (λ (zs : List Area). take (count_to end zs) zs) rest ∙ to_is_take at end (areas_from at areas) (apart_from 0 at areas c.requires) in
    ap (all_counted at) kept
