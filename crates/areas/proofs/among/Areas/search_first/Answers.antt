use Rattle.std.proofs.Common.{rules, ◌∙◌, sym, ap, Some}
use Rattle.std.proofs.lemmas.List.Sorted.{answers_always}
use Rattle.areas.specs.declared.area.Area.{Area}
use Rattle.areas.proofs.Apart.{first_found, first_absent}
use Rattle.areas.proofs.among.Areas.search_first.Goals as goal

pub returns-in-Ok : goal.returns-in-Ok
returns-in-Ok c =
    let areas = c.args.self.now in
    let position = c.in-Ok.ensures.position (λ (a : Area). a.first) (answers_always _ _ _ (λ f a r g called. search rules)) in
    let found = first_found areas.before areas.list.now areas.apart c.args.first c.in-Ok.at c.in-Ok.ensures.bound position in
    ap Some c.counted.ensures ∙ sym found

pub returns-in-Err : goal.returns-in-Err
returns-in-Err c =
    let areas = c.args.self.now in
    let position = c.in-Err.ensures.position (λ (a : Area). a.first) (answers_always _ _ _ (λ f a r g called. search rules)) in
    sym (first_absent areas.before areas.list.now areas.apart c.args.first c.in-Err.field-0 c.in-Err.ensures.bound position)
