use Rattle.std.proofs.Common.{rules}
use Rattle.std.proofs.lemmas.List.Sorted.{answers_always}
use Rattle.areas.specs.declared.area.Area.{Area}
use Rattle.areas.proofs.Apart.{place_between, place_found}
use Rattle.areas.proofs.among.Areas.place_near.Goals as goal

pub returns-in-Ok : goal.returns-in-Ok
returns-in-Ok c =
    let areas = c.args.self.now in
    let position = c.in-Ok.ensures.position (λ (a : Area). a.end) (answers_always _ _ _ (λ f a r g called. search rules)) in
    place_found areas.before c.args.number c.in-Ok.at areas.list.now areas.apart c.in-Ok.ensures.bound position

pub returns-in-Err : goal.returns-in-Err
returns-in-Err c =
    let areas = c.args.self.now in
    let position = c.in-Err.ensures.position (λ (a : Area). a.end) (answers_always _ _ _ (λ f a r g called. search rules)) in
    place_between areas.before c.args.number c.in-Err.at areas.list.now areas.apart c.in-Err.ensures.bound position
