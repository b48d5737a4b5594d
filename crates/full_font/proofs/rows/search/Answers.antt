use Rattle.std.proofs.Common.{rules, sym}
use Rattle.std.proofs.lemmas.List.Sorted.{answers_always}
use Rattle.full_font.proofs.Sorted.{found, absent}
use Rattle.full_font.proofs.rows.search.Goals as goal

pub returns-in-Ok : goal.returns-in-Ok
returns-in-Ok c =
    let position = c.in-Ok.ensures.position (λ row. row.0) (answers_always _ _ _ (λ f a r g called. search rules)) in
    found c.args.rows.now c.requires c.args.code_point c.in-Ok.i c.in-Ok.ensures.bound position

pub returns-in-Err : goal.returns-in-Err
returns-in-Err c =
    let position = c.in-Err.ensures.position (λ row. row.0) (answers_always _ _ _ (λ f a r g called. search rules)) in
    sym (absent c.args.rows.now c.requires c.args.code_point c.in-Err.field-0 c.in-Err.ensures.bound position)
