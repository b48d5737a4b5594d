use Rattle.std.proofs.Common.{◌++◌, ◌∙◌, Bool, ap, codes, cond, sym}
use Rattle.pieces.proofs.Texts.{◌then◌, puts_as}
use Rattle.dxf.specs.Entities.{entity_start, point_text}
use Rattle.dxf.proofs.entities.put_single.Goals as goal

pub returns-then-is_same_point : goal.returns-then-is_same_point
returns-then-is_same_point g c =
    let layers = c.args.layers.now in
    let p = c.args.piece.now in
    let point = entity_start (codes "POINT") layers p ++ point_text 10 20 p.from in
    let line = entity_start (codes "LINE") layers p ++ point_text 10 20 p.from ++ point_text 11 21 p.to in
    record {
      puts = puts_as (c.put_start.ensures.puts then c.put_point.ensures.puts)
          (ap (λ (b : Bool). cond b point line) (sym (sym c.is_same_point.ensures ∙ c.if-is_same_point.true)));
    }

pub returns-else-is_same_point : goal.returns-else-is_same_point
returns-else-is_same_point g c =
    let layers = c.args.layers.now in
    let p = c.args.piece.now in
    let point = entity_start (codes "POINT") layers p ++ point_text 10 20 p.from in
    let line = entity_start (codes "LINE") layers p ++ point_text 10 20 p.from ++ point_text 11 21 p.to in
    record {
      puts = puts_as (c.put_start-else-is_same_point.ensures.puts then c.put_point-else-is_same_point.ensures.puts then c.put_point-else-is_same_point-2.ensures.puts)
          (ap (λ (b : Bool). cond b point line) (sym (sym c.is_same_point.ensures ∙ c.if-is_same_point.false)));
    }
