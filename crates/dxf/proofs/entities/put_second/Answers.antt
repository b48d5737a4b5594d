use Rattle.std.proofs.Common.{◌++◌, ◌∙◌, Bool, ap, cond, sym}
use Rattle.pieces.proofs.Texts.{◌then◌, puts_as}
use Rattle.dxf.specs.Entities.{polyline_start, single_text, start_vertex}
use Rattle.dxf.proofs.entities.put_second.Goals as goal

pub returns-then-goes_on-clause-puts : goal.returns-then-goes_on-clause-puts
returns-then-goes_on-clause-puts g c =
    let layers = c.args.layers.now in
    let last = c.args.last in
    let next = c.args.next in
    puts_as (c.put_polyline_start.ensures.puts then c.put_vertex.ensures.puts then c.put_vertex-then-goes_on.ensures.puts)
    (ap (λ (b : Bool). cond b (polyline_start layers last ++ start_vertex layers last ++ start_vertex layers next) (single_text layers last)) (sym (sym c.goes_on.ensures ∙ c.if-goes_on.true)))

pub returns-else-goes_on-clause-puts : goal.returns-else-goes_on-clause-puts
returns-else-goes_on-clause-puts g c =
    let layers = c.args.layers.now in
    let last = c.args.last in
    let next = c.args.next in
    puts_as c.put_single.ensures.puts
    (ap (λ (b : Bool). cond b (polyline_start layers last ++ start_vertex layers last ++ start_vertex layers next) (single_text layers last)) (sym (sym c.goes_on.ensures ∙ c.if-goes_on.false)))
