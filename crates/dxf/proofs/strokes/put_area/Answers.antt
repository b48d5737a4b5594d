use Rattle.std.proofs.Common.{◌++◌, ◌∙◌, [], Bool, ap, cond, sym}
use Rattle.std.specs.List.{list_all}
use Rattle.pieces.proofs.Texts.{◌then◌, none_put, puts_as}
use Rattle.dxf.specs.Chains.{edge_marks}
use Rattle.dxf.specs.Cuts.{is_whole}
use Rattle.dxf.specs.Steps.{end_text, left_text}
use Rattle.dxf.specs.declared.chains.Pending.TheVariants.{Nothing}
use Rattle.dxf.proofs.strokes.put_area.Goals as goal

pub returns-then-begins_drawn : goal.returns-then-begins_drawn
returns-then-begins_drawn g c =
    let layers = c.args.layers.now in
    let edges = c.args.edges.now in
    let is = sym (sym c.begins_drawn.ensures ∙ c.if-begins_drawn.true) in
    let whole = puts_as c.put_edges.ensures.puts (ap (λ (b : Bool). left_text layers Nothing (edge_marks b edges)) c.are_whole.ensures) in
    record {
      puts = puts_as (c.put_end.ensures.puts then whole)
          (ap (λ (b : Bool). cond b (end_text layers c.args.pending ++ left_text layers Nothing (edge_marks (list_all is_whole edges) edges)) []) is);
      after = ap (λ (b : Bool). cond b Nothing c.args.pending) is;
    }

pub returns-else-begins_drawn : goal.returns-else-begins_drawn
returns-else-begins_drawn g c =
    let layers = c.args.layers.now in
    let edges = c.args.edges.now in
    let is = sym (sym c.begins_drawn.ensures ∙ c.if-begins_drawn.false) in
    record {
      puts = puts_as (none_put c.requires.sound)
          (ap (λ (b : Bool). cond b (end_text layers c.args.pending ++ left_text layers Nothing (edge_marks (list_all is_whole edges) edges)) []) is);
      after = ap (λ (b : Bool). cond b Nothing c.args.pending) is;
    }
