use Rattle.std.proofs.Common.{◌∙◌, [], Bool, Option, ap, cond, false, sym}
use Rattle.pieces.proofs.Texts.{none_put, puts_as}
use Rattle.plot_page.specs.Segments.{Segment}
use Rattle.dxf.specs.Chains.{piece_of}
use Rattle.dxf.specs.Steps.{after_if, text_if}
use Rattle.dxf.specs.declared.chains.Piece.{Piece}
use Rattle.dxf.proofs.strokes.put_stroke.Goals as goal

pub returns-then-is_drawn : goal.returns-then-is_drawn
returns-then-is_drawn g c =
    let layers = c.args.layers.now in
    let pending = c.args.pending in
    let s = c.args.stroke.now in
    let is = sym (sym c.is_drawn.ensures ∙ c.if-is_drawn.true) in
    let piece = c.piece_of.ensures ∙ ap (λ (t : Segment). piece_of t.width false s) c.stroke.view_is in
    record {
      puts = puts_as c.put_next.ensures.puts
          (ap (λ (o : Option Piece). text_if layers pending o) piece ∙ ap (λ (b : Bool). cond b (text_if layers pending (piece_of s.width false s)) []) is);
      after = c.put_next.ensures.after ∙ ap (λ (o : Option Piece). after_if pending o) piece
          ∙ ap (λ (b : Bool). cond b (after_if pending (piece_of s.width false s)) pending) is;
    }

pub returns-else-is_drawn : goal.returns-else-is_drawn
returns-else-is_drawn g c =
    let layers = c.args.layers.now in
    let pending = c.args.pending in
    let s = c.args.stroke.now in
    let is = sym (sym c.is_drawn.ensures ∙ c.if-is_drawn.false) in
    record {
      puts = puts_as (none_put c.requires.sound) (ap (λ (b : Bool). cond b (text_if layers pending (piece_of s.width false s)) []) is);
      after = ap (λ (b : Bool). cond b (after_if pending (piece_of s.width false s)) pending) is;
    }
