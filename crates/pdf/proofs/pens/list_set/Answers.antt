use Rattle.std.proofs.Common.{◌∙◌, ◌++◌, ◌∷◌, [], ℕ, Bool, List, ap, sym, cond, filter, arith}
use Rattle.std.specs.List.{range_with_len}
use Rattle.plot_page.specs.Pens.{has_pen}
use Rattle.pdf.proofs.DrawnPens.{filter_next}
use Rattle.pdf.proofs.pens.list_set.Goals as goal

pub loop-pen-preserved : goal.loop-pen-preserved
loop-pen-preserved c =
    let pen = c.loop-pen.pen in
    let listed = has_pen c.args.set.now in
    record {
      list = c.append_if-count.ensures.list ∙ ap (λ (z : List ℕ). z ++ cond c.has.result (pen ∷ []) []) c.loop-pen.invariant.list
          ∙ ap (λ (b : Bool). filter listed (range_with_len 0 pen) ++ cond b (pen ∷ []) []) c.has.ensures ∙ sym (filter_next listed pen);
      few = omega (arith, c.append_if-count.ensures.few, c.loop-pen.invariant.few);
    }
