use Rattle.std.proofs.Common.{◌≡◌, ◌∙◌, ◌++◌, ◌∷◌, [], ℕ, List, ap, sym, cond, filter, arith}
use Rattle.std.specs.List.{range_with_len}
use Rattle.pdf.specs.Texts.{is_marked}
use Rattle.pdf.proofs.DrawnPens.{filter_next}
use Rattle.pdf.proofs.rows.list_marked.Goals as goal

pub loop-row-preserved : goal.loop-row-preserved
loop-row-preserved c =
    let row = c.loop-row.row in
    let listed = is_marked c.args.marked.now in
    record {
      list = c.append_if-count.ensures.list ∙ ap (λ (z : List ℕ). z ++ cond (listed row) (row ∷ []) []) c.loop-row.invariant.list ∙ sym (filter_next listed row);
      few = omega (arith, c.append_if-count.ensures.few, c.loop-row.invariant.few);
      within = omega (arith, c.loop-row-test.true);
    }

pub returns-clause-list : goal.returns-clause-list
returns-clause-list c =
    let end : c.loop-row.row ≡ 256 = omega (arith, c.loop-row.invariant.within, c.loop-row-test.false) in
    c.loop-row.invariant.list ∙ ap (λ (k : ℕ). filter (is_marked c.args.marked.now) (range_with_len 0 k)) end
