use Rattle.std.proofs.Common.{◌∙◌, ◌||◌, ℕ, Bool, ap, false, arith}
use Rattle.std.specs.List.{list_any}
use Rattle.std.proofs.lemmas.List.{get_or-replicate}
use Rattle.labels.specs.Sheets.{all_counted}
use Rattle.pdf.specs.Texts.{is_marked, shows_row}
use Rattle.pdf.proofs.DrawnPens.{filter_below}
use Rattle.pdf.proofs.rows.list_rows.Goals as goal

pub returns-clause-list : goal.returns-clause-list
returns-clause-list c =
    let view = c.args.view.now in
    let labels = all_counted view.before view.labels.now in
    let shown : ℕ → Bool = λ row. list_any (shows_row view.pens.now view.strokes.now row) labels in
    c.list_marked.ensures.list
    ∙ filter_below (is_marked c.mark_labels.new.marked) shown 256 0 256
    (λ row lt. c.mark_labels.ensures row lt ∙ ap (λ (b : Bool). b || shown row) (get_or-replicate 256 row false false lt)) (omega arith)
