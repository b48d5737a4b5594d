use Rattle.std.proofs.Common.{◌∙◌, ap, sym, drop}
use Rattle.hpgl_text.specs.Numbers.{ends_numbers, numbers, past_numbers}
use Rattle.hpgl_text.specs.Shapes.{ItemShape}
use Rattle.plot_size.specs.Measures.{sides_measured}
use Rattle.plot_size.specs.Sizes.{sides_in}
use Rattle.plot_size.proofs.Reading.{item_asks, same_sides_if}
use Rattle.plot_size.proofs.asked.page_of_item.Goals as goal

pub returns : goal.returns
returns c =
    let page = c.args.page.now in
    let longest = c.args.longest in
    let text = c.after-text.ensures ∙ ap (drop 2) c.after.ensures in
    let code = ap (λ (i : ItemShape). i.code) c.item.view_is in
    let at = ap (λ (i : ItemShape). i.at) c.item.view_is in
    c.page_measured.ensures
    ∙ ap (sides_measured longest page) c.measures_in.ensures
    ∙ same_sides_if longest page (ends_numbers (past_numbers c.after-text.result.now)) (numbers c.after-text.result.now)
    ∙ ap (sides_in longest page) text
    ∙ sym (item_asks longest page c.args.plot.now c.args.item.now c.item.inside.code c.item.inside.at code at (sym c.is_plot_size.ensures ∙ c.if-not-is_plot_size.false))
