use Rattle.std.proofs.Common.{rules, ◌∙◌, sym, FitsSigned}
use mir.Syntax.{w64}
use Rattle.std.proofs.lemmas.Int.{to_z-of_z}
use Rattle.plot_settings.proofs.SettingRanges.{colours_by, colour_four}
use Rattle.plot_settings.proofs.parameters.colour_setting.Goals as goal

pub returns-in-len4-up : goal.returns-in-len4-up
returns-in-len4-up c =
    let p = c.whole_number-in-len4-up in
    let r = c.whole_number-in-len4-up-2 in
    let g = c.whole_number-in-len4-up-3 in
    let b = c.whole_number-in-len4-up-4 in
    let fp : FitsSigned w64 p.result = search rules in
    let fr : FitsSigned w64 r.result = search rules in
    let fg : FitsSigned w64 g.result = search rules in
    let fb : FitsSigned w64 b.result = search rules in
    let e = simp to_z-of_z at c.colour_of_pen.ensures in
    e
    ∙ colours_by _ _ _ _ _ _ _ _ p.ensures.value r.ensures.value g.ensures.value b.ensures.value
    ∙ sym (colour_four c.args.numbers.now c.pen-item-2.result c.red-item.result c.green-item.result c.blue-item.result c.in-len4-up.len_at_least c.pen-item-2.is c.red-item.is c.green-item.is c.blue-item.is)
