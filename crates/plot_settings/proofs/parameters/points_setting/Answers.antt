use Rattle.std.proofs.Common.{rules, ◌∙◌, ap, sym, FitsSigned, Some}
use mir.Syntax.{w64}
use Rattle.std.proofs.lemmas.Int.{to_z-of_z}
use Rattle.plot_frame.specs.declared.pair.Pair.{Pair}
use Rattle.plot_frame.specs.declared.scaling.Ends.{Ends}
use Rattle.plot_settings.specs.declared.setting.Setting.TheVariants.{BothPoints}
use Rattle.plot_settings.proofs.SettingRanges.{points_by, points_four}
use Rattle.plot_settings.proofs.parameters.points_setting.Goals as goal

pub returns-in-len4-up : goal.returns-in-len4-up
returns-in-len4-up c =
    let ax = c.whole_number-in-len4-up in
    let ay = c.whole_number-in-len4-up-2 in
    let bx = c.whole_number-in-len4-up-3 in
    let by = c.whole_number-in-len4-up-4 in
    let fa : FitsSigned w64 ax.result = search rules in
    let fb : FitsSigned w64 ay.result = search rules in
    let fc : FitsSigned w64 bx.result = search rules in
    let fd : FitsSigned w64 by.result = search rules in
    let e = simp to_z-of_z at c.points_at.ensures in
    ap (λ (p : Pair Ends). Some (BothPoints p)) (e ∙ points_by _ _ _ _ _ _ _ _ ax.ensures.value ay.ensures.value bx.ensures.value by.ensures.value)
    ∙ sym (points_four c.args.numbers.now c.ax-item.result c.ay-item.result c.bx-item.result c.by-item.result c.in-len4-up.len_at_least c.ax-item.is c.ay-item.is c.bx-item.is c.by-item.is)
