use Rattle.std.proofs.Common.{rules, ◌∙◌, ap₂, sym, ℤ, FitsSigned}
use mir.Syntax.{w64}
use Rattle.std.proofs.lemmas.Int.{to_z-of_z}
use Rattle.plot_settings.specs.Parameters.{isotropic}
use Rattle.plot_settings.proofs.SettingRanges.{isotropic_two}
use Rattle.plot_settings.proofs.parameters.isotropic.Goals as goal

pub returns-in-len2-up : goal.returns-in-len2-up
returns-in-len2-up c =
    let l = c.millionths-in-len2-up in
    let b = c.millionths-in-len2-up-2 in
    let fl : FitsSigned w64 l.result = search rules in
    let fb : FitsSigned w64 b.result = search rules in
    let e = simp to_z-of_z at c.fitted-in-len2-up.ensures in
    e
    ∙ ap₂ (λ (x y : ℤ). isotropic c.args.ranges x y) l.ensures.value b.ensures.value
    ∙ sym (isotropic_two c.args.ranges c.args.percents.now c.left-item-2.result c.bottom-item.result c.in-len2-up.len_at_least c.left-item-2.is c.bottom-item.is)
