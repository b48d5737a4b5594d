use Rattle.std.proofs.Common.{rules, ◌∙◌, ap₂, sym, ℤ, FitsSigned, take, drop, length, ◌-◌}
use mir.Syntax.{w64}
use Rattle.std.proofs.lemmas.Int.{to_z-of_z}
use Rattle.plot_frame.specs.declared.pair.Pair.{Pair}
use Rattle.plot_frame.specs.declared.scaling.Range.{Range}
use Rattle.plot_settings.specs.Parameters.{scaling_of_type}
use Rattle.plot_settings.proofs.SettingRanges.{scaled_five}
use Rattle.plot_settings.proofs.parameters.scaling_setting.Goals as goal

pub returns-in-len5-up : goal.returns-in-len5-up
returns-in-len5-up c =
    let ns = c.args.numbers.now in
    let f : FitsSigned w64 c.whole_number.result = search rules in
    let e = simp to_z-of_z at c.scaling_of_type.ensures in
    e
    ∙ ap₂ (λ (k : ℤ) (r : Pair Range). scaling_of_type k r (take (length ns - 5) (drop 5 ns))) c.whole_number.ensures.value c.ranges_of-in-len5-up.ensures
    ∙ sym (scaled_five ns c.a-item-2.result c.b-item-2.result c.c-item-2.result c.d-item-2.result c.kind-item.result c.in-len5-up.len_at_least
    c.a-item-2.is c.b-item-2.is c.c-item-2.is c.d-item-2.is c.kind-item.is)
