use Rattle.std.proofs.Common.{◌≡◌, ◌∙◌, ap, sym, rules, Bool, true, ℤ, List, Option}
use Rattle.full_settings.specs.WidthParameters.{percent_width}
use Rattle.full_settings.specs.declared.width_setting.WidthSetting.{WidthSetting}
use Rattle.full_notes.specs.Notes.{bad_without, width_noted}
use Rattle.full_plot.specs.Items.{width_steps, widths_steps}
use Rattle.full_plot.specs.Machine.{seen, run}
use Rattle.full_plot.proofs.WidthTables.{first_numbers}
use Rattle.full_plot.proofs.plotter.FullPlotter.take_width.Goals as goal

pub returns-clause-runs : goal.returns-clause-runs
returns-clause-runs c =
    let w = seen c.args.self.now in
    let ns = c.args.numbers.now in
    let on : w.context.in_percent ≡ true = search rules in
    let same : c.percent_setting-setting.result ≡ percent_width ns =
    c.percent_setting-setting.ensures.value ∙ ap (λ (l : List ℤ). percent_width l) c.leading-list.ensures.values ∙ first_numbers ns in
    ap (λ (b : Bool). run w (width_steps b ns)) on ∙ ap (λ (s : Option WidthSetting). run w (widths_steps s)) (sym same) ∙ c.widen_if.ensures

pub returns-clause-noted : goal.returns-clause-noted
returns-clause-noted c =
    let w = seen c.args.self.now in
    let ns = c.args.numbers.now in
    let on : w.context.in_percent ≡ true = search rules in
    let same : c.percent_setting-setting.result ≡ percent_width ns =
    c.percent_setting-setting.ensures.value ∙ ap (λ (l : List ℤ). percent_width l) c.leading-list.ensures.values ∙ first_numbers ns in
    c.bad_without.ensures ∙ ap (λ (s : Option WidthSetting). bad_without s) same ∙ sym (ap (λ (b : Bool). width_noted b ns) on)
