use Rattle.std.proofs.Common.{◌≡◌, ◌∙◌, ap, sym, ℤ, List, Option}
use Rattle.full_settings.specs.LetterParameters.{letter_direction}
use Rattle.full_settings.specs.declared.letter_setting.LetterSetting.{LetterSetting}
use Rattle.full_plot.specs.Items.{letters_steps}
use Rattle.full_plot.specs.Machine.{seen, run}
use Rattle.full_plot.proofs.WidthTables.{first_direction}
use Rattle.full_plot.proofs.plotter.FullPlotter.do_more.Goals as goal

pub returns-in-Direction : goal.returns-in-Direction
returns-in-Direction c =
    let ns = c.args.numbers.now in
    let same : c.direction_setting.result ≡ letter_direction ns =
    c.direction_setting.ensures.value ∙ ap (λ (l : List ℤ). letter_direction l) c.leading-list.ensures.values ∙ first_direction ns in
    rw c.in-Direction.is (ap (λ (s : Option LetterSetting). run (seen c.args.self.now) (letters_steps s)) (sym same) ∙ c.letter_if.ensures)
