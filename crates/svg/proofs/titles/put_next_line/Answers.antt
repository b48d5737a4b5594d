use Rattle.std.proofs.Common.{◌≡◌, ◌∙◌, ap}
use Rattle.labels.specs.Labels.{LineShape}
use Rattle.pieces.proofs.Texts.{◌then◌, puts_as}
use Rattle.svg.specs.Titles.{character_text, text_bytes}
use Rattle.svg.proofs.titles.put_next_line.Goals as goal

pub returns : goal.returns
returns g c =
    let same : c.deref.result.now ≡ c.args.line.now.text = c.deref.ensures.value ∙ ap (λ (l : LineShape). l.text) c.line.view_is in
    let feed = puts_as c.put_character.ensures.puts (ap character_text c.character.ensures) in
    record { puts = feed then puts_as c.put_characters.ensures.puts (ap text_bytes same) }
