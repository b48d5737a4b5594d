use Rattle.std.proofs.Common.{◌≡◌, ◌∙◌, List, ap}
use Rattle.labels.specs.Labels.{LabelShape, LineShape}
use Rattle.pieces.proofs.Texts.{◌then◌, puts_as}
use Rattle.svg.specs.Titles.{lines_text, title_text}
use Rattle.svg.proofs.parts.put_group.Goals as goal

pub returns : goal.returns
returns g c =
    let same : c.deref.result.now ≡ c.args.label.now.lines = c.deref.ensures.value ∙ ap (λ (l : LabelShape). l.lines) c.label.view_is in
    let title = puts_as c.put_title.ensures.puts (ap (λ (ls : List LineShape). title_text (lines_text ls)) same) in
    record { puts = c.put.ensures.puts then title then c.put_strokes.ensures.puts then c.put-2.ensures.puts }
