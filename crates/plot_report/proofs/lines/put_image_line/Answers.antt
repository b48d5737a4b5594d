use Rattle.std.proofs.Common.{ℕ, List, [], ◌∷◌, ap, ◌∙◌, codes, decimal}
use Rattle.page_images.specs.PageImages.{ImageShape}
use Rattle.pieces.proofs.Texts.{◌then◌, puts_as}
use Rattle.plot_report.specs.Report.{corner_words, line, summary_of}
use Rattle.plot_report.specs.declared.summary.StrokeSummary.{StrokeSummary}
use Rattle.plot_report.proofs.lines.put_image_line.Goals as goal

-- the line with these numbers
words : ℕ → ℕ → ℕ → StrokeSummary → List ℕ
words width rows density box =
    line (codes "image" ∷ decimal width ∷ decimal rows ∷ decimal density ∷ codes "box" ∷ corner_words box)

pub returns : goal.returns
unfolding words
returns g c =
    let puts = c.put.ensures.puts then (c.put_number.ensures.puts then (c.put_number-2.ensures.puts then (c.put_number-3.ensures.puts then c.put_box.ensures.puts))) then c.put-2.ensures.puts in
    let density = c.number.ensures.value ∙ ap (λ (i : ImageShape). i.image.settings.resolution) c.image.view_is in
    let box = c.of_one.ensures ∙ ap (λ (i : ImageShape). summary_of (i.frame ∷ [])) c.image.view_is in
    record { puts = puts_as puts (λ k. words (c.image.view_is k).image.width (c.rows.ensures k) (density k) (box k)) }
