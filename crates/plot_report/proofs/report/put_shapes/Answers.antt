use Rattle.std.proofs.Common.{◌∙◌, ◌∷◌, [], ℕ, ap, sym, codes, decimal}
use Rattle.pieces.proofs.Texts.{◌then◌, puts_as}
use Rattle.areas.specs.Shapes.{shapes}
use Rattle.areas.specs.Views.{areas_in}
use Rattle.plot_report.specs.Report.{areas_line, line}
use Rattle.plot_report.proofs.PenLines.{lines_of_shapes}
use Rattle.plot_report.proofs.Plain.{areas_are_counted}
use Rattle.plot_report.proofs.report.put_shapes.Goals as goal

pub returns : goal.returns
returns g c =
    let strokes = c.args.of.strokes.now in
    let areas = areas_in c.args.of.areas in
    let all = shapes strokes areas in
    let summaries = c.summarise-summaries in
    let counted = puts_as c.put_strokes_line.ensures.puts (ap (λ (n : ℕ). line (codes "strokes" ∷ decimal n ∷ [])) summaries.ensures.strokes) in
    let have_areas = puts_as c.put_areas.ensures.puts (ap areas_line (c.count.ensures ∙ sym (areas_are_counted strokes areas))) in
    record { puts = puts_as (counted then have_areas then c.put_image_count.ensures.puts then c.put_pen_lines.ensures.puts) (lines_of_shapes c.args.images summaries.result all summaries.ensures) }
