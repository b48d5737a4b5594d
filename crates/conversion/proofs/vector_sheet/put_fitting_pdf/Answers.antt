use Rattle.std.proofs.Common.{◌∙◌}
use Rattle.areas.specs.Views.{areas_in}
use Rattle.conversion.proofs.Vectors.{puts_pdf}
use Rattle.conversion.proofs.vector_sheet.put_fitting_pdf.Goals as goal

pub returns-in-Ok-clause-puts : goal.returns-in-Ok-clause-puts
returns-in-Ok-clause-puts g c =
    let view = c.args.view.now in
    puts_pdf {U = Unit {0}} tt c.args.naming view.page.now view.pens.now view.strokes.now (areas_in view.areas) c.args.ends.now c.as_slice-pages.result.now c.title_kept.result.now _ _ _ _
    (c.as_slice-pages.ensures.value ∙ c.in_ok-pages.ensures.pages) c.title_kept.ensures c.in-Ok.ensures.writes
