use Rattle.std.proofs.Common.{◌+◌, [], ◌∷◌, ap}
use Rattle.pdf.specs.Documents.{page_object}
use Rattle.pdf.specs.Units.{unit_of}
use Rattle.pdf.specs.declared.units.PageUnit.{PageUnit}
use Rattle.pdf.proofs.AddedObjects.{added_as}
use Rattle.pdf.proofs.AddedPages.{page_added}
use Rattle.pdf.proofs.pages.put_page.Goals as goal

pub returns : goal.returns
returns g c =
    let unit = c.unit_of.ensures in
    let start = added_as c.put_start.ensures.adds (ap (λ (u : PageUnit). page_object u (c.args.before + 2) ∷ []) unit) in
    record { adds = page_added (unit_of c.args.sheet.now.page.now) start c.put_content-size.ensures.adds c.put_length.ensures.adds }
