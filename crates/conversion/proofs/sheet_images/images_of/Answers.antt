use Rattle.std.proofs.Common.{◌∙◌, ℕ, ap, sym}
use Rattle.page_images.proofs.Counted.{none_before}
use Rattle.conversion.specs.Images.{images_of_sheet}
use Rattle.conversion.proofs.sheet_images.images_of.Goals as goal

pub returns-then-sheet-eq0-clause-images : goal.returns-then-sheet-eq0-clause-images
returns-then-sheet-eq0-clause-images c =
    let images = c.args.images.now in
    none_before images
    ∙ ap (λ (sheet : ℕ). images_of_sheet images c.args.image_ends.now c.args.ends.now c.args.count sheet) (sym c.if-sheet-eq0.true)
