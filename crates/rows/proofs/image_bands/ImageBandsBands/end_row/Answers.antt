use Rattle.std.proofs.Common.{arith}
use Rattle.rows.proofs.BitRows.{few_rows}
use Rattle.rows.proofs.image_bands.ImageBandsBands.end_row.Goals as goal

pub returns-clause-most : goal.returns-clause-most
returns-clause-most c =
    let p = c.self.inside.painter in
    omega (arith, c.end_row.ensures.within, few_rows p.page.height p.dots.resolution (omega (arith, p.page.height_in)) (omega (arith, p.dots.at_most)))
