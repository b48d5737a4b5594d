use Rattle.std.proofs.Common.{arith}
use Rattle.rows.proofs.BitRows.{few_rows}
use Rattle.rows.proofs.bit_bands.InkerBands.end_row.Goals as goal

pub returns-clause-most : goal.returns-clause-most
returns-clause-most c =
    let p = c.args.self.now in
    omega (arith, c.end_row.ensures.within, few_rows p.page.height p.dots.resolution (omega (arith, p.page.height_in)) (omega (arith, p.dots.at_most)))
