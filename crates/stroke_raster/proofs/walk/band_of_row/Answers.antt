use Rattle.std.proofs.Common.{◌<◌, arith, sym}
use Rattle.std.proofs.Math.Nat.{div-eq_of_lt}
use Rattle.stroke_raster.proofs.walk.band_of_row.Goals as goal

pub returns-then-row-band_rows : goal.returns-then-row-band_rows
returns-then-row-band_rows c =
    let h : c.args.row < c.args.band_rows = omega (arith, c.if-row-band_rows.true) in
    sym (div-eq_of_lt h)
