use Rattle.std.proofs.Common.{◌≤◌, ◌<◌, arith, FitsSigned}
use mir.Syntax.{w64}
use Rattle.std.proofs.lemmas.Int.{ints, to_z-of_z}
use Rattle.stroke_raster.proofs.edges.beside_rows.Goals as goal

pub returns-clause-beside : goal.returns-clause-beside
returns-clause-beside c =
    let s = c.beside_sides-sides.ensures in
    let f : FitsSigned w64 c.beside_sides-sides.result.low = omega (arith, ints, s.low_small) in
    let g : FitsSigned w64 c.beside_sides-sides.result.high = omega (arith, ints, s.high_small) in
    let p = c.places_between-places.ensures in
    let from = simp to_z-of_z at p.from in
    let to = simp to_z-of_z at p.to in
    λ row u v.
    let low : c.places_between-places.result.low ≤ row = omega (arith, u, v, c.max.ensures, c.min-low.ensures, c.min.ensures, c.max-2.ensures, c.requires.order) in
    let end : row < c.places_between-places.result.end = omega (arith, u, v, c.max.ensures, c.min-low.ensures, c.min.ensures, c.max-2.ensures, c.requires.order) in
    s.beside row (from row low end) (to row end)
