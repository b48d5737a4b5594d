use Rattle.std.proofs.Common.{arith, FitsSigned}
use Rattle.std.proofs.lemmas.Int.{ints, to_z-of_z}
use mir.Syntax.{w32, w64}
use Rattle.stroke_raster.proofs.FillRows.{window_held}
use Rattle.stroke_raster.proofs.placed_area.columns_in.Goals as goal

-- the facts let `simp` drop the conversions of numbers that fit
pub returns-clause-columns : goal.returns-clause-columns
returns-clause-columns c =
    let x0 : FitsSigned w32 c.args.window.x0 = omega (arith, ints, c.requires.x0) in
    let x1 : FitsSigned w32 c.args.window.x1 = omega (arith, ints, c.requires.x1) in
    let l : FitsSigned w64 c.doubled-low.result = omega (arith, ints, c.doubled-low.ensures.small) in
    let h : FitsSigned w64 c.doubled-high.result = omega (arith, ints, c.doubled-high.ensures.small) in
    let low = simp to_z-of_z at c.doubled-low.ensures.value in
    let high = simp to_z-of_z at c.doubled-high.ensures.value in
    λ k u.
    let held = simp to_z-of_z at (c.places_between.ensures.holds k) in
    let from = simp to_z-of_z at (c.places_between.ensures.from k) in
    let to = simp to_z-of_z at (c.places_between.ensures.to k) in
    window_held c.args.dots.resolution c.args.window.x0 c.args.window.x1 c.places_between.result k
    (λ a b. held (omega (arith, u, c.columns.ensures.count)) (omega (arith, ints, a, low)) (omega (arith, ints, b, high)))
    (λ a b. let f = from a b in omega (arith, ints, f, low))
    (λ b. let t = to b in omega (arith, ints, t, high))
