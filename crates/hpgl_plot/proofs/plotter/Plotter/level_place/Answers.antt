use Rattle.std.proofs.Common.{rules, arith, ◌≤◌, ◌^◌, ℤ, ◌+ℤ◌, nat_abs, FitsSigned}
use mir.Syntax.{w64, w128}
use Rattle.std.proofs.lemmas.Int.{ints, to_z-of_z}
use Rattle.plot_page.specs.declared.stroke.TheConstants.{FARTHEST_END}
use Rattle.hpgl_plot.proofs.Letters.{level_place_is}
use Rattle.hpgl_plot.proofs.plotter.Plotter.level_place.Goals as goal

-- a place in range, an offset on the page and their sum fit 64 bits
place_fits : (p : ℤ) → nat_abs p ≤ FARTHEST_END → FitsSigned w64 p
place_fits p h = omega (arith, ints)

offset_fits : (o : ℤ) → nat_abs o ≤ 2 ^ 60 → FitsSigned w64 o
offset_fits o h = omega (arith, ints)

sum_fits : (p o : ℤ) → nat_abs p ≤ FARTHEST_END → nat_abs o ≤ 2 ^ 60 → FitsSigned w64 (p +ℤ o)
sum_fits p o h k = omega (arith, ints)

pub returns : goal.returns
returns c =
    let s = c.args.self.now.state in
    let o = c.short_offset-on_page.result in
    let hp = c.args.self.now.sound.place in
    let most = c.args.self.now.sound.range_in.most in
    let px : nat_abs s.place.x ≤ FARTHEST_END = omega (arith, hp.x_in, most) in
    let py : nat_abs s.place.y ≤ FARTHEST_END = omega (arith, hp.y_in, most) in
    let ox = c.short_offset-on_page.ensures.x_in in
    let oy = c.short_offset-on_page.ensures.y_in in
    let f1 : FitsSigned w64 s.place.x = place_fits s.place.x px in
    let f2 : FitsSigned w64 s.place.y = place_fits s.place.y py in
    let f3 : FitsSigned w64 o.x = offset_fits o.x ox in
    let f4 : FitsSigned w64 o.y = offset_fits o.y oy in
    let f5 : FitsSigned w64 (s.place.x +ℤ o.x) = sum_fits s.place.x o.x px ox in
    let f6 : FitsSigned w64 (s.place.y +ℤ o.y) = sum_fits s.place.y o.y py oy in
    let g1 : FitsSigned w128 s.place.x = search rules in
    let g2 : FitsSigned w128 s.place.y = search rules in
    let g3 : FitsSigned w128 o.x = search rules in
    let g4 : FitsSigned w128 o.y = search rules in
    let fx : FitsSigned w128 c.from.result = search rules in
    let fy : FitsSigned w128 c.from-2.result = search rules in
    let ex = simp to_z-of_z at c.from.ensures in
    let ey = simp to_z-of_z at c.from-2.ensures in
    simp to_z-of_z (rw (ex, ey) (level_place_is s c.args.point o c.short_offset-on_page.ensures.value c.requires.level))
