use Rattle.std.proofs.Common.{◌≡◌, pos, ℤ, ◌-ℤ◌, ◌*ℤ◌, refl, ap, arith, rules, FitsSigned}
use mir.Syntax.{w32, w64, w128}
use Rattle.std.proofs.lemmas.Int.{ints, to_z-of_z}
use Rattle.areas.proofs.SweptEdges.{divided_edge}
use Rattle.areas.proofs.swept_edge.SweptEdge.between.Goals as goal

pub overflow_sub-height : goal.overflow_sub-height
overflow_sub-height c =
    let fh : FitsSigned w64 c.args.height = search rules in
    let ax : FitsSigned w32 c.args.ax = search rules in
    let ay : FitsSigned w32 c.args.ay = search rules in
    let bx : FitsSigned w32 c.args.bx = search rules in
    let by : FitsSigned w32 c.args.by = search rules in
    let fs : FitsSigned w64 c.scaled-2.result = omega (arith, ints, c.scaled-2.ensures.within) in
    let fx : FitsSigned w64 c.scaled.result = omega (arith, ints, c.scaled.ensures.within) in
    let fu : FitsSigned w64 c.difference-run.result = omega (arith, ints, c.difference-run.ensures.within) in
    let fr : FitsSigned w64 c.difference-rise.result = omega (arith, ints, c.difference-rise.ensures.within) in
    let fa : FitsSigned w64 (c.args.height -ℤ c.scaled-2.result) = omega (arith, ints, c.scaled-2.ensures.within, c.requires.near) in
    simp to_z-of_z (omega (arith, ints, c.scaled-2.ensures.within, c.requires.near))

pub place_of-place-requires-clause-above : goal.place_of-place-requires-clause-above
place_of-place-requires-clause-above c =
    let fh : FitsSigned w64 c.args.height = search rules in
    let ax : FitsSigned w32 c.args.ax = search rules in
    let ay : FitsSigned w32 c.args.ay = search rules in
    let bx : FitsSigned w32 c.args.bx = search rules in
    let by : FitsSigned w32 c.args.by = search rules in
    let fs : FitsSigned w64 c.scaled-2.result = omega (arith, ints, c.scaled-2.ensures.within) in
    let fx : FitsSigned w64 c.scaled.result = omega (arith, ints, c.scaled.ensures.within) in
    let fu : FitsSigned w64 c.difference-run.result = omega (arith, ints, c.difference-run.ensures.within) in
    let fr : FitsSigned w64 c.difference-rise.result = omega (arith, ints, c.difference-rise.ensures.within) in
    let fa : FitsSigned w64 (c.args.height -ℤ c.scaled-2.result) = omega (arith, ints, c.scaled-2.ensures.within, c.requires.near) in
    simp to_z-of_z (omega (arith, ints, c.scaled-2.ensures.within, c.requires.near))

pub overflow_sub-place : goal.overflow_sub-place
overflow_sub-place c =
    let fh : FitsSigned w64 c.args.height = search rules in
    let ax : FitsSigned w32 c.args.ax = search rules in
    let ay : FitsSigned w32 c.args.ay = search rules in
    let bx : FitsSigned w32 c.args.bx = search rules in
    let by : FitsSigned w32 c.args.by = search rules in
    let fs : FitsSigned w64 c.scaled-2.result = omega (arith, ints, c.scaled-2.ensures.within) in
    let fx : FitsSigned w64 c.scaled.result = omega (arith, ints, c.scaled.ensures.within) in
    let fu : FitsSigned w64 c.difference-run.result = omega (arith, ints, c.difference-run.ensures.within) in
    let fr : FitsSigned w64 c.difference-rise.result = omega (arith, ints, c.difference-rise.ensures.within) in
    let fa : FitsSigned w64 (c.args.height -ℤ c.scaled-2.result) = omega (arith, ints, c.scaled-2.ensures.within, c.requires.near) in
    let fp : FitsSigned w128 c.place_of-place.result = omega (arith, ints, c.place_of-place.ensures.within) in
    let fm : FitsSigned w128 (pos 0 -ℤ c.place_of-place.result) = omega (arith, ints, c.place_of-place.ensures.within) in
    simp to_z-of_z (omega (arith, ints, c.place_of-place.ensures.within))

pub divide_far-before-requires-clause-within : goal.divide_far-before-requires-clause-within
divide_far-before-requires-clause-within c =
    let fh : FitsSigned w64 c.args.height = search rules in
    let ax : FitsSigned w32 c.args.ax = search rules in
    let ay : FitsSigned w32 c.args.ay = search rules in
    let bx : FitsSigned w32 c.args.bx = search rules in
    let by : FitsSigned w32 c.args.by = search rules in
    let fs : FitsSigned w64 c.scaled-2.result = omega (arith, ints, c.scaled-2.ensures.within) in
    let fx : FitsSigned w64 c.scaled.result = omega (arith, ints, c.scaled.ensures.within) in
    let fu : FitsSigned w64 c.difference-run.result = omega (arith, ints, c.difference-run.ensures.within) in
    let fr : FitsSigned w64 c.difference-rise.result = omega (arith, ints, c.difference-rise.ensures.within) in
    let fa : FitsSigned w64 (c.args.height -ℤ c.scaled-2.result) = omega (arith, ints, c.scaled-2.ensures.within, c.requires.near) in
    let fp : FitsSigned w128 c.place_of-place.result = omega (arith, ints, c.place_of-place.ensures.within) in
    let fm : FitsSigned w128 (pos 0 -ℤ c.place_of-place.result) = omega (arith, ints, c.place_of-place.ensures.within) in
    simp to_z-of_z (omega (arith, ints, c.place_of-place.ensures.within))

pub divide_far-before-requires-clause-above : goal.divide_far-before-requires-clause-above
divide_far-before-requires-clause-above c =
    let fh : FitsSigned w64 c.args.height = search rules in
    let ax : FitsSigned w32 c.args.ax = search rules in
    let ay : FitsSigned w32 c.args.ay = search rules in
    let bx : FitsSigned w32 c.args.bx = search rules in
    let by : FitsSigned w32 c.args.by = search rules in
    let fs : FitsSigned w64 c.scaled-2.result = omega (arith, ints, c.scaled-2.ensures.within) in
    let fx : FitsSigned w64 c.scaled.result = omega (arith, ints, c.scaled.ensures.within) in
    let fu : FitsSigned w64 c.difference-run.result = omega (arith, ints, c.difference-run.ensures.within) in
    let fr : FitsSigned w64 c.difference-rise.result = omega (arith, ints, c.difference-rise.ensures.within) in
    let fa : FitsSigned w64 (c.args.height -ℤ c.scaled-2.result) = omega (arith, ints, c.scaled-2.ensures.within, c.requires.near) in
    let fw : FitsSigned w64 c.pixel_of.result = omega (arith, ints, c.pixel_of.ensures.within) in
    let pixel = simp to_z-of_z at c.pixel_of.ensures.value in
    let rising = c.requires.rising in
    simp to_z-of_z (omega (arith, ints, pixel, rising))

pub overflow_sub-result : goal.overflow_sub-result
overflow_sub-result c =
    let ft : FitsSigned w64 c.divide_far-before.result.times = omega (arith, ints, c.divide_far-before.ensures.within) in
    simp to_z-of_z (omega (arith, ints, c.divide_far-before.ensures.within))

pub returns : goal.returns
returns c =
    let fh : FitsSigned w64 c.args.height = search rules in
    let ax : FitsSigned w32 c.args.ax = search rules in
    let ay : FitsSigned w32 c.args.ay = search rules in
    let bx : FitsSigned w32 c.args.bx = search rules in
    let by : FitsSigned w32 c.args.by = search rules in
    let fs : FitsSigned w64 c.scaled-2.result = omega (arith, ints, c.scaled-2.ensures.within) in
    let fx : FitsSigned w64 c.scaled.result = omega (arith, ints, c.scaled.ensures.within) in
    let fu : FitsSigned w64 c.difference-run.result = omega (arith, ints, c.difference-run.ensures.within) in
    let fr : FitsSigned w64 c.difference-rise.result = omega (arith, ints, c.difference-rise.ensures.within) in
    let fa : FitsSigned w64 (c.args.height -ℤ c.scaled-2.result) = omega (arith, ints, c.scaled-2.ensures.within, c.requires.near) in
    let fp : FitsSigned w128 c.place_of-place.result = omega (arith, ints, c.place_of-place.ensures.within) in
    let fm : FitsSigned w128 (pos 0 -ℤ c.place_of-place.result) = omega (arith, ints, c.place_of-place.ensures.within) in
    let fw : FitsSigned w64 c.pixel_of.result = omega (arith, ints, c.pixel_of.ensures.within) in
    let pixel = simp to_z-of_z at c.pixel_of.ensures.value in
    let ft : FitsSigned w64 c.divide_far-before.result.times = omega (arith, ints, c.divide_far-before.ensures.within) in
    let fk : FitsSigned w64 (pos 0 -ℤ c.divide_far-before.result.times) = omega (arith, ints, c.divide_far-before.ensures.within) in
    let run = simp to_z-of_z at c.difference-run.ensures.value in
    let rise = simp to_z-of_z at c.difference-rise.ensures.value in
    let x = simp to_z-of_z at c.scaled.ensures.value in
    let y = simp to_z-of_z at c.scaled-2.ensures.value in
    let place = simp to_z-of_z at c.place_of-place.ensures.value in
    let slope = c.divide_down-slope in
    let before = c.divide_far-before in
    let fe : FitsSigned w64 before.result.rest = omega (arith, ints, before.ensures.low, before.ensures.high, c.pixel_of.ensures.within) in
    let fg : FitsSigned w64 slope.result.rest = omega (arith, ints, slope.ensures.low, slope.ensures.high, c.difference-rise.ensures.within) in
    let fo : FitsSigned w64 slope.result.times = omega (arith, ints, slope.ensures.within) in
    let a = simp to_z-of_z at before.ensures.is in
    let b = simp to_z-of_z at before.ensures.high in
    let d = simp to_z-of_z at slope.ensures.is in
    let e = simp to_z-of_z at slope.ensures.high in
    let above : c.args.height -ℤ c.scaled-2.result ≡ c.args.height -ℤ pos c.args.dots.resolution *ℤ c.args.ay = ap (λ (z : ℤ). c.args.height -ℤ z) y in
    let low = slope.ensures.low in
    let short = before.ensures.low in
    let rising = c.requires.rising in
    simp to_z-of_z (record {
      ax = refl;
      ay = refl;
      bx = refl;
      by = refl;
      direction = refl;
      in_row = divided_edge c.args.dots.resolution c.args.height _ before.result.times c.requires.low_x c.requires.low_y c.requires.high_x c.requires.high_y
          rising (rw (run, rise) at d) low (rw rise at e) (omega (arith, ints)) (rw (pixel, place, x, above, run, rise) at a) short (rw pixel at b);
    })
