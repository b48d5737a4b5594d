use mir.Syntax.{w128}
use Rattle.std.proofs.lemmas.Int.{ints, to_z-of_z}
use Rattle.std.proofs.Common.{FitsSigned, ◌+ℤ◌, ◌-ℤ◌, pos, ◌∙◌, sym, arith}
use Rattle.image_raster.specs.Placed.{shape}
use Rattle.image_raster.proofs.Extents.{none_left, none_right, none_left_of_left, none_right_of_left}
use Rattle.image_raster.proofs.placed.PlacedImage.columns_reached.Goals as goal

pub returns-then-goes_right-clause-before : goal.returns-then-goes_right-clause-before
returns-then-goes_right-clause-before c page row column h =
    let corner = c.corner_along_x-corner.result in
    let small = c.corner_along_x-corner.ensures.small in
    let fits : FitsSigned w128 corner = omega (arith, ints) in
    none_left (shape c.args.self.now) page c.args.dots row column c.corner_along_x-corner.result (omega (arith, c.number-density.ensures.some, c.number-density.ensures.value))
    c.args.dots.at_least (sym c.goes_right.ensures ∙ c.if-goes_right.true) c.corner_along_x-corner.ensures.value
    (simp to_z-of_z at c.columns_between.ensures.before column h)

pub returns-then-goes_right-clause-after : goal.returns-then-goes_right-clause-after
returns-then-goes_right-clause-after c page row column h k =
    let corner = c.corner_along_x-corner.result in
    let small = c.corner_along_x-corner.ensures.small in
    let fits : FitsSigned w128 corner = omega (arith, ints) in
    let extent = c.extent_of-extent.result in
    let wide = c.extent_of-extent.ensures.small in
    let fits_too : FitsSigned w128 extent = omega (arith, ints) in
    let sum : FitsSigned w128 (corner +ℤ extent) = omega (arith, ints) in
    none_right (shape c.args.self.now) page c.args.dots row column c.corner_along_x-corner.result c.extent_of-extent.result c.count_along_x.result
    c.args.dots.at_least c.count_along_x.ensures c.extent_of-extent.ensures.some (rw (← c.number-density.ensures.value) c.extent_of-extent.ensures.far)
    (sym c.goes_right.ensures ∙ c.if-goes_right.true) c.corner_along_x-corner.ensures.value (simp to_z-of_z at c.columns_between.ensures.after column h k)

pub returns-else-goes_right-clause-before : goal.returns-else-goes_right-clause-before
returns-else-goes_right-clause-before c page row column h =
    let corner = c.corner_along_x-corner.result in
    let small = c.corner_along_x-corner.ensures.small in
    let fits : FitsSigned w128 corner = omega (arith, ints) in
    let extent = c.extent_of-extent.result in
    let wide = c.extent_of-extent.ensures.small in
    let fits_too : FitsSigned w128 extent = omega (arith, ints) in
    let difference : FitsSigned w128 (corner -ℤ extent) = omega (arith, ints) in
    let next : FitsSigned w128 (corner -ℤ extent +ℤ pos 1) = omega (arith, ints) in
    none_left_of_left (shape c.args.self.now) page c.args.dots row column c.corner_along_x-corner.result c.extent_of-extent.result c.count_along_x.result
    c.args.dots.at_least c.count_along_x.ensures c.extent_of-extent.ensures.some (rw (← c.number-density.ensures.value) c.extent_of-extent.ensures.far)
    (sym c.goes_right.ensures ∙ c.if-goes_right.false) c.corner_along_x-corner.ensures.value
    (simp to_z-of_z at c.columns_between-else-goes_right.ensures.before column h)

pub returns-else-goes_right-clause-after : goal.returns-else-goes_right-clause-after
returns-else-goes_right-clause-after c page row column h k =
    let corner = c.corner_along_x-corner.result in
    let small = c.corner_along_x-corner.ensures.small in
    let fits : FitsSigned w128 corner = omega (arith, ints) in
    let next : FitsSigned w128 (corner +ℤ pos 1) = omega (arith, ints) in
    none_right_of_left (shape c.args.self.now) page c.args.dots row column c.corner_along_x-corner.result
    (omega (arith, c.number-density.ensures.some, c.number-density.ensures.value)) c.args.dots.at_least
    (sym c.goes_right.ensures ∙ c.if-goes_right.false) c.corner_along_x-corner.ensures.value
    (simp to_z-of_z at c.columns_between-else-goes_right.ensures.after column h k)
