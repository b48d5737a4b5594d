use Rattle.std.proofs.Common.{ap₂, ◌∙◌, int_lt, arith}
use mir.Syntax.{w64}
use Rattle.std.proofs.lemmas.Int.{to_z-of_z, fits_signed_from_abs}
use Rattle.polygons.proofs.Ends.{ways, crossing_is}
use Rattle.polygons.proofs.ruling.Ruling.crossing.Goals as goal

pub overflow_mul-level : goal.overflow_mul-level
overflow_mul-level c =
    let k = ways c.args.self.now.lines c.args.line c.args.edge.now c.height.result c.height-2.result c.from-below.result c.from-above.result c.from.result c.line_distance.result
    c.requires.line_in c.requires.crosses c.height.ensures.value c.height.ensures.most c.from-below.ensures
    c.height-2.ensures.value c.height-2.ensures.most c.from-above.ensures c.from.ensures c.line_distance.ensures.value c.line_distance.ensures.most in
    k.level_fits

pub overflow_sub-level : goal.overflow_sub-level
overflow_sub-level c =
    let k = ways c.args.self.now.lines c.args.line c.args.edge.now c.height.result c.height-2.result c.from-below.result c.from-above.result c.from.result c.line_distance.result
    c.requires.line_in c.requires.crosses c.height.ensures.value c.height.ensures.most c.from-below.ensures
    c.height-2.ensures.value c.height-2.ensures.most c.from-above.ensures c.from.ensures c.line_distance.ensures.value c.line_distance.ensures.most in
    k.way_fits

pub moved-place-requires : goal.moved-place-requires
moved-place-requires c =
    let k = ways c.args.self.now.lines c.args.line c.args.edge.now c.height.result c.height-2.result c.from-below.result c.from-above.result c.from.result c.line_distance.result
    c.requires.line_in c.requires.crosses c.height.ensures.value c.height.ensures.most c.from-below.ensures
    c.height-2.ensures.value c.height-2.ensures.most c.from-above.ensures c.from.ensures c.line_distance.ensures.value c.line_distance.ensures.most in
    rw (k.way_is, k.whole_is) k.part

pub returns : goal.returns
returns c =
    let k = ways c.args.self.now.lines c.args.line c.args.edge.now c.height.result c.height-2.result c.from-below.result c.from-above.result c.from.result c.line_distance.result
    c.requires.line_in c.requires.crosses c.height.ensures.value c.height.ensures.most c.from-below.ensures
    c.height-2.ensures.value c.height-2.ensures.most c.from-above.ensures c.from.ensures c.line_distance.ensures.value c.line_distance.ensures.most in
    let m = c.rank.ensures.most in
    let f = fits_signed_from_abs w64 c.rank.result (omega arith) in
    crossing_is c.args.self.now.lines c.args.line c.args.edge.now c.args.number c.moved-place.result _ _
    (rw (k.way_is, k.whole_is) at c.moved-place.ensures)
    (to_z-of_z w64 c.rank.result f ∙ c.rank.ensures.value)
    (ap₂ int_lt k.below_is k.above_is)
