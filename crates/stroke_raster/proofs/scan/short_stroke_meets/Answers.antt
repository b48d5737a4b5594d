use Rattle.std.proofs.Common.{rules, ◌^◌, ◌≤◌, ◌∙◌, nat_abs, FitsSigned, arith}
use mir.Syntax.{w64}
use Rattle.std.proofs.lemmas.Int.{to_z-of_z}
use Rattle.stroke_raster.specs.Bounds.{Within}
use Rattle.stroke_raster.specs.Gap.{cross}
use Rattle.stroke_raster.proofs.BoundLemmas.{scaled_within, way_within}
use Rattle.stroke_raster.proofs.ShortLemmas.{cross_small, last_within, short_test}
use Rattle.stroke_raster.proofs.scan.short_stroke_meets.Goals as goal

pub is_within-last-requires-clause-w_in : goal.is_within-last-requires-clause-w_in
is_within-last-requires-clause-w_in c =
    let s = c.args.short.now in
    let l = last_within s.course s.resolution s.width s.past s.last s.reach s.limit s.sound in
    let n : Within 786432 c.doubled-near.result = rw c.doubled-near.ensures (scaled_within 2 c.args.w 393216 2 786432 (omega arith) (omega arith) c.requires) in
    rw c.way_between-far.ensures (way_within s.last c.doubled-near.result 524288 786432 (2 ^ 21) (omega arith) l n)

pub has_square_in-line-requires : goal.has_square_in-line-requires
has_square_in-line-requires c =
    let s = c.args.short.now in
    let n : Within 786432 c.doubled-near.result = rw c.doubled-near.ensures (scaled_within 2 c.args.w 393216 2 786432 (omega arith) (omega arith) c.requires) in
    let k : nat_abs (cross s.course c.doubled-near.result) ≤ 2 ^ 31 = (let m = cross_small s.course c.doubled-near.result 786432 n in omega (arith, m, s.sound.short.course)) in
    let f : FitsSigned w64 c.cross_product-beside.result = search rules in
    simp to_z-of_z (rw c.cross_product-beside.ensures.value k)

pub returns : goal.returns
returns c =
    let s = c.args.short.now in
    let t = short_test s.course c.args.w s.last s.resolution s.width s.past s.reach s.limit s.sound in
    let fa : FitsSigned w64 c.dot_product-along.result = search rules in
    let fc : FitsSigned w64 c.cross_product-beside.result = search rules in
    let fr : FitsSigned w64 s.reach = search rules in
    let fl : FitsSigned w64 s.limit = search rules in
    let first = simp to_z-of_z at c.is_within-first.ensures in
    let last = simp to_z-of_z at c.is_within-last.ensures in
    let line = simp to_z-of_z at c.has_square_in-line.ensures in
    let between = simp to_z-of_z at c.is_between.ensures in
    let e = rw (first, last, line, between, c.dot_product-along.ensures.value, c.cross_product-beside.ensures.value, c.way_between-far.ensures, c.doubled-near.ensures) at c.any_of.ensures in
    e ∙ t
