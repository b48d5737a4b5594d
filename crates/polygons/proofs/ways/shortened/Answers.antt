use Rattle.std.proofs.Common.{◌^◌, arith}
use Rattle.polygons.proofs.Shares.{is_whole, not_zero, part_within, same_share, shorter_part}
use Rattle.polygons.proofs.ways.shortened.Goals as goal

pub returns-then-ticks_u-u-clause-part : goal.returns-then-ticks_u-u-clause-part
returns-then-ticks_u-u-clause-part c =
    let t = is_whole c.args.t c.div_euclid-ticks_t.result _ (part_within c.args.t c.args.u c.requires) c.div_euclid-ticks_t.ensures c.if-ticks_t-t.true c.from.ensures in
    let u = is_whole c.args.u c.div_euclid-ticks_u.result _ c.requires.most c.div_euclid-ticks_u.ensures c.if-ticks_u-u.true c.from-then-ticks_u-u.ensures in
    rw (t.read, u.read) (shorter_part (10 ^ 7) c.args.t c.args.u _ _ (omega arith) t.product u.product c.requires)

pub returns-then-ticks_u-u-clause-same : goal.returns-then-ticks_u-u-clause-same
returns-then-ticks_u-u-clause-same c = λ d.
    let t = is_whole c.args.t c.div_euclid-ticks_t.result _ (part_within c.args.t c.args.u c.requires) c.div_euclid-ticks_t.ensures c.if-ticks_t-t.true c.from.ensures in
    let u = is_whole c.args.u c.div_euclid-ticks_u.result _ c.requires.most c.div_euclid-ticks_u.ensures c.if-ticks_u-u.true c.from-then-ticks_u-u.ensures in
    let some = not_zero (10 ^ 7) c.div_euclid-ticks_u.result c.args.u u.product c.requires.not_zero in
    rw (t.read, u.read) (same_share (10 ^ 7) d c.args.t c.args.u c.div_euclid-ticks_t.result c.div_euclid-ticks_u.result (omega arith) t.product u.product some)
