use Rattle.polygons.proofs.Tests.{lt_from, lt_not}
use Rattle.polygons.proofs.Ends.{climbed, max_read, climb_some, climb_none}
use Rattle.polygons.proofs.ruling.Ruling.climb.Goals as goal

pub line_from-end-requires : goal.line_from-end-requires
line_from-end-requires c = max_read c.height-from.result c.height-to.result c.max.result c.height-from.ensures.most c.height-to.ensures.most c.max.ensures.value

pub returns-then-first-end-clause-value : goal.returns-then-first-end-clause-value
returns-then-first-end-clause-value c =
    let lines = c.args.self.now.lines in
    let k = climbed lines c.height-from.result c.height-to.result c.min.result c.max.result c.line_from-first.result c.line_from-end.result
    c.height-from.ensures.most c.height-to.ensures.most c.min.ensures.value c.max.ensures.value
    c.line_from-first.ensures.value c.line_from-end.ensures.value c.line_from-first.ensures.most c.line_from-end.ensures.most in
    let tf = k.first_back in
    let te = k.end_back in
    let h = rw (tf, te) at c.if-first-end.true in
    rw (tf, te) (climb_some lines c.args.edge.now c.args.number c.height-from.result c.height-to.result _ _ c.line_from-first.result c.line_from-end.result
    c.height-from.ensures.value c.height-to.ensures.value k.low_is k.high_is k.first_is k.end_is (lt_from c.line_from-first.result c.line_from-end.result h))

pub returns-clause-value : goal.returns-clause-value
returns-clause-value c =
    let lines = c.args.self.now.lines in
    let k = climbed lines c.height-from.result c.height-to.result c.min.result c.max.result c.line_from-first.result c.line_from-end.result
    c.height-from.ensures.most c.height-to.ensures.most c.min.ensures.value c.max.ensures.value
    c.line_from-first.ensures.value c.line_from-end.ensures.value c.line_from-first.ensures.most c.line_from-end.ensures.most in
    let tf = k.first_back in
    let te = k.end_back in
    let h = rw (tf, te) at c.if-first-end.false in
    climb_none lines c.args.edge.now c.args.number c.height-from.result c.height-to.result _ _ c.line_from-first.result c.line_from-end.result
    c.height-from.ensures.value c.height-to.ensures.value k.low_is k.high_is k.first_is k.end_is (lt_not c.line_from-first.result c.line_from-end.result h)
