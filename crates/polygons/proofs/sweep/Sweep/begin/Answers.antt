use Rattle.std.proofs.Common.{arith, ◌<◌, length, inl, ap}
use Rattle.polygons.proofs.Steps.{begun_one, ready_at, ready_after, first_near}
use Rattle.polygons.proofs.Bits.{small_back}
use Rattle.polygons.proofs.Tests.{lt_not, lt_from}
use Rattle.std.proofs.lemmas.List.{length_push}
use Rattle.polygons.proofs.sweep.Sweep.begin.Goals as goal

pub climbs-preserved : goal.climbs-preserved
climbs-preserved c =
    let s = c.climbs.self in
    let m = c.climbs.invariant in
    let x = c.index-climb.result.now in
    let l : s.begun < length s.climbs.items = omega (arith, c.climbs-test.true, c.len.ensures, s.climbs.ok.0) in
    let near = first_near s x m.cut.sound l c.index-climb.ensures in
    let f = lt_not s.line x.first (rw (small_back s.line m.cut.sound.line_in, small_back x.first near) at c.if-climb-self.false) in
    let h = begun_one s x c.push.new.self m.cut.sound l c.index-climb.ensures f c.in_ok-push.ensures.items in
    let n = ap length c.in_ok-push.ensures.items in
    record {
      cut = record { sound = h; begins = inl (omega (arith, n, length_push s.active.items x)) };
      same = m.same;
      these_are = m.these_are;
    }

pub returns-after-climbs-clause-ready : goal.returns-after-climbs-clause-ready
returns-after-climbs-clause-ready c =
    let s = c.climbs.self in
    ready_after s c.climbs.invariant.cut (omega (arith, c.climbs-test.false, c.len.ensures, s.climbs.ok.0))

pub returns-then-climb-self-clause-ready : goal.returns-then-climb-self-clause-ready
returns-then-climb-self-clause-ready c =
    let s = c.climbs.self in
    let m = c.climbs.invariant in
    let x = c.index-climb.result.now in
    let l : s.begun < length s.climbs.items = omega (arith, c.climbs-test.true, c.len.ensures, s.climbs.ok.0) in
    let near = first_near s x m.cut.sound l c.index-climb.ensures in
    let f = lt_from s.line x.first (rw (small_back s.line m.cut.sound.line_in, small_back x.first near) at c.if-climb-self.true) in
    ready_at s x m.cut l c.index-climb.ensures f
