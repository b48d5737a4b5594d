use Rattle.std.proofs.Common.{take, arith, rules, FitsSigned}
use mir.Syntax.{w64}
use Rattle.std.proofs.lemmas.Int.{to_z-of_z}
use Rattle.std.proofs.lemmas.List.{drop_all, length-take, with_items_is}
use Rattle.areas.proofs.sweep.AreaSweep.begin.Goals as goal

pub returns-clause-follows : goal.returns-clause-follows
returns-clause-follows c =
    let ft : FitsSigned w64 c.args.top = search rules in
    let fb : FitsSigned w64 c.args.bottom = search rules in
    let near = c.gather-self.new.room in
    let written = with_items_is c.args.self.now.near near (omega (arith, c.gather-self.ensures.same, c.as_mut_slice.ensures.len, c.args.self.now.near.ok.0)) in
    let are = simp to_z-of_z at c.gather-self.ensures.are in
    let room = c.requires.room in
    let n = c.gather-self.result in
    let long = length-take n near in
    let none = drop_all n (take n near) (omega (arith, long)) in
    record {
      order = omega arith;
      few = rw written (omega (arith, c.gather-self.ensures.few, c.gather-self.ensures.same, c.as_mut_slice.ensures.len, room.near));
      crossings = omega (arith, c.gather-self.ensures.few, room.crossings);
      ranges = omega (arith, c.gather-self.ensures.few, room.ranges);
      swept = rw (written, none) are;
    }
