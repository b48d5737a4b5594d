use Rattle.std.proofs.Common.{ap, sym, ◌∙◌, Some, arith}
use Rattle.areas.proofs.Apart.{end_placed, end_unplaced}
use Rattle.areas.proofs.among.Areas.ending_near.Goals as goal
use Rattle.areas.proofs.among.Areas.ending_near.Goals.{else-at-self-via-then-at-self+else-self-at, else-at-self-via-else-at-self}

pub returns-then-self-at : goal.returns-then-self-at
returns-then-self-at c =
    let areas = c.args.self.now in
    let found = end_placed areas.before areas.list.now areas.apart c.args.end c.place_near-at.result (omega (arith, c.if-at-self.true)) (omega (arith, c.if-self-at.true)) in
    ap Some c.counted.ensures ∙ sym found

pub returns : goal.returns
returns c =
    let areas = c.args.self.now in
    sym (end_unplaced areas.before areas.list.now areas.apart c.args.end c.place_near-at.result c.place_near-at.ensures (λ within here. elim c.else-at-self.branch [
      | else-at-self-via-then-at-self+else-self-at w ↦ w.if-self-at.false here
      | else-at-self-via-else-at-self w ↦ omega (arith, within, w.if-at-self.false)
    ]))
